use Rattle.std.proofs.Common.{◌≡◌, ℕ, zero, suc, List, [], ◌∷◌, length, get_or, slice_set, ap, ◌∙◌, arith}
use Rattle.term_core.specs.Tree.{Tree}
use Rattle.term_values.proofs.build.two_with.Goals as goal

the_second : (us : List Tree) (i : ℕ) (u v d : Tree) → length us ≡ 2 → i ≡ 1 → v ≡ get_or us 0 d
    → v ∷ u ∷ [] ≡ slice_set us i u
the_second [] i u v d n e is = absurd (omega (arith, n))
the_second (a ∷ []) i u v d n e is = absurd (omega (arith, n))
the_second (a ∷ b ∷ []) zero u v d n e is = absurd (omega (arith, e))
the_second (a ∷ b ∷ []) (suc zero) u v d n e is = ap (λ x. x ∷ u ∷ []) is
the_second (a ∷ b ∷ []) (suc (suc i)) u v d n e is = absurd (omega (arith, e))
the_second (a ∷ b ∷ x ∷ us) i u v d n e is = absurd (omega (arith, n))

pub returns-then-i-eq1 : goal.returns-then-i-eq1
returns-then-i-eq1 c = the_second c.args.all.now c.args.i c.args.value c.in_ok-try_clone-2.field-0 _ c.requires
    c.if-i-eq1.true (c.in_ok-try_clone-2.ensures ∙ c.index-all-0.is)
