use Rattle.std.proofs.Common.{◌≡◌, ℕ, zero, suc, List, [], ◌∷◌, length, slice_set, refl, arith}
use Rattle.term_core.specs.Tree.{Tree}
use Rattle.term_values.proofs.build.one_with.Goals as goal

the_only : (us : List Tree) (i : ℕ) (u : Tree) → length us ≡ 1 → i ≡ 0 → u ∷ [] ≡ slice_set us i u
the_only [] i u n e = absurd (omega (arith, n))
the_only (v ∷ []) zero u n e = refl
the_only (v ∷ []) (suc i) u n e = absurd (omega (arith, e))
the_only (v ∷ w ∷ us) i u n e = absurd (omega (arith, n))

pub returns-then-i-eq0 : goal.returns-then-i-eq0
returns-then-i-eq0 c = the_only c.args.all.now c.args.i c.args.value c.requires c.if-i-eq0.true
