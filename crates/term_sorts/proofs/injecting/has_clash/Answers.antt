use Rattle.std.proofs.Common.{ℕ, get_or, subst, sym, arith, below_more}
use Rattle.term_sorts.specs.inside.Gaining.{ClashesWith}
use Rattle.term_sorts.specs.inside.TableView.{sorts_in}
use Rattle.term_sorts.proofs.ListLemmas.{value_at}
use Rattle.term_sorts.proofs.injecting.has_clash.Goals as goal

pub loop-number-preserved : goal.loop-number-preserved
loop-number-preserved c =
    below_more (λ k. ClashesWith (sorts_in c.args.rows.now) (get_or c.args.taken.now k 0) c.args.gained.now → ⊥)
    c.loop-number.number-index c.loop-number.invariant
    (λ h. let yes = c.clashes.ensures.1 h in let not = c.if-clashes.false in cc)

pub returns : goal.returns
returns c = (
  λ e. absurd (cc),
  λ h. let v = value_at c.args.taken.now h.0 h.1 in
      absurd (c.loop-number.invariant v.0 (omega (arith, v.1, c.loop-number-test.false))
      (subst (λ (n : ℕ). ClashesWith (sorts_in c.args.rows.now) n c.args.gained.now) (sym v.2) h.2)),
)
