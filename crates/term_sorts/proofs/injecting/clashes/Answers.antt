use Rattle.std.proofs.Common.{ℕ, subst, sym, ◌∙◌, arith}
use Rattle.term_sorts.specs.inside.Gaining.{NumbersAreAlike}
use Rattle.term_sorts.specs.inside.TableView.{sorts_in}
use Rattle.term_sorts.proofs.ListLemmas.{value_at}
use Rattle.term_sorts.proofs.injecting.clashes.Goals as goal

pub returns : goal.returns
returns c = (
  λ e. absurd (cc),
  λ h. let v = value_at c.args.gained.now h.0 h.1 in
      absurd (c.loop-other.invariant v.0 (omega (arith, v.1, c.loop-other-test.false)) (λ e. h.2 (sym v.2 ∙ e))
      (subst (λ (n : ℕ). NumbersAreAlike (sorts_in c.args.rows.now) c.args.number n) (sym v.2) h.3)),
)
