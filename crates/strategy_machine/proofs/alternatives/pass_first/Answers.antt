use Rattle.std.proofs.Common.{◌∙◌, ◌-◌, ap, sym, refl, subst, arith}
use Rattle.strategy_syntax.specs.Resolved.{ResolvedStrategy}
use Rattle.strategy_syntax.specs.ResolvedView.{resolved_of}
use Rattle.strategy_machine.specs.inside.Missing.{SkipsOver}
use Rattle.strategy_machine.proofs.HeadLemmas.{passes_none, passes_as, passes_more}
use Rattle.strategy_machine.proofs.ApartLemmas.{passes_first}
use Rattle.strategy_machine.proofs.alternatives.pass_first.Goals as goal

pub first-init : goal.first-init
first-init c = record { less = omega arith; same = λ t h. (passes_none _ _ t, h) }

pub returns-in_default : goal.returns-in_default
returns-in_default c = record { same = λ t h. (c.first.invariant.same t h).0; less = c.first.invariant.less }

pub returns : goal.returns
returns c = record { same = λ t h. (c.first.invariant.same t h).0; less = c.first.invariant.less }

pub first-preserved : goal.first-preserved
first-preserved c = record {
  less = omega (arith, c.first.invariant.less);
  same = λ t h.
      let before = c.first.invariant.same t h in
      let is = c.form.ensures ∙ ap resolved_of c.in-Guard.is in
      let last = ap (λ x. x.2) (sym c.deref.ensures) in
      let both = passes_first c.first.strategy.now c.in-Guard.parts.value.0 c.in-Guard.parts.value.1
      c.in-Guard.parts.value.2 (c.first.rest - 1) c.first.rest c.first.left (c.first.left - 4) t
      is (omega arith) (omega arith) before.1 in (
        passes_more _ _ _ _ _ _ t before.0 (passes_as _ _ _ _ _ _ t refl last both.0),
        subst (λ (s : ResolvedStrategy). SkipsOver (c.first.rest - 1) s t) last both.1,
      );
}
