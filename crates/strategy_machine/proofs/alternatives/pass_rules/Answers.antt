use Rattle.std.proofs.Common.{◌∙◌, ◌-◌, ap, sym, refl, arith}
use Rattle.term_changes.specs.Standing.{standing_tree}
use Rattle.strategy_syntax.specs.ResolvedView.{resolved_of}
use Rattle.strategy_machine.proofs.HeadLemmas.{passes_none, passes_as, passes_rule}
use Rattle.strategy_machine.proofs.ApartLemmas.{passes_first, and_then_first, skips_no_more}
use Rattle.strategy_machine.proofs.alternatives.pass_rules.Goals.{then-count-eq0+in-Some+else-not-rules_out, else-count-eq0}
use Rattle.strategy_machine.proofs.alternatives.pass_rules.Goals as goal

pub rules-init : goal.rules-init
rules-init c = record { less = omega arith; same = passes_none _ _ _ }

pub returns-in_default : goal.returns-in_default
returns-in_default c = record { same = c.rules.invariant.same; less = c.rules.invariant.less }

pub returns-in_default-left_side : goal.returns-in_default-left_side
returns-in_default-left_side c = record { same = c.rules.invariant.same; less = c.rules.invariant.less }

pub returns-then-not-rules_out : goal.returns-then-not-rules_out
returns-then-not-rules_out c = record { same = c.rules.invariant.same; less = c.rules.invariant.less }

pub returns : goal.returns
returns c = record { same = c.rules.invariant.same; less = c.rules.invariant.less }

pub rules-preserved : goal.rules-preserved
rules-preserved c =
    let t = standing_tree c.args.part.now in
    let v = c.in-Guard.parts.value in
    let n = c.if-count-eq0.count in
    let left = c.rules.left in
    let is = c.form.ensures ∙ ap resolved_of c.in-Guard.is in
    let last = ap (λ x. x.2) (sym c.deref-in-rules.ensures) in
    elim c.if-count-eq0.branch [
      | then-count-eq0+in-Some+else-not-rules_out w ↦ record {
        less = omega (arith, c.rules.invariant.less, c.pass_first-passed.ensures.less);
        same = and_then_first _ c.rules.strategy.now v.2 _ _ c.args.steps left (left - 4) _ (n - 1) t last
            c.rules.invariant.same
            (passes_as _ _ _ _ _ _ t is refl
            (passes_rule v.0 v.1 v.2 w.in-Some.ensures.1 w.in-Some.ensures.0 w.in-Some.pattern.now left (left - 4) t
            (ap (λ x. x.0) (sym w.deref.ensures) ∙ w.in-Some.ensures.2) (omega (arith, c.rules-test.true))
            (w.if-not-rules_out.ensures t c.kind-kind.ensures)))
            (skips_no_more (n - 1) v.2 t (omega (arith, w.count-is))) c.pass_first-passed.ensures.same;
      }
      | else-count-eq0 w ↦
          let both = passes_first c.rules.strategy.now v.0 v.1 v.2 (n - 1) c.skipped-count.result left (left - 4) t is
          (omega (arith, w.count-is, w.if-count-eq0.false)) (omega (arith, c.rules-test.true))
          c.skipped-count.ensures in record {
            less = omega (arith, c.rules.invariant.less, c.pass_first-passed.ensures.less);
            same = and_then_first _ c.rules.strategy.now v.2 _ _ c.args.steps left (left - 4) _ (n - 1) t last
                c.rules.invariant.same both.0 both.1 c.pass_first-passed.ensures.same;
          }
    ]
