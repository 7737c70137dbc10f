use Rattle.std.proofs.Common.{◌∙◌, ◌+◌, ◌-◌, ap, sym, arith}
use Rattle.term_changes.specs.Standing.{standing_tree}
use Rattle.strategy_syntax.specs.ResolvedView.{resolved_of}
use Rattle.strategy_machine.proofs.HeadLemmas.{passes_none, passes_more}
use Rattle.strategy_machine.proofs.ApartLemmas.{passes_first, and_then_first}
use Rattle.strategy_machine.proofs.alternatives.after_first.Goals as goal

pub returns-clause-same : goal.returns-clause-same
returns-clause-same c =
    let t = standing_tree c.args.part.now in
    let v = c.in-Guard.parts.value in
    let n = c.skipped-count.result in
    let both = passes_first c.args.strategy.now v.0 v.1 v.2 (n - 1) n (c.args.steps + 1) (c.args.steps - 3) t
    (c.form.ensures ∙ ap resolved_of c.in-Guard.is) (omega (arith, c.if-count-eq0.false))
    (omega (arith, c.if-steps-lt3.false)) c.skipped-count.ensures in
    passes_more _ _ _ _ _ _ t (and_then_first c.args.strategy.now c.args.strategy.now v.2 _ _ (c.args.steps + 1)
    (c.args.steps + 1) (c.args.steps - 3) c.pass_first-passed.result.1 (n - 1) t (ap (λ x. x.2) (sym c.deref.ensures))
    (passes_none c.args.strategy.now (c.args.steps + 1) t) both.0 both.1 c.pass_first-passed.ensures.same)
    c.after_rules.ensures.same
