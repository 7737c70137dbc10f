use Rattle.std.proofs.Common.{sym, subst}
use Rattle.strategy_syntax.specs.Resolved.{ResolvedStrategy}
use Rattle.strategy_syntax.specs.ResolvedView.{resolved_of}
use Rattle.strategy_syntax.specs.inside.Skipping.{count_of, Skipping}
use Rattle.strategy_syntax.specs.declared.skips.Skips.{Skips}
use Rattle.strategy_syntax.proofs.SkippingLemmas.{at_most, kept_is}
use Rattle.strategy_syntax.proofs.resolved.ResolvedStrategy.skipped_for_others.Goals as goal

pub returns-in-Some : goal.returns-in-Some
returns-in-Some c = λ r d other.
    let kept : Skipping c.deref.result.now (resolved_of c.self.inside.form) =
    subst (λ (k : Skips). Skipping k (resolved_of c.self.inside.form)) (sym c.deref.ensures)
    (kept_is _ c.in-Some.skips (resolved_of c.self.inside.form) c.in-Some.is c.self.invariant) in
    at_most c.count_for_others.result (count_of c.deref.result.now r d) c.args.self.now r d
    ((subst (λ (s : ResolvedStrategy). Skipping c.deref.result.now s) c.self.view_is kept).apart r d)
    (c.count_for_others.ensures r d other)
