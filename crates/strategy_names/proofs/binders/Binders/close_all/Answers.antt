use Rattle.std.proofs.Common.{drop, ap, ◌∙◌}
use Rattle.strategy_names.proofs.BinderLemmas.{drop-one}
use Rattle.strategy_names.proofs.binders.Binders.close_all.Goals as goal

pub loop-preserved : goal.loop-preserved
loop-preserved c = c.in_ok-close.ensures ∙ ap (drop 1) c.loop.invariant ∙ drop-one c.loop.counter c.args.self.now
