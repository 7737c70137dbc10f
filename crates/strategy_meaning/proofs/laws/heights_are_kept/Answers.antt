use Rattle.strategy_meaning.proofs.HeightLemmas.{heights_are_kept}
use Rattle.strategy_meaning.proofs.AppliedLemmas.{applied_keeps_heights}
use Rattle.strategy_meaning.proofs.laws.heights_are_kept.Goals as goal

pub returns-clause-run : goal.returns-clause-run
returns-clause-run c = heights_are_kept

pub returns-clause-applied : goal.returns-clause-applied
returns-clause-applied c = applied_keeps_heights
