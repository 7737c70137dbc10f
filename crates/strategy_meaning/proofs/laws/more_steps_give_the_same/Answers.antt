use Rattle.strategy_meaning.proofs.StepLemmas.{more_steps_give_the_same}
use Rattle.strategy_meaning.proofs.AppliedLemmas.{more_steps_apply_the_same}
use Rattle.strategy_meaning.proofs.laws.more_steps_give_the_same.Goals as goal

pub returns-clause-run : goal.returns-clause-run
returns-clause-run c = more_steps_give_the_same

pub returns-clause-applied : goal.returns-clause-applied
returns-clause-applied c = more_steps_apply_the_same
