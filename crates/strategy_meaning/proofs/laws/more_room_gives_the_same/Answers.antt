use Rattle.strategy_meaning.proofs.StepLemmas.{more_room_gives_the_same}
use Rattle.strategy_meaning.proofs.AppliedLemmas.{more_room_applies_the_same}
use Rattle.strategy_meaning.proofs.laws.more_room_gives_the_same.Goals as goal

pub returns-clause-run : goal.returns-clause-run
returns-clause-run c = more_room_gives_the_same

pub returns-clause-applied : goal.returns-clause-applied
returns-clause-applied c = more_room_applies_the_same
