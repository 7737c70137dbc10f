use Rattle.strategy_meaning.proofs.Elsewhere.{closed_runs_are_the_same}
use Rattle.strategy_meaning.proofs.laws.closed_runs_are_the_same.Goals as goal

pub returns : goal.returns
returns c = closed_runs_are_the_same
