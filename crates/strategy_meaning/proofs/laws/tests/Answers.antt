use Rattle.strategy_meaning.proofs.UsualLemmas.{where_leaves}
use Rattle.strategy_meaning.proofs.laws.tests.Goals as goal

pub returns : goal.returns
returns c = where_leaves
