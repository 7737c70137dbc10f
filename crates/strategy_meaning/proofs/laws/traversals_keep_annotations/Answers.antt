use Rattle.strategy_meaning.proofs.UsualLemmas.{traversals_keep_annotations}
use Rattle.strategy_meaning.proofs.laws.traversals_keep_annotations.Goals as goal

pub returns : goal.returns
returns c = traversals_keep_annotations
