use Rattle.term_paths.proofs.OutermostLemmas.{outermost_are_enough}
use Rattle.term_paths.proofs.laws.outermost_edits_are_enough.Goals as goal

pub returns : goal.returns
returns c = outermost_are_enough
