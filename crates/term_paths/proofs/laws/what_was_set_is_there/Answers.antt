use Rattle.term_paths.proofs.LawLemmas.{set_is_there, set_annotations_are_there}
use Rattle.term_paths.proofs.laws.what_was_set_is_there.Goals as goal

pub returns-clause-subterm : goal.returns-clause-subterm
returns-clause-subterm c = set_is_there

pub returns-clause-annotations : goal.returns-clause-annotations
returns-clause-annotations c = set_annotations_are_there
