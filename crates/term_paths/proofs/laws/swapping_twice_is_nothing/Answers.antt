use Rattle.term_paths.proofs.LawLemmas.{swapping_twice, swapping_annotations_twice}
use Rattle.term_paths.proofs.laws.swapping_twice_is_nothing.Goals as goal

pub returns-clause-subterm : goal.returns-clause-subterm
returns-clause-subterm c = swapping_twice

pub returns-clause-annotations : goal.returns-clause-annotations
returns-clause-annotations c = swapping_annotations_twice
