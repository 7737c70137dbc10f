use Rattle.term_paths.proofs.LawLemmas.{last_set_stays, last_annotations_stay, subterm_after_annotations}
use Rattle.term_paths.proofs.laws.the_last_set_stays.Goals as goal

pub returns-clause-subterm : goal.returns-clause-subterm
returns-clause-subterm c = last_set_stays

pub returns-clause-annotations : goal.returns-clause-annotations
returns-clause-annotations c = last_annotations_stay

pub returns-clause-subterm_after_annotations : goal.returns-clause-subterm_after_annotations
returns-clause-subterm_after_annotations c = subterm_after_annotations
