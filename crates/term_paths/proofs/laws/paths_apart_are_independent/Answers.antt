use Rattle.term_paths.proofs.ApartLemmas.{apart_is_left, apart_is_left_by_annotations, apart_commute, apart_annotations_commute, apart_mixed_commute}
use Rattle.term_paths.proofs.laws.paths_apart_are_independent.Goals as goal

pub returns-clause-left : goal.returns-clause-left
returns-clause-left c = apart_is_left

pub returns-clause-left_by_annotations : goal.returns-clause-left_by_annotations
returns-clause-left_by_annotations c = apart_is_left_by_annotations

pub returns-clause-order : goal.returns-clause-order
returns-clause-order c = apart_commute

pub returns-clause-order_of_annotations : goal.returns-clause-order_of_annotations
returns-clause-order_of_annotations c = apart_annotations_commute

pub returns-clause-order_of_both : goal.returns-clause-order_of_both
returns-clause-order_of_both c = apart_mixed_commute
