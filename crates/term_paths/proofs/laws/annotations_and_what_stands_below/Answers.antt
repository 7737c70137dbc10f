use Rattle.term_paths.proofs.WithinLemmas.{below_is_left_by_annotations, annotations_and_below_commute, annotations_below_commute}
use Rattle.term_paths.proofs.laws.annotations_and_what_stands_below.Goals as goal

pub returns-clause-left : goal.returns-clause-left
returns-clause-left c = below_is_left_by_annotations

pub returns-clause-order : goal.returns-clause-order
returns-clause-order c = annotations_and_below_commute

pub returns-clause-order_of_annotations : goal.returns-clause-order_of_annotations
returns-clause-order_of_annotations c = annotations_below_commute
