use Rattle.term_paths.proofs.WithinLemmas.{set_around, set_around_annotations, set_inside, set_annotations_inside, leads_around_subterm, leads_around_annotations}
use Rattle.term_paths.proofs.laws.one_path_within_another.Goals as goal

pub returns-clause-around : goal.returns-clause-around
returns-clause-around c = set_around

pub returns-clause-around_annotations : goal.returns-clause-around_annotations
returns-clause-around_annotations c = set_around_annotations

pub returns-clause-inside : goal.returns-clause-inside
returns-clause-inside c = set_inside

pub returns-clause-annotations_inside : goal.returns-clause-annotations_inside
returns-clause-annotations_inside c = set_annotations_inside

pub returns-clause-leads : goal.returns-clause-leads
returns-clause-leads c = leads_around_subterm

pub returns-clause-leads_by_annotations : goal.returns-clause-leads_by_annotations
returns-clause-leads_by_annotations c = leads_around_annotations
