use Rattle.term_paths.proofs.LawLemmas.{putting_back, putting_annotations_back}
use Rattle.term_paths.proofs.laws.putting_back.Goals as goal

pub returns-clause-subterm : goal.returns-clause-subterm
returns-clause-subterm c = putting_back

pub returns-clause-annotations : goal.returns-clause-annotations
returns-clause-annotations c = putting_annotations_back
