use Rattle.term_paths.proofs.PathLemmas.{at-append}
use Rattle.term_paths.proofs.LawLemmas.{set_after, set_annotations_after}
use Rattle.term_paths.proofs.laws.one_path_after_another.Goals as goal

pub returns-clause-at : goal.returns-clause-at
returns-clause-at c = at-append

pub returns-clause-subterm : goal.returns-clause-subterm
returns-clause-subterm c = set_after

pub returns-clause-annotations : goal.returns-clause-annotations
returns-clause-annotations c = set_annotations_after
