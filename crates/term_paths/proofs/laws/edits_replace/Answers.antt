use Rattle.term_paths.proofs.EditLemmas.{edits_make_the_tree, edits_after_edits, edits_of_a_subterm}
use Rattle.term_paths.proofs.laws.edits_replace.Goals as goal

pub returns-clause-tree : goal.returns-clause-tree
returns-clause-tree c = edits_make_the_tree

pub returns-clause-more : goal.returns-clause-more
returns-clause-more c = edits_after_edits

pub returns-clause-inside : goal.returns-clause-inside
returns-clause-inside c = edits_of_a_subterm
