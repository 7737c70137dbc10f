use Rattle.term_changes.proofs.ContentsLemmas.{new_slots_are_empty, tree_put, tree_taken, module_put, module_taken, subterm_put, annotations_put, tree_of_name, module_of_name}
use Rattle.change_log.proofs.laws.contents_by_name.Goals as goal

pub returns-clause-new_slots : goal.returns-clause-new_slots
returns-clause-new_slots c = new_slots_are_empty

pub returns-clause-tree_put : goal.returns-clause-tree_put
returns-clause-tree_put c = tree_put

pub returns-clause-tree_taken : goal.returns-clause-tree_taken
returns-clause-tree_taken c = tree_taken

pub returns-clause-module_put : goal.returns-clause-module_put
returns-clause-module_put c = module_put

pub returns-clause-module_taken : goal.returns-clause-module_taken
returns-clause-module_taken c = module_taken

pub returns-clause-subterm_put : goal.returns-clause-subterm_put
returns-clause-subterm_put c = subterm_put

pub returns-clause-annotations_put : goal.returns-clause-annotations_put
returns-clause-annotations_put c = annotations_put

pub returns-clause-tree : goal.returns-clause-tree
returns-clause-tree c = tree_of_name

pub returns-clause-text : goal.returns-clause-text
returns-clause-text c = module_of_name
