use Rattle.session_history.proofs.SoundLemmas.{change_is_to_contents}
use Rattle.session_history.proofs.HistoryLemmas.{change_is_undone, group_is_undone, redo_takes_undo_back, undo_takes_redo_back}
use Rattle.session_core.proofs.laws.undo_and_redo_are_inverse.Goals as goal

pub returns-clause-contents : goal.returns-clause-contents
returns-clause-contents c = change_is_to_contents

pub returns-clause-change : goal.returns-clause-change
returns-clause-change c = change_is_undone

pub returns-clause-group : goal.returns-clause-group
returns-clause-group c = group_is_undone

pub returns-clause-redo : goal.returns-clause-redo
returns-clause-redo c = redo_takes_undo_back

pub returns-clause-undo : goal.returns-clause-undo
returns-clause-undo c = undo_takes_redo_back
