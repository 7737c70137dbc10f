use Rattle.term_changes.proofs.EditLemmas.{edits_come_to}
use Rattle.term_changes.proofs.laws.edits.Goals as goal

pub returns : goal.returns
returns c = edits_come_to
