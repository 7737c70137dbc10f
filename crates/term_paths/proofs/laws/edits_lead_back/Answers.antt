use Rattle.term_paths.proofs.EditLemmas.{edits_lead_back}
use Rattle.term_paths.proofs.laws.edits_lead_back.Goals as goal

pub returns : goal.returns
returns c = edits_lead_back
