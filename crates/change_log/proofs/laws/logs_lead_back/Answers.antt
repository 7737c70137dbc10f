use Rattle.term_changes.proofs.EntryLemmas.{pushed_leads_back, rolled_back_leads_back}
use Rattle.change_log.proofs.laws.logs_lead_back.Goals as goal

pub returns-clause-pushed : goal.returns-clause-pushed
returns-clause-pushed c = pushed_leads_back

pub returns-clause-rolled_back : goal.returns-clause-rolled_back
returns-clause-rolled_back c = rolled_back_leads_back
