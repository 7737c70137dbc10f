use Rattle.term_changes.proofs.PlacesLogged.{all_lead_back, all_fit}
use Rattle.term_changes.proofs.laws.logs_of_changes.Goals as goal

pub returns-clause-back : goal.returns-clause-back
returns-clause-back c = all_lead_back

pub returns-clause-fit : goal.returns-clause-fit
returns-clause-fit c = all_fit
