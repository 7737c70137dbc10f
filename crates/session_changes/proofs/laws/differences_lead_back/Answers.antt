use Rattle.session_changes.proofs.BackLemmas.{differences_lead_back, equal_trees_dont_differ}
use Rattle.session_changes.proofs.PlaceOrderLemmas.{differences_are_in_order}
use Rattle.session_changes.proofs.StandingLemmas.{each_place_differs}
use Rattle.session_changes.proofs.NothingLemmas.{nothing_listed}
use Rattle.session_changes.proofs.laws.differences_lead_back.Goals as goal

pub returns-clause-back : goal.returns-clause-back
returns-clause-back c = differences_lead_back

pub returns-clause-equal : goal.returns-clause-equal
returns-clause-equal c = equal_trees_dont_differ

pub returns-clause-order : goal.returns-clause-order
returns-clause-order c = differences_are_in_order

pub returns-clause-each : goal.returns-clause-each
returns-clause-each c = each_place_differs

pub returns-clause-nothing : goal.returns-clause-nothing
returns-clause-nothing c = nothing_listed
