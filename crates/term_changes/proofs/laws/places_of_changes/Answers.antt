use Rattle.term_changes.proofs.ApartLemmas.{places_lie_apart}
use Rattle.term_changes.proofs.PlacesMade.{places_make_the_change}
use Rattle.term_changes.proofs.StoreLemmas.{places_put_the_change, places_are_there}
use Rattle.term_changes.proofs.laws.places_of_changes.Goals as goal

pub returns-clause-apart : goal.returns-clause-apart
returns-clause-apart c = places_lie_apart

pub returns-clause-make : goal.returns-clause-make
returns-clause-make c = places_make_the_change

pub returns-clause-put : goal.returns-clause-put
returns-clause-put c = places_put_the_change

pub returns-clause-there : goal.returns-clause-there
returns-clause-there c = places_are_there
