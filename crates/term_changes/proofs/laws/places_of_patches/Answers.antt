use Rattle.term_changes.proofs.TwiceLemmas.{places_stay}
use Rattle.term_changes.proofs.OrderLemmas.{taken_is_there, either_order}
use Rattle.term_changes.proofs.laws.places_of_patches.Goals as goal

pub returns-clause-taken : goal.returns-clause-taken
returns-clause-taken c = taken_is_there

pub returns-clause-order : goal.returns-clause-order
returns-clause-order c = either_order

pub returns-clause-stay : goal.returns-clause-stay
returns-clause-stay c = places_stay
