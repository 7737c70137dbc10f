use Rattle.term_order.proofs.OrderLemmas.{terms_are_ordered}
use Rattle.term_order.proofs.laws.terms_are_ordered.Goals as goal

pub returns : goal.returns
returns c = terms_are_ordered
