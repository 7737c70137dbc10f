use Rattle.term_order.proofs.TableLemmas.{terms_are_their_tables}
use Rattle.term_order.proofs.laws.terms_are_their_tables.Goals as goal

pub returns : goal.returns
returns c = terms_are_their_tables
