use Rattle.term_order.proofs.TableLemmas.{empty_is_table}
use Rattle.term_order.proofs.laws.empty_is_table.Goals as goal

pub returns : goal.returns
returns c = empty_is_table
