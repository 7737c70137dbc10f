use Rattle.term_order.proofs.TableLemmas.{removed_removes}
use Rattle.term_order.proofs.laws.removed_removes.Goals as goal

pub returns : goal.returns
returns c = removed_removes
