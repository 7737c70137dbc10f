use Rattle.term_order.proofs.TableLemmas.{put_puts}
use Rattle.term_order.proofs.laws.put_puts.Goals as goal

pub returns : goal.returns
returns c = put_puts
