use Rattle.term_core.specs.Size.{size}
use Rattle.term_values.specs.Seen.{seen_tree}
use Rattle.term_order.proofs.tables.+value_at.Given as goal

abbrev pub decreases-value_at : goal.decreases-value_at
decreases-value_at l = size (seen_tree l.table)
