use Rattle.term_core.specs.Size.{size}
use Rattle.term_values.specs.Seen.{seen_tree}
use Rattle.term_order.proofs.tables.+removed_in.Given as goal

abbrev pub decreases-removed_in : goal.decreases-removed_in
decreases-removed_in l = size (seen_tree l.table)
