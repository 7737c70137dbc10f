use Rattle.term_core.specs.Size.{size}
use Rattle.term_values.specs.Seen.{seen_tree}
use Rattle.term_order.proofs.tables.+first_taken.Given as goal

abbrev pub decreases-first_taken : goal.decreases-first_taken
decreases-first_taken l = size (seen_tree l.table)
