use Rattle.term_core.specs.Size.{size}
use Rattle.term_values.specs.Seen.{seen_tree}
use Rattle.term_order.proofs.tables.+add_keys.Given as goal

abbrev pub decreases-add_keys : goal.decreases-add_keys
decreases-add_keys l = size (seen_tree l.table)
