use Rattle.term_core.specs.Size.{size}
use Rattle.term_values.specs.Seen.{seen_tree}
use Rattle.term_order.proofs.tables.+put_in.Given as goal

abbrev pub decreases-put_in : goal.decreases-put_in
decreases-put_in l = size (seen_tree l.table)
