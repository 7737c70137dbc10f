-- The tree that a walk visits.
use Rattle.term_core.specs.Tree.{Tree}
use Rattle.term_changes.specs.Standing.{standing_tree}
use Rattle.term_values.specs.declared.elements.Seen.{Seen}
use Rattle.term_values.specs.declared.elements.Seen.TheVariants as seen

abbrev pub seen_tree : Seen → Tree
seen_tree (seen.Term t) = t.now
seen_tree (seen.Value v) = v.now
seen_tree (seen.Part p) = standing_tree p.now
