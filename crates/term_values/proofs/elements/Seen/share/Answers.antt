use Rattle.term_core.specs.Size.{height, size}
use Rattle.term_values.specs.Seen.{seen_tree}
use Rattle.term_values.proofs.elements.Seen.share.Goals as goal

pub value-requires : goal.value-requires
value-requires c = c.unknown.ensures (size (seen_tree c.args.self)) (height (seen_tree c.args.self))
