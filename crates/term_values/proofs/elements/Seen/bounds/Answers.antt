use Rattle.term_core.specs.Size.{height, size}
use Rattle.term_values.specs.Seen.{seen_tree}
use Rattle.term_values.proofs.elements.Seen.bounds.Goals as goal

pub returns-in-Term : goal.returns-in-Term
returns-in-Term c = c.unknown.ensures (size (seen_tree c.args.self)) (height (seen_tree c.args.self))
