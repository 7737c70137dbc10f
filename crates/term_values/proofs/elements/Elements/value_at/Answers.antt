use Rattle.term_values.specs.Seen.{seen_tree}
use Rattle.term_values.proofs.SizeLemmas.{got_within}
use Rattle.term_values.proofs.elements.Elements.value_at.Goals as goal

pub value-requires : goal.value-requires
value-requires c =
    got_within c.args.self c.args.within c.args.i (seen_tree c.in-Some.seen) c.in-Some.ensures c.requires
