use Rattle.term_values.proofs.PlaceLemmas.{nth_within}
use Rattle.term_values.proofs.places.same_parts.Goals as goal

pub same-requires : goal.same-requires
same-requires c =
    nth_within c.args.terms.now c.args.within c.loop-term.term-index c.term-item.result c.loop-term-test.true
    c.term-item.is c.requires
