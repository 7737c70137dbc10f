use Rattle.std.proofs.Common.{arith}
use Rattle.term_values.proofs.PlaceLemmas.{nth_within}
use Rattle.term_values.proofs.children.original_at.Goals as goal

pub original_bounded-requires : goal.original_bounded-requires
original_bounded-requires c =
    nth_within c.args.terms.now c.args.within c.args.i c.index-terms-i.result (omega (arith, c.if-i-terms.false))
    c.index-terms-i.is c.requires
