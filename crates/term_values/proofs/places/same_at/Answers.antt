use Rattle.std.proofs.Common.{Some, arith, ap, sym, ◌∙◌}
use Rattle.term_values.proofs.PlaceLemmas.{nth_within, get_unchanged}
use Rattle.term_values.proofs.places.same_at.Goals as goal

pub same-requires : goal.same-requires
same-requires c =
    nth_within c.args.terms.now c.args.within c.args.i c.index-terms-i.result (omega (arith, c.if-i-terms.false))
    c.index-terms-i.is c.requires

pub returns : goal.returns
returns c =
    ap Some c.same.ensures
    ∙ sym (get_unchanged c.args.terms.now c.args.i c.index-terms-i.result (omega (arith, c.if-i-terms.false))
    c.index-terms-i.is)
