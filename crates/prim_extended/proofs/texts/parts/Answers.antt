use Rattle.std.proofs.Common.{◌∙◌, ap, arith, drop, length}
use Rattle.std.proofs.lemmas.List.{take_rest}
use Rattle.prim_core.specs.Values.{string_term}
use Rattle.prim_extended.proofs.StringLemmas.{more_parts, no_more_parts}
use Rattle.prim_extended.proofs.texts.parts.Goals as goal

pub split_at-requires : goal.split_at-requires
split_at-requires c = omega (arith, c.in-Some.ensures.1.fits)

pub loop-place-preserved : goal.loop-place-preserved
loop-place-preserved c =
    more_parts c.args.separator.now c.args.text.now c.loop-place.left.now _ c.in-Some.place c.loop-place.all.items _ _
    c.requires
    c.in-Some.ensures (c.in_ok-string.ensures ∙ ap string_term c.split_at.ensures.front) c.in_ok-push.ensures.items
    (take_rest c.split_at.result.1.now (length c.args.separator.now)
    ∙ ap (λ us. drop (length c.args.separator.now) us) c.split_at.ensures.back) c.loop-place.invariant

pub returns : goal.returns
returns c =
    no_more_parts c.args.separator.now c.args.text.now c.loop-place.left.now c.loop-place.all.items _ _
    c.in_default.ensures
    c.in_ok-string-2.ensures c.in_ok-push-2.ensures.items c.loop-place.invariant
