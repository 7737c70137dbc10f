use Rattle.std.proofs.Common.{◌∙◌, ◌+◌, ap}
use Rattle.prim_core.specs.Values.{string_term}
use Rattle.prim_extended.proofs.StringLemmas.{more_characters}
use Rattle.prim_extended.proofs.texts.characters.Goals as goal

pub loop-after-preserved : goal.loop-after-preserved
loop-after-preserved c =
    more_characters c.args.text.now c.loop-after.left.now _ _ _ _ c.loop-after.all.items _ _ c.in-Some.ensures.cases.0
    (ap (λ n. 1 + n) c.going_on.ensures.value) (c.in_ok-string.ensures ∙ ap string_term c.split_at.ensures.front)
    c.in_ok-push.ensures.items c.split_at.ensures.back c.loop-after.invariant
