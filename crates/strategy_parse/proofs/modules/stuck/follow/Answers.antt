use Rattle.std.proofs.Common.{sym, ◌∙◌, subst}
use Rattle.strategy_parse.specs.inside.ModulePlaces.{Crossed}
use Rattle.strategy_parse.proofs.StuckModules.{follow_starts, follow_item, follow_stuck, follow_goes, follow_halts, follow_ends}
use Rattle.strategy_parse.proofs.modules.stuck.follow.Goals as goal

pub loop-token-init : goal.loop-token-init
loop-token-init c = follow_starts c.args.tokens.now

pub returns-in_default-next_place : goal.returns-in_default-next_place
returns-in_default-next_place c =
    follow_stuck c.args.tokens.now c.loop-token.place c.item_before-item.result c.loop-token.left.now
    c.in-Some.token.now c.in-Some.rest.now
    (follow_item c.args.tokens.now c.loop-token.place c.loop-token.item c.loop-token.left.now c.item_before-item.result
    c.loop-token.invariant c.item_before-item.ensures)
    c.in-Some.ensures.cases.0 (sym c.next_place.ensures ∙ c.in_default-next_place.is)

pub returns-then-not-goes_on : goal.returns-then-not-goes_on
returns-then-not-goes_on c =
    follow_halts c.args.tokens.now c.loop-token.place c.item_before-item.result c.loop-token.left.now
    c.in-Some.token.now c.in-Some.rest.now c.in-Some-next_place.next c.in_ok-goes_on.after.now
    (follow_item c.args.tokens.now c.loop-token.place c.loop-token.item c.loop-token.left.now c.item_before-item.result
    c.loop-token.invariant c.item_before-item.ensures)
    c.in-Some.ensures.cases.0 (sym c.next_place.ensures ∙ c.in-Some-next_place.is)
    (subst (λ b. Crossed c.in-Some-next_place.next c.in-Some.rest.now b c.in_ok-goes_on.after.now) c.if-not-goes_on.true
    c.in_ok-goes_on.ensures)

pub loop-token-preserved : goal.loop-token-preserved
loop-token-preserved c =
    follow_goes c.args.tokens.now c.loop-token.place c.item_before-item.result c.loop-token.left.now c.in-Some.token.now
    c.in-Some.rest.now c.in-Some-next_place.next c.in_ok-goes_on.after.now
    (follow_item c.args.tokens.now c.loop-token.place c.loop-token.item c.loop-token.left.now c.item_before-item.result
    c.loop-token.invariant c.item_before-item.ensures)
    c.in-Some.ensures.cases.0 (sym c.next_place.ensures ∙ c.in-Some-next_place.is)
    (subst (λ b. Crossed c.in-Some-next_place.next c.in-Some.rest.now b c.in_ok-goes_on.after.now)
    c.if-not-goes_on.false c.in_ok-goes_on.ensures)

pub returns : goal.returns
returns c = follow_ends c.args.tokens.now c.loop-token.place c.loop-token.item c.loop-token.left.now
    c.loop-token.invariant c.in_default.ensures.cases
