use Rattle.std.proofs.Common.{ap, ◌∙◌, Err}
use Rattle.strategy_parse.specs.inside.Forms.{forms}
use Rattle.strategy_parse.specs.inside.Parser.{leads}
use Rattle.strategy_parse.proofs.SectionLemmas.{empty_is}
use Rattle.strategy_parse.proofs.StuckLemmas.{taking_ends, taking_stuck, taking_all}
use Rattle.strategy_parse.proofs.parser.stuck.pass.Goals as goal

pub returns-in-Ok-Ends : goal.returns-in-Ok-Ends
returns-in-Ok-Ends c =
    taking_ends c.args.first c.args.tokens.now c.loop-token.state (forms c.loop-token.stack) c.loop-token.left.now
    c.in-Some.token.now c.in-Some.rest.now c.in-Ok-Ends.strategy c.loop-token.invariant c.in-Some.ensures.cases.0
    (c.in-Ok-Ends.ensures.ok ∙ ap (λ o. leads o (forms c.step.new.stack)) c.in-Ok-Ends.field-0-is)

pub returns-in-Err-Syntax : goal.returns-in-Err-Syntax
returns-in-Err-Syntax c =
    taking_stuck c.args.first c.args.tokens.now c.loop-token.state (forms c.loop-token.stack) c.loop-token.left.now
    c.in-Some.token.now c.in-Some.rest.now c.loop-token.invariant c.in-Some.ensures.cases.0
    (c.in-Err-Syntax.ensures.none (ap Err c.in-Err-Syntax.field-0-is))

pub returns : goal.returns
returns c =
    taking_all c.args.first c.args.tokens.now c.loop-token.state (forms c.loop-token.stack) c.loop-token.left.now
    c.loop-token.invariant
    (empty_is c.loop-token.left.now c.in_default.ensures.cases)
