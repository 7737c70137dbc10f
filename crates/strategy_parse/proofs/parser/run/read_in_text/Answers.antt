use Rattle.std.proofs.Common.{ap, sym, Err}
use Rattle.strategy_parse.specs.inside.Forms.{forms}
use Rattle.strategy_parse.proofs.FrontGives.{text-only, text-none}
use Rattle.strategy_parse.proofs.parser.run.read_in_text.Goals as goal

pub returns-in_err-strategy-clause-none : goal.returns-in_err-strategy-clause-none
returns-in_err-strategy-clause-none c = λ e.
    let h = rw e at c.from_residual-in_err-strategy.ensures in
    text-none c.args.tokens.now (forms c.in_ok-in_text.field-0) c.in_ok-in_text.ensures
    (c.in_err-strategy.ensures.none (ap Err (sym h.1)))

pub returns-clause-only : goal.returns-clause-only
returns-clause-only c =
    text-only c.args.tokens.now (forms c.in_ok-in_text.field-0) c.in_ok-in_text.ensures c.in_ok-strategy.strategy
    c.in_ok-strategy._left.now c.in_ok-strategy.ensures.ok
