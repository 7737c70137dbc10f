use Rattle.std.proofs.Common.{ap, sym, ◌∙◌, Err}
use Rattle.strategy_parse.specs.inside.Forms.{forms}
use Rattle.strategy_parse.proofs.FrontGives.{pattern-given, pattern-only, pattern-is, pattern-none, other-form}
use Rattle.strategy_parse.proofs.parser.run.read_pattern.Goals as goal

pub returns-in_err-strategy-clause-none : goal.returns-in_err-strategy-clause-none
returns-in_err-strategy-clause-none c =
    λ e.
    let h = rw e at c.from_residual.ensures in
    pattern-none c.args.tokens.now (forms c.new.result) c.new.ensures
    (c.in_err-strategy.ensures.none (ap Err (sym h.1)))

pub returns-in-Match-clause-given : goal.returns-in-Match-clause-given
returns-in-Match-clause-given c =
    pattern-given c.args.tokens.now (forms c.new.result) c.new.ensures c.in_ok-strategy.strategy c.in-Match.pattern
    c.in_ok-strategy.left.now c.in_ok-strategy.ensures.ok c.in-Match.ensures

pub returns-in-Match-clause-only : goal.returns-in-Match-clause-only
returns-in-Match-clause-only c =
    pattern-only c.args.tokens.now (forms c.new.result) c.new.ensures c.in_ok-strategy.strategy c.in-Match.pattern
    c.in_ok-strategy.left.now c.in_ok-strategy.ensures.ok c.in-Match.ensures

pub returns-in_default-clause-none : goal.returns-in_default-clause-none
returns-in_default-clause-none c =
    λ e p y h stops.
    let is = pattern-is c.args.tokens.now (forms c.new.result) c.new.ensures c.in_ok-strategy.strategy
    c.in_ok-strategy.left.now c.in_ok-strategy.ensures.ok p y h stops in
    other-form c.into_form.result p (sym c.into_form.ensures ∙ sym is.0) c.in_default.not-Match
