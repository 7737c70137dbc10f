use Rattle.std.proofs.Common.{ap, Err}
use Rattle.strategy_parse.proofs.StandingLemmas.{declared_alone, alone_declared, nothing_declared}
use Rattle.strategy_parse.proofs.stands.is_declaration.Goals as goal

pub returns-in-Ok-clause-yes : goal.returns-in-Ok-clause-yes
returns-in-Ok-clause-yes c = λ e.
    let h = c.is_all.ensures.yes e in
    declared_alone c.args.tokens.now c.in-Ok.left.now c.in-Ok.declared c.args.constructor.now c.in-Ok.ensures.ok h.0 h.1

pub returns-in-Ok-clause-no : goal.returns-in-Ok-clause-no
returns-in-Ok-clause-no c = λ e g.
    let h =
    alone_declared c.args.tokens.now c.in-Ok.left.now c.in-Ok.declared c.args.constructor.now c.in-Ok.ensures.ok g in
    c.is_all.ensures.no e h.0 h.1

pub returns-in-Err-Syntax-clause-no : goal.returns-in-Err-Syntax-clause-no
returns-in-Err-Syntax-clause-no c = λ e g. nothing_declared c.args.tokens.now c.args.constructor.now
    (c.in-Err-Syntax.ensures.none (ap Err c.in-Err-Syntax.field-0-is)) g
