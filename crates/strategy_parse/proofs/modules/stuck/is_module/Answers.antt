use Rattle.std.proofs.Common.{ap, Err}
use Rattle.strategy_parse.proofs.modules.stuck.is_module.Goals as goal

pub returns-in-Err-Syntax-clause-no : goal.returns-in-Err-Syntax-clause-no
returns-in-Err-Syntax-clause-no c = λ e m g. c.in-Err-Syntax.ensures.none (ap Err c.in-Err-Syntax.field-0-is) m g

pub returns-in-Err-Syntax-read_sections-clause-no :
    goal.returns-in-Err-Syntax-read_sections-clause-no
returns-in-Err-Syntax-read_sections-clause-no c = λ e m g.
    c.in-Err-Syntax-read_sections.ensures.none (ap Err c.in-Err-Syntax-read_sections.field-0-is) m
    (c.in-Ok.ensures.forth m g)
