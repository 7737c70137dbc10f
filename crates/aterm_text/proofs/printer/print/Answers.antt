use Rattle.aterm_text.proofs.LawPrinted.{spells-on_ok}
use Rattle.aterm_text.proofs.printer.print.Goals as goal

pub returns-else-is_err-clause-spells : goal.returns-else-is_err-clause-spells
returns-else-is_err-clause-spells c =
    spells-on_ok c.print_term-printed.result c.args.term.now c.print_term-printed.ensures.term
