use Rattle.aterm_text.proofs.LawLayout.{lines-spell-on_ok}
use Rattle.aterm_text.proofs.layout.pretty.Goals as goal

pub returns-else-is_err-clause-spells : goal.returns-else-is_err-clause-spells
returns-else-is_err-clause-spells c =
    lines-spell-on_ok c.pretty_term-printed.result c.args.term.now c.pretty_term-printed.ensures.term
