use Rattle.script_text.proofs.KeywordLemmas.{split_form}
use Rattle.script_text.proofs.command.split_keyword.Goals as goal

pub returns-clause-form : goal.returns-clause-form
returns-clause-form c budget = split_form budget c.args.command.now _ _ _ _ c.without_last_blanks.ensures
    c.split_word.ensures.word c.split_word.ensures.after c.keyword_of.ensures.keyword
