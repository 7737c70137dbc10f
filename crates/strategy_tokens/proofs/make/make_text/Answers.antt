use Rattle.std.proofs.Common.{sym, ap, ◌∙◌}
use Rattle.strategy_tokens.specs.declared.token.Token.TheVariants.{Text}
use Rattle.strategy_tokens.specs.Tokens.{text_or_bad}
use Rattle.strategy_tokens.proofs.StringLemmas.{all_run}
use Rattle.strategy_tokens.proofs.make.make_text.Goals as goal

pub returns-then-run_length-items : goal.returns-then-run_length-items
returns-then-run_length-items c =
    ap Text c.in_ok-quoted.ensures
    ∙ ap text_or_bad
    (sym (all_run c.args.items.now c.run_length.result c.run_length.ensures.value c.if-run_length-items.true))
