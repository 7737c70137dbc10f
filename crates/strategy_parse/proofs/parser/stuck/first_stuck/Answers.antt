use Rattle.std.proofs.Common.{sym, ◌∙◌}
use Rattle.strategy_parse.proofs.StuckLemmas.{stuck-at, begin-all}
use Rattle.strategy_parse.proofs.parser.stuck.first_stuck.Goals as goal

pub returns-then-is_empty-clause-begins : goal.returns-then-is_empty-clause-begins
returns-then-is_empty-clause-begins c =
    begin-all c.args.tokens.now c.in_ok-_ended._ended c.in_ok-_ended.left.now c.in_ok-_ended.ensures
    (sym c.is_empty.ensures ∙ c.if-is_empty.true)

pub returns-clause-stuck : goal.returns-clause-stuck
returns-clause-stuck c =
    stuck-at c.args.tokens.now c.in_ok-_ended._ended c.in_ok-_ended.left.now c.in_ok-_ended.ensures
    (sym c.is_empty.ensures ∙ c.if-is_empty.false)
