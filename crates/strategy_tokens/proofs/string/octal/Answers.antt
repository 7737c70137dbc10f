use Rattle.strategy_tokens.proofs.StringLemmas.{octal_items}
use Rattle.strategy_tokens.proofs.string.octal.Goals as goal

pub returns-clause-some : goal.returns-clause-some
returns-clause-some c =
    octal_items _ _ _ _ _ _ _ c.in_ok-second.ensures.cases.0 c.in_ok-third.ensures.cases.0 c.in_ok-byte.ensures
