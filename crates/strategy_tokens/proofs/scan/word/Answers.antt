use Rattle.std.proofs.Common.{Some, ap}
use Rattle.strategy_tokens.specs.Tokens.{ident_token}
use Rattle.strategy_tokens.proofs.ScanLemmas.{first_and, identifier}
use Rattle.strategy_tokens.proofs.scan.word.Goals as goal

pub returns-clause-token : goal.returns-clause-token
returns-clause-token c = ap (λ x. Some (ident_token x))
    (first_and _ _ _ _ _ c.ident_length-count.ensures.value c.requires.front)

pub returns-clause-word : goal.returns-clause-word
returns-clause-word c =
    identifier _ _ _ _ c.ident_length-count.ensures.value c.requires.front c.requires.begins
