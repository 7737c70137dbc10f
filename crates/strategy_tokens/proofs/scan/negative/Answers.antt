use Rattle.std.proofs.Common.{Some, ap, ◌∙◌}
use Rattle.strategy_tokens.specs.Tokens.{integer_token}
use Rattle.strategy_tokens.proofs.ScanLemmas.{first_two_and, negative_numeral}
use Rattle.strategy_tokens.proofs.scan.negative.Goals as goal

pub integer-requires : goal.integer-requires
integer-requires c =
    negative_numeral _ _ _ _ c.digits_length-count.ensures.value c.requires.front c.requires.digit

pub returns-clause-token : goal.returns-clause-token
returns-clause-token c = c.integer.ensures.token ∙ ap (λ x. Some (integer_token x))
    (first_two_and _ _ _ _ _ _ c.digits_length-count.ensures.value c.requires.front)
