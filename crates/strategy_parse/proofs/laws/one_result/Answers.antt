use Rattle.strategy_tokens.specs.Tokens.{tokens}
use Rattle.strategy_parse.proofs.Gives.{one_given}
use Rattle.strategy_parse.proofs.laws.one_result.Goals as goal

pub returns : goal.returns
returns c = λ x s r h k. one_given (tokens x) s r h k
