use Rattle.strategy_tokens.specs.Tokens.{tokens}
use Rattle.strategy_parse.proofs.OneModule.{one_module}
use Rattle.strategy_parse.proofs.laws.one_module.Goals as goal

pub returns : goal.returns
returns c = λ x m r h k. one_module (tokens x) m r h k
