use Rattle.std.proofs.Common.{sym}
use Rattle.strategy_tokens.specs.Tokens.{tokens}
use Rattle.strategy_tokens.proofs.ItemLemmas.{unfit_is_deep}
use Rattle.strategy_tokens.proofs.read.read_module_tokens.Goals as goal

pub returns-in-Some-clause-deep : goal.returns-in-Some-clause-deep
returns-in-Some-clause-deep c = unfit_is_deep c.args.most (tokens c.args.text.now) (sym c.in-Some.ensures)
