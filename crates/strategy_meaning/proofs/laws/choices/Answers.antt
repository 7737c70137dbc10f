use Rattle.strategy_meaning.proofs.UsualLemmas.{choice_goes_on}
use Rattle.strategy_meaning.proofs.laws.choices.Goals as goal

pub returns : goal.returns
returns c = choice_goes_on
