use Rattle.strategy_meaning.proofs.UsualLemmas.{id_first, id_last, fail_first}
use Rattle.strategy_meaning.proofs.laws.sequences.Goals as goal

pub returns-clause-id_first : goal.returns-clause-id_first
returns-clause-id_first c = id_first

pub returns-clause-id_last : goal.returns-clause-id_last
returns-clause-id_last c = id_last

pub returns-clause-fail_first : goal.returns-clause-fail_first
returns-clause-fail_first c = fail_first
