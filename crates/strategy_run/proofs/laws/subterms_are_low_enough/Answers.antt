use Rattle.std.proofs.Common.{arith}
use Rattle.strategy_run.proofs.ApplyLemmas.{low_at}
use Rattle.strategy_run.proofs.laws.subterms_are_low_enough.Goals as goal

pub returns : goal.returns
returns c = λ p t u there low. omega (arith, low_at p t u there, low)
