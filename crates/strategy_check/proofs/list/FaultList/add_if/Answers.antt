use Rattle.std.proofs.Common.{sym}
use Rattle.strategy_check.proofs.FaultLemmas.{with_none}
use Rattle.strategy_check.proofs.list.FaultList.add_if.Goals as goal

pub returns-then-not-is_fault : goal.returns-then-not-is_fault
returns-then-not-is_fault c = rw c.if-not-is_fault.true (sym (with_none c.args.self.now))
