use Rattle.std.proofs.Common.{arith}
use Rattle.term_changes.proofs.LogLemmas.{rolled_once}
use Rattle.change_log.proofs.log.Log.roll_back.Goals as goal

pub loop-self-preserved : goal.loop-self-preserved
loop-self-preserved c =
    rolled_once c.args.mark c.args.self.now c.loop-self.self c.take_back.new.self c.args.store.now c.loop-self.store
    c.take_back.new.store
    (omega (arith, c.count.ensures, c.loop-self-test.true)) c.loop-self.invariant c.take_back.ensures.log
    c.take_back.ensures.store
