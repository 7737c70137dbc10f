use Rattle.std.proofs.Common.{length, ap, arith}
use Rattle.strategy_machine.proofs.SlotLemmas.{length-frames}
use Rattle.strategy_machine.proofs.stack.Frames.len.Goals as goal

pub returns : goal.returns
returns c =
    let i = c.self.inside in
    let count =
    length-frames i.slots.items i.walks.items i.starts.items i.fronts.items i.firsts.items c.self.invariant in
    omega (arith, c.len.ensures, i.slots.ok.0, count, ap (λ gs. length gs) c.self.view_is)
