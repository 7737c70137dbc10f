use Rattle.strategy_machine.proofs.SlotLemmas.{alone_more, longer_fits, added, added_length}
use Rattle.strategy_machine.proofs.stack.Frames.wait.Goals as goal

pub invariant_of-self-2 : goal.invariant_of-self-2
invariant_of-self-2 c = let i = c.self.inside in longer_fits
    (alone_more i.slots.items c.reserve.new.self.items c.push_reserved.new.self.items c.args.slot i.walks.items
    i.starts.items i.fronts.items i.firsts.items
    c.requires c.push_reserved.ensures.items c.reserve.ensures.items) c.self.invariant

pub returns-clause-items : goal.returns-clause-items
returns-clause-items c = let i = c.self.inside in added
    (alone_more i.slots.items c.reserve.new.self.items c.push_reserved.new.self.items c.args.slot i.walks.items
    i.starts.items i.fronts.items i.firsts.items
    c.requires c.push_reserved.ensures.items c.reserve.ensures.items) c.self.invariant _ c.self.view_is

pub returns-clause-len : goal.returns-clause-len
returns-clause-len c = let i = c.self.inside in added_length
    (alone_more i.slots.items c.reserve.new.self.items c.push_reserved.new.self.items c.args.slot i.walks.items
    i.starts.items i.fronts.items i.firsts.items
    c.requires c.push_reserved.ensures.items c.reserve.ensures.items) c.self.invariant _ c.self.view_is
