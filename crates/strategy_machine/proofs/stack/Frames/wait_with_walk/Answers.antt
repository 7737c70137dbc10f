use Rattle.strategy_machine.proofs.SlotLemmas.{walk_more, longer_fits, added, added_length}
use Rattle.strategy_machine.proofs.stack.Frames.wait_with_walk.Goals as goal

pub invariant_of-self : goal.invariant_of-self
invariant_of-self c = let i = c.self.inside in longer_fits
    (walk_more i.slots.items c.reserve.new.self.items c.push_reserved.new.self.items c.args.slot i.walks.items
    c.reserve-then-is_ok.new.self.items c.push_reserved-then-is_ok-2.new.self.items c.args.walk i.starts.items
    i.fronts.items i.firsts.items
    c.requires c.push_reserved.ensures.items c.reserve.ensures.items c.push_reserved-then-is_ok-2.ensures.items
    c.reserve-then-is_ok.ensures.items) c.self.invariant

pub returns-then-is_ok-2-clause-items : goal.returns-then-is_ok-2-clause-items
returns-then-is_ok-2-clause-items c = let i = c.self.inside in added
    (walk_more i.slots.items c.reserve.new.self.items c.push_reserved.new.self.items c.args.slot i.walks.items
    c.reserve-then-is_ok.new.self.items c.push_reserved-then-is_ok-2.new.self.items c.args.walk i.starts.items
    i.fronts.items i.firsts.items
    c.requires c.push_reserved.ensures.items c.reserve.ensures.items c.push_reserved-then-is_ok-2.ensures.items
    c.reserve-then-is_ok.ensures.items) c.self.invariant _ c.self.view_is

pub returns-then-is_ok-2-clause-len : goal.returns-then-is_ok-2-clause-len
returns-then-is_ok-2-clause-len c = let i = c.self.inside in added_length
    (walk_more i.slots.items c.reserve.new.self.items c.push_reserved.new.self.items c.args.slot i.walks.items
    c.reserve-then-is_ok.new.self.items c.push_reserved-then-is_ok-2.new.self.items c.args.walk i.starts.items
    i.fronts.items i.firsts.items
    c.requires c.push_reserved.ensures.items c.reserve.ensures.items c.push_reserved-then-is_ok-2.ensures.items
    c.reserve-then-is_ok.ensures.items) c.self.invariant _ c.self.view_is
