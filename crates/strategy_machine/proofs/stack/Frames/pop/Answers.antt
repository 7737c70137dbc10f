use Rattle.std.proofs.Common.{refl}
use Rattle.strategy_machine.specs.inside.Slots.{is_alone}
use Rattle.strategy_machine.proofs.SlotLemmas.{alone_more, shorter_fits, removed, removed_length, sort_ends}
use Rattle.strategy_machine.proofs.stack.Frames.pop.Goals as goal

pub invariant_of-self : goal.invariant_of-self
invariant_of-self c = let i = c.self.inside in shorter_fits
    (alone_more c.take_last.new.self.items c.take_last.new.self.items i.slots.items c.take_last.result i.walks.items
    i.starts.items i.fronts.items i.firsts.items
    (sort_ends is_alone c.take_last.new.self.items i.slots.items c.take_last.result i.walks.items i.starts.items
    i.fronts.items i.firsts.items c.args.self.now c.take_last.ensures.items c.self.invariant c.self.view_is c.requires)
    c.take_last.ensures.items refl) c.self.invariant

pub returns-clause-items : goal.returns-clause-items
returns-clause-items c = let i = c.self.inside in removed
    (alone_more c.take_last.new.self.items c.take_last.new.self.items i.slots.items c.take_last.result i.walks.items
    i.starts.items i.fronts.items i.firsts.items
    (sort_ends is_alone c.take_last.new.self.items i.slots.items c.take_last.result i.walks.items i.starts.items
    i.fronts.items i.firsts.items c.args.self.now c.take_last.ensures.items c.self.invariant c.self.view_is c.requires)
    c.take_last.ensures.items refl) c.self.invariant _ c.self.view_is

pub returns-clause-len : goal.returns-clause-len
returns-clause-len c = let i = c.self.inside in removed_length
    (alone_more c.take_last.new.self.items c.take_last.new.self.items i.slots.items c.take_last.result i.walks.items
    i.starts.items i.fronts.items i.firsts.items
    (sort_ends is_alone c.take_last.new.self.items i.slots.items c.take_last.result i.walks.items i.starts.items
    i.fronts.items i.firsts.items c.args.self.now c.take_last.ensures.items c.self.invariant c.self.view_is c.requires)
    c.take_last.ensures.items refl) c.self.invariant _ c.self.view_is
