use Rattle.std.proofs.Common.{refl, arith, length}
use Rattle.strategy_machine.specs.inside.Slots.{has_start}
use Rattle.strategy_machine.proofs.SlotLemmas.{start_more, shorter_fits, removed, removed_length, sort_ends, sort_left}
use Rattle.strategy_machine.proofs.stack.Frames.pop_start.Goals as goal

pub take_last-requires-2 : goal.take_last-requires-2
take_last-requires-2 c = let i = c.self.inside in
    omega (
      arith,
      i.starts.ok.0,
      sort_left has_start c.take_last.new.self.items i.slots.items c.take_last.result (length i.starts.items)
          (sort_ends has_start c.take_last.new.self.items i.slots.items c.take_last.result i.walks.items i.starts.items
          i.fronts.items i.firsts.items c.args.self.now c.take_last.ensures.items c.self.invariant c.self.view_is
          c.requires) c.take_last.ensures.items c.self.invariant.starts,
    )

pub invariant_of-self : goal.invariant_of-self
invariant_of-self c = let i = c.self.inside in shorter_fits
    (start_more c.take_last.new.self.items c.take_last.new.self.items i.slots.items c.take_last.result i.walks.items
    c.take_last-2.new.self.items c.take_last-2.new.self.items i.starts.items c.take_last-2.result i.fronts.items
    i.firsts.items
    (sort_ends has_start c.take_last.new.self.items i.slots.items c.take_last.result i.walks.items i.starts.items
    i.fronts.items i.firsts.items c.args.self.now c.take_last.ensures.items c.self.invariant c.self.view_is c.requires)
    c.take_last.ensures.items refl c.take_last-2.ensures.items refl) c.self.invariant

pub returns-clause-items : goal.returns-clause-items
returns-clause-items c = let i = c.self.inside in removed
    (start_more c.take_last.new.self.items c.take_last.new.self.items i.slots.items c.take_last.result i.walks.items
    c.take_last-2.new.self.items c.take_last-2.new.self.items i.starts.items c.take_last-2.result i.fronts.items
    i.firsts.items
    (sort_ends has_start c.take_last.new.self.items i.slots.items c.take_last.result i.walks.items i.starts.items
    i.fronts.items i.firsts.items c.args.self.now c.take_last.ensures.items c.self.invariant c.self.view_is c.requires)
    c.take_last.ensures.items refl c.take_last-2.ensures.items refl) c.self.invariant _ c.self.view_is

pub returns-clause-len : goal.returns-clause-len
returns-clause-len c = let i = c.self.inside in removed_length
    (start_more c.take_last.new.self.items c.take_last.new.self.items i.slots.items c.take_last.result i.walks.items
    c.take_last-2.new.self.items c.take_last-2.new.self.items i.starts.items c.take_last-2.result i.fronts.items
    i.firsts.items
    (sort_ends has_start c.take_last.new.self.items i.slots.items c.take_last.result i.walks.items i.starts.items
    i.fronts.items i.firsts.items c.args.self.now c.take_last.ensures.items c.self.invariant c.self.view_is c.requires)
    c.take_last.ensures.items refl c.take_last-2.ensures.items refl) c.self.invariant _ c.self.view_is
