use Rattle.std.proofs.Common.{refl, reverse, ◌∷◌, List, length, sym, ap, subst, arith}
use Rattle.strategy_machine.proofs.GiveLemmas.{st, in_hand_has}
use Rattle.strategy_machine.specs.Turns.{HoldsIn}
use Rattle.strategy_machine.specs.Table.{scopes}
use Rattle.strategy_machine.specs.Hands.{Done}
use Rattle.term_changes.specs.Standing.{Standing}
use Rattle.strategy_machine.specs.Leading.{PartsStand, all_parts, node_with}
use Rattle.strategy_machine.specs.declared.frames.Frame.TheVariants.{Tail}
use Rattle.strategy_machine.proofs.NodeLeads.{none_stand}
use Rattle.strategy_machine.proofs.WalkLemmas.{popped}
use Rattle.strategy_machine.specs.declared.stack.Slot.TheVariants as slots
use Rattle.strategy_machine.proofs.ResultLemmas.{ok_map}
use Rattle.strategy_machine.proofs.lists.give_tail.Goals as goal

pub returns-clause-ok : goal.returns-clause-ok
returns-clause-ok c = λ W. ok_map c.begin_tail.result (λ next k. record {
  keeps = λ sub whole h. k.keeps sub whole (subst (λ (l : List Standing). HoldsIn W sub whole
      (st c.args.m.now.cells (scopes c.args.m.now.scopes) c.args.m.now.trail c.args.m.now.level c.args.m.now.steps
      (Tail c.args.tail c.args.scope c.args.count ∷ reverse c.pop.new.self)) (Done (node_with c.args.m.now.part l)))
      (sym c.new.ensures.items) (popped W sub whole c.args.m.now (Done c.args.m.now.part) c.pop.new.self
      (Tail c.args.tail c.args.scope c.args.count)
      (c.pop.ensures.items (slots.Tail c.args.tail c.args.scope c.args.count) c.requires.last) h));
}) (c.begin_tail.ensures.ok W)

pub begin_tail-requires-clause-stand : goal.begin_tail-requires-clause-stand
begin_tail-requires-clause-stand c = let r = c.requires.run in
    subst (λ (l : List Standing). PartsStand c.args.m.now.part (all_parts c.args.m.now.part l))
    (sym c.new.ensures.items) (none_stand c.args.m.now.part (in_hand_has r.0 r.1 r.2 _ c.args.m.now.part (popped r.0 r.1
    r.2 c.args.m.now (Done c.args.m.now.part) c.pop.new.self (Tail c.args.tail c.args.scope c.args.count)
    (c.pop.ensures.items (slots.Tail c.args.tail c.args.scope c.args.count) c.requires.last) r.3)))

pub begin_tail-requires-clause-first : goal.begin_tail-requires-clause-first
begin_tail-requires-clause-first c = omega (arith, ap (λ (l : List Standing). length l) c.new.ensures.items)

pub pop-requires : goal.pop-requires
pop-requires c = (slots.Tail c.args.tail c.args.scope c.args.count, c.requires.last, refl)
