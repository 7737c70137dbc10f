use Rattle.std.proofs.Common.{refl, sym, ap, subst, reverse, Bool, cond, not, slice_set}
use Rattle.std.proofs.lemmas.Bool.{eq-eqb}
use Rattle.strategy_machine.proofs.GiveLemmas.{st, give_each}
use Rattle.strategy_machine.proofs.FormLemmas.{each_stands}
use Rattle.strategy_machine.proofs.ResultLemmas.{ok_map}
use Rattle.strategy_machine.proofs.WalkLemmas.{came_up, popped}
use Rattle.strategy_machine.proofs.ChildLemmas.{each_over}
use Rattle.strategy_machine.specs.Leading.{parts_now, node_with}
use Rattle.strategy_machine.specs.Frames.{walk_parts}
use Rattle.strategy_machine.specs.Table.{scopes}
use Rattle.strategy_machine.specs.Hands.{Done, Each}
use Rattle.strategy_machine.specs.Turns.{HoldsIn}
use Rattle.strategy_machine.specs.declared.frames.Frame.TheVariants as frames
use Rattle.strategy_machine.specs.declared.stack.Slot.TheVariants as slots
use Rattle.strategy_machine.proofs.give.give_each.Goals as goal

pub returns-clause-ok : goal.returns-clause-ok
returns-clause-ok c = λ W. ok_map c.go_on.result (λ next k. record {
  keeps = λ sub whole h. k.keeps sub whole
      (came_up W sub whole _ c.come_up.new.m c.pop_walk-walk.result c.args.m.now.part _ c.in_ok-come_up.ensures
      (subst (λ p. HoldsIn W sub whole (st c.args.m.now.cells (scopes c.args.m.now.scopes) c.args.m.now.trail
      c.pop_walk-walk.result.level c.args.m.now.steps (reverse c.pop_walk-walk.new.self))
      (Each c.args.acts c.args.scope p c.in-Some.next c.come_up.new.m.parts)) (sym c.in_ok-come_up.ensures.node)
      (give_each W sub whole _ _ _ _ _ _ c.args.acts c.args.scope c.in-Some.next c.pop_walk-walk.result
      c.args.m.now.part c.come_up.new.m.parts (c.in-Some.ensures.1) c.in_ok-come_up.ensures.parts
      (popped W sub whole c.args.m.now (Done c.args.m.now.part) c.pop_walk-walk.new.self
      (frames.Each c.args.acts c.args.scope c.pop_walk-walk.result)
      (c.pop_walk-walk.ensures.items (slots.Each c.args.acts c.args.scope) c.requires.last) h))));
}) (c.go_on.ensures.ok W)

pub go_on-requires : goal.go_on-requires
go_on-requires c = let r = c.requires.run in each_stands c.come_up.new.m
    (came_up r.0 r.1 r.2 _ c.come_up.new.m c.pop_walk-walk.result c.args.m.now.part _ c.in_ok-come_up.ensures
    (subst (λ p. HoldsIn r.0 r.1 r.2 (st c.args.m.now.cells (scopes c.args.m.now.scopes) c.args.m.now.trail
    c.pop_walk-walk.result.level c.args.m.now.steps (reverse c.pop_walk-walk.new.self))
    (Each c.args.acts c.args.scope p c.in-Some.next c.come_up.new.m.parts)) (sym c.in_ok-come_up.ensures.node)
    (give_each r.0 r.1 r.2 _ _ _ _ _ _ c.args.acts c.args.scope c.in-Some.next c.pop_walk-walk.result c.args.m.now.part
    c.come_up.new.m.parts (c.in-Some.ensures.1) c.in_ok-come_up.ensures.parts (popped r.0 r.1 r.2 c.args.m.now
    (Done c.args.m.now.part) c.pop_walk-walk.new.self (frames.Each c.args.acts c.args.scope c.pop_walk-walk.result)
    (c.pop_walk-walk.ensures.items (slots.Each c.args.acts c.args.scope) c.requires.last) r.3))))

pub pop_walk-walk-requires : goal.pop_walk-walk-requires
pop_walk-walk-requires c = (slots.Each c.args.acts c.args.scope, c.requires.last, refl)

pub returns-then-ends_unchanged-clause-ok : goal.returns-then-ends_unchanged-clause-ok
returns-then-ends_unchanged-clause-ok c =
    let w = c.pop_walk-walk.result in
    let m = c.args.m.now in
    let ended = c.if-ends_unchanged.ensures in
    λ W. record {
      keeps = λ sub whole h. c.gives.ensures.keeps W sub whole
          (subst (λ p. HoldsIn W sub whole (st m.cells (scopes m.scopes) m.trail w.level m.steps
          (reverse c.pop_walk-walk.new.self)) (Done p)) (sym c.put.ensures)
          (each_over W sub whole _ c.args.acts c.args.scope c.in-Some.next _ w.node w.node w.parts refl ended.over
          (ap (λ l. node_with w.node l) (sym ended.parts))
          (give_each W sub whole _ _ _ _ _ _ c.args.acts c.args.scope c.in-Some.next w m.part w.parts
          (c.in-Some.ensures.1)
          (ap (λ (b : Bool). cond (not b) (slice_set (parts_now w.node (walk_parts w)) w.index m.part) (walk_parts w))
          (sym (eq-eqb m.trail.count w.edits ended.edits)))
          (popped W sub whole m (Done m.part) c.pop_walk-walk.new.self (frames.Each c.args.acts c.args.scope w)
          (c.pop_walk-walk.ensures.items (slots.Each c.args.acts c.args.scope) c.requires.last) h))));
    }
