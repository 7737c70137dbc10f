use Rattle.std.proofs.Common.{refl, sym, subst, reverse, true}
use Rattle.strategy_machine.proofs.GiveLemmas.{st, give_those}
use Rattle.strategy_machine.proofs.FormLemmas.{those_stand}
use Rattle.strategy_machine.proofs.ResultLemmas.{ok_map}
use Rattle.strategy_machine.proofs.WalkLemmas.{came_up, popped}
use Rattle.strategy_machine.specs.Table.{scopes}
use Rattle.strategy_machine.specs.Hands.{Done, Those}
use Rattle.strategy_machine.specs.Turns.{HoldsIn}
use Rattle.strategy_machine.specs.declared.frames.Frame.TheVariants as frames
use Rattle.strategy_machine.specs.declared.stack.Slot.TheVariants as slots
use Rattle.strategy_machine.proofs.give.give_those.Goals as goal

pub returns-clause-ok : goal.returns-clause-ok
returns-clause-ok c = λ W. ok_map c.go_over.result (λ next k. record {
  keeps = λ sub whole h. k.keeps sub whole
      (came_up W sub whole _ c.come_up.new.m c.pop_walk-walk.result c.args.m.now.part _ c.in_ok-come_up.ensures
      (subst (λ p. HoldsIn W sub whole (st c.args.m.now.cells (scopes c.args.m.now.scopes) c.args.m.now.trail
      c.pop_walk-walk.result.level c.args.m.now.steps (reverse c.pop_walk-walk.new.self)) (Those c.args.strategy
      c.args.scope p c.in-Some.next true c.come_up.new.m.parts)) (sym c.in_ok-come_up.ensures.node)
      (give_those W sub whole _ _ _ _ _ _ c.args.strategy c.args.scope c.in-Some.next c.pop_walk-walk.result c.args.mark
      c.args.any c.args.m.now.part c.come_up.new.m.parts (c.in-Some.ensures.1) c.in_ok-come_up.ensures.parts
      (popped W sub whole c.args.m.now (Done c.args.m.now.part) c.pop_walk-walk.new.self (frames.Those c.args.strategy
      c.args.scope c.pop_walk-walk.result c.args.mark c.args.any) (c.pop_walk-walk.ensures.items
      (slots.Those c.args.strategy c.args.scope c.args.mark c.args.any) c.requires.last) h))));
}) (c.go_over.ensures.ok W)

pub go_over-requires : goal.go_over-requires
go_over-requires c = let r = c.requires.run in those_stand c.come_up.new.m
    (came_up r.0 r.1 r.2 _ c.come_up.new.m c.pop_walk-walk.result c.args.m.now.part _ c.in_ok-come_up.ensures
    (subst (λ p. HoldsIn r.0 r.1 r.2 (st c.args.m.now.cells (scopes c.args.m.now.scopes) c.args.m.now.trail
    c.pop_walk-walk.result.level c.args.m.now.steps (reverse c.pop_walk-walk.new.self))
    (Those c.args.strategy c.args.scope p c.in-Some.next true c.come_up.new.m.parts)) (sym c.in_ok-come_up.ensures.node)
    (give_those r.0 r.1 r.2 _ _ _ _ _ _ c.args.strategy c.args.scope c.in-Some.next c.pop_walk-walk.result c.args.mark
    c.args.any c.args.m.now.part c.come_up.new.m.parts (c.in-Some.ensures.1) c.in_ok-come_up.ensures.parts
    (popped r.0 r.1 r.2 c.args.m.now (Done c.args.m.now.part) c.pop_walk-walk.new.self (frames.Those c.args.strategy
    c.args.scope c.pop_walk-walk.result c.args.mark c.args.any) (c.pop_walk-walk.ensures.items
    (slots.Those c.args.strategy c.args.scope c.args.mark c.args.any) c.requires.last) r.3))))

pub pop_walk-walk-requires : goal.pop_walk-walk-requires
pop_walk-walk-requires c = (slots.Those c.args.strategy c.args.scope c.args.mark c.args.any, c.requires.last, refl)
