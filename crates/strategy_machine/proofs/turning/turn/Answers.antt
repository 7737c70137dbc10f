use Rattle.std.proofs.Common.{sym, subst}
use Rattle.std.specs.Prelude.{IfOk}
use Rattle.strategy_machine.proofs.FormLemmas.{begin_there, begin_has}
use Rattle.strategy_machine.specs.Hands.{hand_of}
use Rattle.strategy_machine.specs.Turns.{Holds, world_of, Turn, Falls}
use Rattle.strategy_machine.specs.declared.frames.Next.{Next}
use Rattle.strategy_machine.proofs.turning.turn.Goals as goal

pub give_done-requires : goal.give_done-requires
give_done-requires g c = let r = c.requires.holds in (
  r.0,
  r.1,
  r.2,
  (subst (λ (x : Next). Holds r.0 r.1 r.2 c.args.m.now (hand_of x c.args.m.now.part c.args.m.now.parts))
      c.in-Done.is r.3),
)

pub give_failed-requires : goal.give_failed-requires
give_failed-requires g c = let r = c.requires.holds in (
  r.0,
  r.1,
  r.2,
  (subst (λ (x : Next). Holds r.0 r.1 r.2 c.args.m.now (hand_of x c.args.m.now.part c.args.m.now.parts))
      c.in-Failed.is r.3),
)

pub returns-in-Begin-clause-ok : goal.returns-in-Begin-clause-ok
returns-in-Begin-clause-ok g c = subst (λ (x : Next). IfOk c.begin.result (λ next. Turn
    (world_of g.M.Meaning.meaning c.args.host.now.definitions.now c.args.host.now.primitives.now c.args.host.now.room)
    c.args.m.now (hand_of x c.args.m.now.part c.args.m.now.parts) c.begin.new.m next)) (sym c.in-Begin.is)
    c.begin.ensures.ok

pub returns-in-Begin-clause-less : goal.returns-in-Begin-clause-less
returns-in-Begin-clause-less g c = subst (λ (x : Next). IfOk c.begin.result
    (λ next. Falls c.args.m.now (hand_of x c.args.m.now.part c.args.m.now.parts) c.begin.new.m next))
    (sym c.in-Begin.is) c.begin.ensures.less

pub returns-in-Done-clause-ok : goal.returns-in-Done-clause-ok
returns-in-Done-clause-ok g c = subst (λ (x : Next). IfOk c.give_done.result (λ next. Turn
    (world_of g.M.Meaning.meaning c.args.host.now.definitions.now c.args.host.now.primitives.now c.args.host.now.room)
    c.args.m.now (hand_of x c.args.m.now.part c.args.m.now.parts) c.give_done.new.m next)) (sym c.in-Done.is)
    (c.give_done.ensures.ok
    (world_of g.M.Meaning.meaning c.args.host.now.definitions.now c.args.host.now.primitives.now c.args.host.now.room))

pub returns-in-Done-clause-less : goal.returns-in-Done-clause-less
returns-in-Done-clause-less g c = subst (λ (x : Next). IfOk c.give_done.result
    (λ next. Falls c.args.m.now (hand_of x c.args.m.now.part c.args.m.now.parts) c.give_done.new.m next))
    (sym c.in-Done.is) c.give_done.ensures.less

pub returns-in-Failed-clause-ok : goal.returns-in-Failed-clause-ok
returns-in-Failed-clause-ok g c = subst (λ (x : Next). IfOk c.give_failed.result (λ next. Turn
    (world_of g.M.Meaning.meaning c.args.host.now.definitions.now c.args.host.now.primitives.now c.args.host.now.room)
    c.args.m.now (hand_of x c.args.m.now.part c.args.m.now.parts) c.give_failed.new.m next)) (sym c.in-Failed.is)
    (c.give_failed.ensures.ok
    (world_of g.M.Meaning.meaning c.args.host.now.definitions.now c.args.host.now.primitives.now c.args.host.now.room))

pub returns-in-Failed-clause-less : goal.returns-in-Failed-clause-less
returns-in-Failed-clause-less g c = subst (λ (x : Next). IfOk c.give_failed.result
    (λ next. Falls c.args.m.now (hand_of x c.args.m.now.part c.args.m.now.parts) c.give_failed.new.m next))
    (sym c.in-Failed.is) c.give_failed.ensures.less

pub begin-requires-clause-there : goal.begin-requires-clause-there
begin-requires-clause-there g c = let r = c.requires.holds in begin_there c.args.m.now
    (subst (λ (x : Next). Holds r.0 r.1 r.2 c.args.m.now (hand_of x c.args.m.now.part c.args.m.now.parts))
    c.in-Begin.is r.3)

pub begin-requires-clause-has : goal.begin-requires-clause-has
begin-requires-clause-has g c = let r = c.requires.holds in begin_has c.args.m.now
    (subst (λ (x : Next). Holds r.0 r.1 r.2 c.args.m.now (hand_of x c.args.m.now.part c.args.m.now.parts))
    c.in-Begin.is r.3)
