use Rattle.std.proofs.Common.{refl}
use Rattle.strategy_machine.proofs.GiveLemmas.{give_leftmost, leftmost_can_hold}
use Rattle.strategy_machine.proofs.WalkLemmas.{rose, popped}
use Rattle.strategy_machine.specs.Hands.{Done}
use Rattle.strategy_machine.specs.declared.frames.Frame.TheVariants as frames
use Rattle.strategy_machine.specs.declared.stack.Slot.TheVariants as slots
use Rattle.strategy_machine.proofs.give.give_leftmost.Goals as goal

pub returns-clause-ok : goal.returns-clause-ok
returns-clause-ok c = λ W. record {
  keeps = λ sub whole h. c.gives.ensures.keeps W sub whole
      (rose W sub whole _ c.rise.new.m c.pop_walk-walk.result c.args.m.now.part c.in_ok-rise.ensures
      (give_leftmost W sub whole _ _ _ _ _ _ c.args.strategy c.args.scope c.pop_walk-walk.result c.args.mark
      c.args.m.now.part c.rise.new.m.part c.in_ok-rise.ensures.part
      (popped W sub whole c.args.m.now (Done c.args.m.now.part) c.pop_walk-walk.new.self
      (frames.Leftmost c.args.strategy c.args.scope c.pop_walk-walk.result c.args.mark)
      (c.pop_walk-walk.ensures.items (slots.Leftmost c.args.strategy c.args.scope c.args.mark) c.requires.last) h)));
}

pub rise-requires : goal.rise-requires
rise-requires c = λ changed. let r = c.requires.run in leftmost_can_hold r.0 r.1 r.2 _ _ _ _ _ _ c.args.strategy
    c.args.scope c.pop_walk-walk.result c.args.mark c.args.m.now.part changed
    (popped r.0 r.1 r.2 c.args.m.now (Done c.args.m.now.part) c.pop_walk-walk.new.self
    (frames.Leftmost c.args.strategy c.args.scope c.pop_walk-walk.result c.args.mark)
    (c.pop_walk-walk.ensures.items (slots.Leftmost c.args.strategy c.args.scope c.args.mark) c.requires.last) r.3)

pub pop_walk-walk-requires : goal.pop_walk-walk-requires
pop_walk-walk-requires c = (slots.Leftmost c.args.strategy c.args.scope c.args.mark, c.requires.last, refl)
