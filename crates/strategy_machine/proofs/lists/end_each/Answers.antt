use Rattle.std.proofs.Common.{refl, sym, subst}
use Rattle.strategy_machine.proofs.ResultLemmas.{ok_map}
use Rattle.strategy_machine.proofs.TakeLemmas.{with_frames}
use Rattle.strategy_machine.proofs.OpenLemmas.{pushed}
use Rattle.strategy_machine.specs.Hands.{Done}
use Rattle.strategy_machine.specs.Leading.{node_with}
use Rattle.strategy_machine.specs.Turns.{HoldsIn, state_of}
use Rattle.strategy_machine.specs.declared.frames.Frame.TheVariants.{Tail}
use Rattle.strategy_machine.specs.declared.stack.Slot.TheVariants as slots
use Rattle.strategy_machine.proofs.lists.end_each.Goals as goal

pub returns-then-len-count-clause-ok : goal.returns-then-len-count-clause-ok
returns-then-len-count-clause-ok c = λ W. ok_map c.begin_tail.result (λ next k. record {
  keeps = λ sub whole h. k.keeps sub whole
      (with_frames W sub whole (state_of c.args.m.now) (Done (node_with c.args.m.now.part c.args.m.now.parts.items)) _ _
      (sym (pushed c.pop.new.self c.args.m.now.frames (Tail c.in-Some.tail c.in-Some.scope c.in-Some.count)
      (c.pop.ensures.items (slots.Tail c.in-Some.tail c.in-Some.scope c.in-Some.count) c.in-Some.ensures))) h);
}) (c.begin_tail.ensures.ok W)

pub returns-clause-ok : goal.returns-clause-ok
returns-clause-ok c = λ W. record {
  keeps = λ sub whole h. c.gives.ensures.keeps W sub whole
      (subst (λ q. HoldsIn W sub whole (state_of c.args.m.now) (Done q)) (sym c.in_ok-finish.ensures) h);
}

pub pop-requires : goal.pop-requires
pop-requires c = (slots.Tail c.in-Some.tail c.in-Some.scope c.in-Some.count, c.in-Some.ensures, refl)
