use Rattle.std.proofs.Common.{◌≡◌, ◌++◌, refl, ap, subst}
use Rattle.strategy_machine.specs.Hands.{Done}
use Rattle.strategy_machine.specs.inside.Slots.{EndsWith, has_start, with_start}
use Rattle.strategy_machine.specs.declared.stack.Start.{Start}
use Rattle.strategy_machine.proofs.GiveLemmas.{give_then, give_choice, give_leave, give_cut}
use Rattle.strategy_machine.proofs.WalkLemmas.{popped}
use Rattle.strategy_machine.specs.declared.frames.Frame.TheVariants as frames
use Rattle.strategy_machine.specs.declared.stack.Slot.TheVariants as slots
use Rattle.strategy_machine.proofs.give.give.Goals as goal

pub pop-requires : goal.pop-requires
pop-requires c = (
  slots.Then c.in-Then.strategy c.in-Then.scope,
  (subst (λ x. EndsWith x c.args.m.now.frames) c.in-Then.is c.requires.last),
  refl,
)

pub returns-in-Then-clause-ok : goal.returns-in-Then-clause-ok
returns-in-Then-clause-ok c = λ W. record {
  keeps = λ sub whole h. c.begins.ensures.keeps W sub whole
      (give_then W sub whole _ _ _ _ _ _ c.in-Then.strategy c.in-Then.scope c.args.m.now.part (popped W sub whole
      c.args.m.now (Done c.args.m.now.part) c.pop.new.self (frames.Then c.in-Then.strategy c.in-Then.scope)
      (c.pop.ensures.items (slots.Then c.in-Then.strategy c.in-Then.scope)
      (subst (λ x. EndsWith x c.args.m.now.frames) c.in-Then.is c.requires.last)) h));
}

pub returns-in-Choose-clause-ok : goal.returns-in-Choose-clause-ok
returns-in-Choose-clause-ok c =
    let e = subst (λ x. (p : Start) × (c.args.m.now.frames ≡ c.drop_start.new.self ++ with_start x p)) c.in-Choose.is
    (c.drop_start.ensures.items c.args.slot c.requires.last) in
    λ W. record {
      keeps = λ sub whole h. c.goes_on.ensures.keeps W sub whole
          (give_choice W sub whole _ _ _ _ _ _ c.in-Choose.then _ c.in-Choose.scope _ c.args.m.now.part _ _
          (popped W sub whole c.args.m.now (Done c.args.m.now.part) c.drop_start.new.self _ e.1 h));
    }

pub drop_start-requires : goal.drop_start-requires
drop_start-requires c = (c.args.slot, c.requires.last, ap has_start c.in-Choose.is)

pub give_test-requires : goal.give_test-requires
give_test-requires c = subst (λ x. EndsWith x c.args.m.now.frames) c.in-Restore.is c.requires.last

pub give_each-requires-clause-last : goal.give_each-requires-clause-last
give_each-requires-clause-last c = subst (λ x. EndsWith x c.args.m.now.frames) c.in-Each.is c.requires.last

pub give_leftmost-requires-clause-last : goal.give_leftmost-requires-clause-last
give_leftmost-requires-clause-last c = subst (λ x. EndsWith x c.args.m.now.frames) c.in-Leftmost.is c.requires.last

pub give_those-requires-clause-last : goal.give_those-requires-clause-last
give_those-requires-clause-last c = subst (λ x. EndsWith x c.args.m.now.frames) c.in-Those.is c.requires.last

pub give_tail-requires-clause-last : goal.give_tail-requires-clause-last
give_tail-requires-clause-last c = subst (λ x. EndsWith x c.args.m.now.frames) c.in-Tail.is c.requires.last

pub give_rest-requires : goal.give_rest-requires
give_rest-requires c = subst (λ x. EndsWith x c.args.m.now.frames) c.in-Rest.is c.requires.last

pub give_head-requires : goal.give_head-requires
give_head-requires c = subst (λ x. EndsWith x c.args.m.now.frames) c.in-Head.is c.requires.last

pub give_after-requires-clause-last : goal.give_after-requires-clause-last
give_after-requires-clause-last c = subst (λ x. EndsWith x c.args.m.now.frames) c.in-After.is c.requires.last

pub pop-requires-in-Leave : goal.pop-requires-in-Leave
pop-requires-in-Leave c =
    (slots.Leave c.in-Leave.scopes, (subst (λ x. EndsWith x c.args.m.now.frames) c.in-Leave.is c.requires.last), refl)

pub returns-in-Leave-clause-ok : goal.returns-in-Leave-clause-ok
returns-in-Leave-clause-ok c = λ W. record {
  keeps = λ sub whole h. c.gives.ensures.keeps W sub whole
      (give_leave W sub whole _ _ _ _ _ _ _ c.in-Leave.scopes c.args.m.now.part c.cut.ensures
      (popped W sub whole c.args.m.now (Done c.args.m.now.part) c.pop-in-Leave.new.self (frames.Leave c.in-Leave.scopes)
      (c.pop-in-Leave.ensures.items (slots.Leave c.in-Leave.scopes)
      (subst (λ x. EndsWith x c.args.m.now.frames) c.in-Leave.is c.requires.last)) h));
}

pub pop-requires-in-Cut : goal.pop-requires-in-Cut
pop-requires-in-Cut c = (
  slots.Cut c.in-Cut.cells c.in-Cut.scopes,
  (subst (λ x. EndsWith x c.args.m.now.frames) c.in-Cut.is c.requires.last),
  refl,
)

pub close_to-requires : goal.close_to-requires
close_to-requires c = let r = c.requires.run in
    (popped r.0 r.1 r.2 c.args.m.now (Done c.args.m.now.part) c.pop-in-Cut.new.self
    (frames.Cut c.in-Cut.cells c.in-Cut.scopes) (c.pop-in-Cut.ensures.items (slots.Cut c.in-Cut.cells c.in-Cut.scopes)
    (subst (λ x. EndsWith x c.args.m.now.frames) c.in-Cut.is c.requires.last)) r.3).opens.is.1

pub returns-in-Cut-clause-ok : goal.returns-in-Cut-clause-ok
returns-in-Cut-clause-ok c = λ W. record {
  keeps = λ sub whole h. c.gives-in-Cut.ensures.keeps W sub whole
      (give_cut W sub whole _ _ _ _ _ _ _ _ c.in-Cut.cells c.in-Cut.scopes c.args.m.now.part c.cut-in-Cut.ensures
      c.close_to.ensures.cells c.close_to.ensures.later c.close_to.ensures.stays
      (popped W sub whole c.args.m.now (Done c.args.m.now.part) c.pop-in-Cut.new.self
      (frames.Cut c.in-Cut.cells c.in-Cut.scopes) (c.pop-in-Cut.ensures.items (slots.Cut c.in-Cut.cells c.in-Cut.scopes)
      (subst (λ x. EndsWith x c.args.m.now.frames) c.in-Cut.is c.requires.last)) h));
}
