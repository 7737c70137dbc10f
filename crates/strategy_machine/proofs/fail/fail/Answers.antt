use Rattle.std.proofs.Common.{◌≡◌, ◌++◌, ap, subst}
use Rattle.strategy_machine.specs.Hands.{Failed}
use Rattle.strategy_machine.specs.inside.Slots.{EndsWith, is_alone, alone}
use Rattle.strategy_machine.proofs.FailLemmas.{fail_then, fail_tail, fail_leave, fail_cut}
use Rattle.strategy_machine.proofs.WalkLemmas.{popped}
use Rattle.strategy_machine.proofs.fail.fail.Goals as goal

pub pop-requires : goal.pop-requires
pop-requires c = (c.args.slot, c.requires.last, ap is_alone c.in-Then.is)

pub returns-in-Then-clause-ok : goal.returns-in-Then-clause-ok
returns-in-Then-clause-ok c = λ W. record {
  keeps = λ sub whole h. c.fails.ensures.keeps W sub whole
      (fail_then W sub whole _ _ _ _ _ _ _ _ (popped W sub whole c.args.m.now Failed c.pop.new.self _
      (subst (λ x. c.args.m.now.frames ≡ c.pop.new.self ++ alone x) c.in-Then.is
      (c.pop.ensures.items c.args.slot c.requires.last)) h));
}

pub pop-requires-in-Tail : goal.pop-requires-in-Tail
pop-requires-in-Tail c = (c.args.slot, c.requires.last, ap is_alone c.in-Tail.is)

pub returns-in-Tail-clause-ok : goal.returns-in-Tail-clause-ok
returns-in-Tail-clause-ok c = λ W. record {
  keeps = λ sub whole h. c.fails-in-Tail.ensures.keeps W sub whole
      (fail_tail W sub whole _ _ _ _ _ _ _ _ _ (popped W sub whole c.args.m.now Failed c.pop-in-Tail.new.self _
      (subst (λ x. c.args.m.now.frames ≡ c.pop-in-Tail.new.self ++ alone x) c.in-Tail.is
      (c.pop-in-Tail.ensures.items c.args.slot c.requires.last)) h));
}

pub pop-requires-in-Leave : goal.pop-requires-in-Leave
pop-requires-in-Leave c = (c.args.slot, c.requires.last, ap is_alone c.in-Leave.is)

pub returns-in-Leave-clause-ok : goal.returns-in-Leave-clause-ok
returns-in-Leave-clause-ok c = λ W. record {
  keeps = λ sub whole h. c.fails-in-Leave.ensures.keeps W sub whole
      (fail_leave W sub whole _ _ _ _ _ _ _ c.in-Leave.scopes c.cut.ensures
      (popped W sub whole c.args.m.now Failed c.pop-in-Leave.new.self _
      (subst (λ x. c.args.m.now.frames ≡ c.pop-in-Leave.new.self ++ alone x) c.in-Leave.is
      (c.pop-in-Leave.ensures.items c.args.slot c.requires.last)) h));
}

pub pop-requires-in-Cut : goal.pop-requires-in-Cut
pop-requires-in-Cut c = (c.args.slot, c.requires.last, ap is_alone c.in-Cut.is)

pub close_to-requires : goal.close_to-requires
close_to-requires c = let r = c.requires.run in
    (popped r.0 r.1 r.2 c.args.m.now Failed c.pop-in-Cut.new.self _
    (subst (λ x. c.args.m.now.frames ≡ c.pop-in-Cut.new.self ++ alone x) c.in-Cut.is
    (c.pop-in-Cut.ensures.items c.args.slot c.requires.last)) r.3).opens.is.1

pub returns-in-Cut-clause-ok : goal.returns-in-Cut-clause-ok
returns-in-Cut-clause-ok c = λ W. record {
  keeps = λ sub whole h. c.fails-in-Cut.ensures.keeps W sub whole
      (fail_cut W sub whole _ _ _ _ _ _ _ _ c.in-Cut.cells c.in-Cut.scopes c.cut-in-Cut.ensures c.close_to.ensures.later
      c.close_to.ensures.stays (popped W sub whole c.args.m.now Failed c.pop-in-Cut.new.self _
      (subst (λ x. c.args.m.now.frames ≡ c.pop-in-Cut.new.self ++ alone x) c.in-Cut.is
      (c.pop-in-Cut.ensures.items c.args.slot c.requires.last)) h));
}

pub fail_choice-requires-clause-last : goal.fail_choice-requires-clause-last
fail_choice-requires-clause-last c = (_, subst (λ x. EndsWith x c.args.m.now.frames) c.in-Choose.is c.requires.last)

pub fail_test-requires : goal.fail_test-requires
fail_test-requires c = subst (λ x. EndsWith x c.args.m.now.frames) c.in-Restore.is c.requires.last

pub fail_each-requires : goal.fail_each-requires
fail_each-requires c = (_, _, subst (λ x. EndsWith x c.args.m.now.frames) c.in-Each.is c.requires.last)

pub fail_leftmost-requires-clause-last : goal.fail_leftmost-requires-clause-last
fail_leftmost-requires-clause-last c = subst (λ x. EndsWith x c.args.m.now.frames) c.in-Leftmost.is c.requires.last

pub fail_those-requires-clause-last : goal.fail_those-requires-clause-last
fail_those-requires-clause-last c = subst (λ x. EndsWith x c.args.m.now.frames) c.in-Those.is c.requires.last

pub fail_rest-requires : goal.fail_rest-requires
fail_rest-requires c = (_, subst (λ x. EndsWith x c.args.m.now.frames) c.in-Rest.is c.requires.last)

pub fail_head-requires : goal.fail_head-requires
fail_head-requires c = (_, _, subst (λ x. EndsWith x c.args.m.now.frames) c.in-Head.is c.requires.last)

pub fail_after-requires : goal.fail_after-requires
fail_after-requires c = subst (λ x. EndsWith x c.args.m.now.frames) c.in-After.is c.requires.last
