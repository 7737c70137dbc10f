use Rattle.std.proofs.Common.{◌≡◌, subst, Some, None, MatchOption}
use Rattle.std.specs.declared.option.Option.{Option}
use Rattle.strategy_machine.proofs.ResultLemmas.{ok_map}
use Rattle.strategy_machine.proofs.StepLemmas.{frame_goes_on, frame_stays}
use Rattle.strategy_machine.proofs.give.give_done.Goals as goal

when_some : {A : Type 0} (o : Option A) (x : A) (P : Type 0) (Q : A → Type 0) → o ≡ Some x → MatchOption o P Q → Q x
when_some {A = A} o x P Q e h = subst (λ (y : Option A). MatchOption y P Q) e h

when_none : {A : Type 0} (o : Option A) (P : Type 0) (Q : A → Type 0) → o ≡ None → MatchOption o P Q → P
when_none {A = A} o P Q e h = subst (λ (y : Option A). MatchOption y P Q) e h

pub returns-in-Some-clause-ok : goal.returns-in-Some-clause-ok
returns-in-Some-clause-ok c = λ W. record {
  keeps = λ sub whole h. c.begins.ensures.keeps W sub whole
      (frame_goes_on W sub whole c.args.m.now c.in-Some.strategy c.in-Some.scope c.walk_on.new.part c.walk_on.new.self
      (when_some c.in_ok-strategy.field-0 (c.in-Some.strategy, c.in-Some.scope) _ _ c.in-Some.is
      c.in_ok-strategy.ensures) h);
}

pub returns-clause-ok : goal.returns-clause-ok
returns-clause-ok c =
    let same = when_none c.in_ok-strategy.field-0 _ _ c.in_default.is c.in_ok-strategy.ensures in
    λ W. ok_map c.give_last.result (λ next k. record {
      keeps = λ sub whole h. k.keeps sub whole
          (frame_stays W sub whole c.args.m.now c.walk_on.new.part c.walk_on.new.self same.0 same.1 h);
    }) (c.give_last.ensures.ok W)

pub give_last-requires : goal.give_last-requires
give_last-requires c =
    let r = c.requires in
    let same = when_none c.in_ok-strategy.field-0 _ _ c.in_default.is c.in_ok-strategy.ensures in
    (r.0, r.1, r.2, frame_stays r.0 r.1 r.2 c.args.m.now c.walk_on.new.part c.walk_on.new.self same.0 same.1 r.3)
