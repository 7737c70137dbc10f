use Rattle.std.proofs.Common.{refl, sym, ap, ◌∙◌}
use Rattle.strategy_machine.proofs.TakeLemmas.{take_same, take_failed, take_leftmost, take_those, over_none}
use Rattle.strategy_machine.proofs.ResultLemmas.{ok_map}
use Rattle.strategy_machine.proofs.FormLemmas.{taken_form, taken_turn}
use Rattle.strategy_syntax.specs.Heads.{head_of}
use Rattle.strategy_machine.specs.Turns.{state_of, world_of}
use Rattle.strategy_syntax.specs.ResolvedView.{resolved_of}
use Rattle.strategy_syntax.specs.Resolved.{seq, guard, test, scope, call, congruence, tail_congruence, all, one, some, child, rec, prim, resolveds_of, resolved_patterns_of}
use Rattle.strategy_machine.proofs.begin.take.Goals as goal

pub returns-in-Id-clause-ok : goal.returns-in-Id-clause-ok
returns-in-Id-clause-ok g c = taken_turn
    (world_of g.M.Meaning.meaning c.args.host.now.definitions.now c.args.host.now.primitives.now c.args.host.now.room)
    c.args.m.now c.args.strategy.now _ c.args.scope c.args.m.now.part _ ((c.form.ensures ∙ ap resolved_of c.in-Id.is))
    (λ sub whole h. c.gives.ensures.keeps _ sub whole
    (take_same (world_of g.M.Meaning.meaning c.args.host.now.definitions.now c.args.host.now.primitives.now
    c.args.host.now.room) sub whole (state_of c.args.m.now) _ c.args.scope c.args.m.now.part refl h))

pub returns-in-Fail-clause-ok : goal.returns-in-Fail-clause-ok
returns-in-Fail-clause-ok g c = taken_turn
    (world_of g.M.Meaning.meaning c.args.host.now.definitions.now c.args.host.now.primitives.now c.args.host.now.room)
    c.args.m.now c.args.strategy.now _ c.args.scope c.args.m.now.part _ ((c.form.ensures ∙ ap resolved_of c.in-Fail.is))
    (λ sub whole h. c.fails.ensures.keeps _ sub whole
    (take_failed (world_of g.M.Meaning.meaning c.args.host.now.definitions.now c.args.host.now.primitives.now
    c.args.host.now.room) sub whole (state_of c.args.m.now) _ c.args.scope c.args.m.now.part refl h))

pub returns-in-Match-clause-ok : goal.returns-in-Match-clause-ok
returns-in-Match-clause-ok g c = taken_form
    (world_of g.M.Meaning.meaning c.args.host.now.definitions.now c.args.host.now.primitives.now c.args.host.now.room)
    c.args.m.now c.take_match.new.m c.args.strategy.now _ c.args.scope c.args.m.now.part c.take_match.result
    ((c.form.ensures ∙ ap resolved_of c.in-Match.is)) (c.take_match.ensures.ok
    (world_of g.M.Meaning.meaning c.args.host.now.definitions.now c.args.host.now.primitives.now c.args.host.now.room))

pub returns-in-Build-clause-ok : goal.returns-in-Build-clause-ok
returns-in-Build-clause-ok g c = taken_form
    (world_of g.M.Meaning.meaning c.args.host.now.definitions.now c.args.host.now.primitives.now c.args.host.now.room)
    c.args.m.now c.take_build.new.m c.args.strategy.now _ c.args.scope c.args.m.now.part c.take_build.result
    ((c.form.ensures ∙ ap resolved_of c.in-Build.is)) (c.take_build.ensures.ok
    (world_of g.M.Meaning.meaning c.args.host.now.definitions.now c.args.host.now.primitives.now c.args.host.now.room))

pub returns-in-Seq-clause-ok : goal.returns-in-Seq-clause-ok
returns-in-Seq-clause-ok g c = taken_form
    (world_of g.M.Meaning.meaning c.args.host.now.definitions.now c.args.host.now.primitives.now c.args.host.now.room)
    c.args.m.now c.take_seq.new.m c.args.strategy.now _ c.args.scope c.args.m.now.part c.take_seq.result
    ((c.form.ensures ∙ ap resolved_of c.in-Seq.is
    ∙ (λ i. seq (sym (ap (λ x. x.0) c.deref.ensures) i) (sym (ap (λ x. x.1) c.deref-in-Seq.ensures) i))))
    (c.take_seq.ensures.ok
    (world_of g.M.Meaning.meaning c.args.host.now.definitions.now c.args.host.now.primitives.now c.args.host.now.room))

pub returns-in-Guard-clause-ok : goal.returns-in-Guard-clause-ok
returns-in-Guard-clause-ok g c = taken_form
    (world_of g.M.Meaning.meaning c.args.host.now.definitions.now c.args.host.now.primitives.now c.args.host.now.room)
    c.args.m.now c.take_choice.new.m c.args.strategy.now _ c.args.scope c.args.m.now.part c.take_choice.result
    ((c.form.ensures ∙ ap resolved_of c.in-Guard.is ∙ (λ i. guard (sym (ap (λ x. x.0) c.deref-in-Guard.ensures) i)
    (sym (ap (λ x. x.1) c.deref-in-Guard-2.ensures) i) (sym (ap (λ x. x.2) c.deref-in-Guard-3.ensures) i))))
    (c.take_choice.ensures.ok)

pub returns-in-Test-clause-ok : goal.returns-in-Test-clause-ok
returns-in-Test-clause-ok g c = taken_form
    (world_of g.M.Meaning.meaning c.args.host.now.definitions.now c.args.host.now.primitives.now c.args.host.now.room)
    c.args.m.now c.take_test.new.m c.args.strategy.now _ c.args.scope c.args.m.now.part c.take_test.result
    ((c.form.ensures ∙ ap resolved_of c.in-Test.is ∙ ap test (sym c.deref-in-Test.ensures))) (c.take_test.ensures.ok
    (world_of g.M.Meaning.meaning c.args.host.now.definitions.now c.args.host.now.primitives.now c.args.host.now.room))

pub returns-in-Scope-clause-ok : goal.returns-in-Scope-clause-ok
returns-in-Scope-clause-ok g c = taken_form
    (world_of g.M.Meaning.meaning c.args.host.now.definitions.now c.args.host.now.primitives.now c.args.host.now.room)
    c.args.m.now c.take_scope.new.m c.args.strategy.now _ c.args.scope c.args.m.now.part c.take_scope.result
    ((c.form.ensures ∙ ap resolved_of c.in-Scope.is ∙ ap (scope c.in-Scope.count) (sym c.deref-in-Scope.ensures)))
    (c.take_scope.ensures.ok
    (world_of g.M.Meaning.meaning c.args.host.now.definitions.now c.args.host.now.primitives.now c.args.host.now.room))

pub returns-in-Param-clause-ok : goal.returns-in-Param-clause-ok
returns-in-Param-clause-ok g c = taken_turn
    (world_of g.M.Meaning.meaning c.args.host.now.definitions.now c.args.host.now.primitives.now c.args.host.now.room)
    c.args.m.now c.args.strategy.now _ c.args.scope c.args.m.now.part _
    ((c.form.ensures ∙ ap resolved_of c.in-Param.is)) (c.take_param.ensures.ok (world_of g.M.Meaning.meaning
    c.args.host.now.definitions.now c.args.host.now.primitives.now c.args.host.now.room)).keeps

pub returns-in-Call-clause-ok : goal.returns-in-Call-clause-ok
returns-in-Call-clause-ok g c = taken_form
    (world_of g.M.Meaning.meaning c.args.host.now.definitions.now c.args.host.now.primitives.now c.args.host.now.room)
    c.args.m.now c.take_call.new.m c.args.strategy.now _ c.args.scope c.args.m.now.part c.take_call.result
    ((c.form.ensures ∙ ap resolved_of c.in-Call.is
    ∙ (λ i. call c.in-Call.definition (resolveds_of (sym c.deref-in-Call.ensures.value i))
    (resolved_patterns_of (sym c.deref-in-Call-2.ensures.value i))))) (c.take_call.ensures.ok)

pub returns-in-Congruence-clause-ok : goal.returns-in-Congruence-clause-ok
returns-in-Congruence-clause-ok g c = taken_form
    (world_of g.M.Meaning.meaning c.args.host.now.definitions.now c.args.host.now.primitives.now c.args.host.now.room)
    c.args.m.now c.take_congruence.new.m c.args.strategy.now _ c.args.scope c.args.m.now.part c.take_congruence.result
    ((c.form.ensures ∙ ap resolved_of c.in-Congruence.is
    ∙ ap (λ ss. congruence (head_of c.in-Congruence.head) (resolveds_of ss)) (sym c.deref-in-Congruence.ensures.value)))
    (c.take_congruence.ensures.ok
    (world_of g.M.Meaning.meaning c.args.host.now.definitions.now c.args.host.now.primitives.now c.args.host.now.room))

pub returns-in-TailCongruence-clause-ok : goal.returns-in-TailCongruence-clause-ok
returns-in-TailCongruence-clause-ok g c = taken_form
    (world_of g.M.Meaning.meaning c.args.host.now.definitions.now c.args.host.now.primitives.now c.args.host.now.room)
    c.args.m.now c.take_tail.new.m c.args.strategy.now _ c.args.scope c.args.m.now.part c.take_tail.result
    ((c.form.ensures ∙ ap resolved_of c.in-TailCongruence.is ∙ (λ i. tail_congruence
    (resolveds_of (sym c.deref-in-TailCongruence.ensures.value i)) (sym c.deref-in-TailCongruence-2.ensures i))))
    (c.take_tail.ensures.ok
    (world_of g.M.Meaning.meaning c.args.host.now.definitions.now c.args.host.now.primitives.now c.args.host.now.room))

pub returns-in-All-clause-ok : goal.returns-in-All-clause-ok
returns-in-All-clause-ok g c = taken_form
    (world_of g.M.Meaning.meaning c.args.host.now.definitions.now c.args.host.now.primitives.now c.args.host.now.room)
    c.args.m.now c.take_all.new.m c.args.strategy.now _ c.args.scope c.args.m.now.part c.take_all.result
    ((c.form.ensures ∙ ap resolved_of c.in-All.is ∙ ap all (sym c.deref-in-All.ensures))) (c.take_all.ensures.ok
    (world_of g.M.Meaning.meaning c.args.host.now.definitions.now c.args.host.now.primitives.now c.args.host.now.room))

pub returns-in-One-clause-ok : goal.returns-in-One-clause-ok
returns-in-One-clause-ok g c = taken_form
    (world_of g.M.Meaning.meaning c.args.host.now.definitions.now c.args.host.now.primitives.now c.args.host.now.room)
    c.args.m.now c.try_on.new.m c.args.strategy.now _ c.args.scope c.args.m.now.part c.try_on.result
    ((c.form.ensures ∙ ap resolved_of c.in-One.is ∙ ap one (sym c.deref-in-One.ensures)))
    (ok_map c.try_on.result (λ next k. record {
      keeps = λ sub whole h. k.keeps sub whole (take_leftmost (world_of g.M.Meaning.meaning
          c.args.host.now.definitions.now c.args.host.now.primitives.now c.args.host.now.room) sub whole
          (state_of c.args.m.now) c.deref-in-One.result c.args.scope c.args.m.now.part h);
    }) (c.try_on.ensures.ok
    (world_of g.M.Meaning.meaning c.args.host.now.definitions.now c.args.host.now.primitives.now c.args.host.now.room)))

pub returns-in-Some-clause-ok : goal.returns-in-Some-clause-ok
returns-in-Some-clause-ok g c = taken_form
    (world_of g.M.Meaning.meaning c.args.host.now.definitions.now c.args.host.now.primitives.now c.args.host.now.room)
    c.args.m.now c.go_over.new.m c.args.strategy.now _ c.args.scope c.args.m.now.part c.go_over.result
    ((c.form.ensures ∙ ap resolved_of c.in-Some.is ∙ ap some (sym c.deref-in-Some.ensures)))
    (ok_map c.go_over.result (λ next k. record {
      keeps = λ sub whole h. k.keeps sub whole (take_those (world_of g.M.Meaning.meaning c.args.host.now.definitions.now
          c.args.host.now.primitives.now c.args.host.now.room) sub whole (state_of c.args.m.now) c.deref-in-Some.result
          c.args.scope c.args.m.now.part c.clear.new.self c.clear.ensures.items h);
    }) (c.go_over.ensures.ok
    (world_of g.M.Meaning.meaning c.args.host.now.definitions.now c.args.host.now.primitives.now c.args.host.now.room)))

pub go_over-requires : goal.go_over-requires
go_over-requires g c = (over_none c.args.m.now.part c.clear.new.self.items c.clear.ensures.items c.requires.has).0

pub returns-in-Child-clause-ok : goal.returns-in-Child-clause-ok
returns-in-Child-clause-ok g c = taken_form
    (world_of g.M.Meaning.meaning c.args.host.now.definitions.now c.args.host.now.primitives.now c.args.host.now.room)
    c.args.m.now c.take_child.new.m c.args.strategy.now _ c.args.scope c.args.m.now.part c.take_child.result
    ((c.form.ensures ∙ ap resolved_of c.in-Child.is ∙ ap (child c.in-Child.number) (sym c.deref-in-Child.ensures)))
    (c.take_child.ensures.ok
    (world_of g.M.Meaning.meaning c.args.host.now.definitions.now c.args.host.now.primitives.now c.args.host.now.room))

pub returns-in-Rec-clause-ok : goal.returns-in-Rec-clause-ok
returns-in-Rec-clause-ok g c = taken_form
    (world_of g.M.Meaning.meaning c.args.host.now.definitions.now c.args.host.now.primitives.now c.args.host.now.room)
    c.args.m.now c.take_rec.new.m c.args.strategy.now _ c.args.scope c.args.m.now.part c.take_rec.result
    ((c.form.ensures ∙ ap resolved_of c.in-Rec.is ∙ ap rec (sym c.deref-in-Rec.ensures))) (c.take_rec.ensures.ok
    (world_of g.M.Meaning.meaning c.args.host.now.definitions.now c.args.host.now.primitives.now c.args.host.now.room))

pub returns-in-Prim-clause-ok : goal.returns-in-Prim-clause-ok
returns-in-Prim-clause-ok g c = taken_form
    (world_of g.M.Meaning.meaning c.args.host.now.definitions.now c.args.host.now.primitives.now c.args.host.now.room)
    c.args.m.now c.take_prim.new.m c.args.strategy.now _ c.args.scope c.args.m.now.part c.take_prim.result
    ((c.form.ensures ∙ ap resolved_of c.in-Prim.is ∙ ap (λ ps. prim c.in-Prim.primitive (resolved_patterns_of ps))
    (sym c.deref-in-Prim.ensures.value))) (c.take_prim.ensures.ok)

pub take_rec-requires-clause-whole : goal.take_rec-requires-clause-whole
take_rec-requires-clause-whole g c = (c.form.ensures ∙ ap resolved_of c.in-Rec.is ∙ ap rec (sym c.deref-in-Rec.ensures))

pub take_choice-requires-clause-whole : goal.take_choice-requires-clause-whole
take_choice-requires-clause-whole g c = c.form.ensures ∙ ap resolved_of c.in-Guard.is
    ∙ (λ i. guard (sym (ap (λ x. x.0) c.deref-in-Guard.ensures) i) (sym (ap (λ x. x.1) c.deref-in-Guard-2.ensures) i)
    (sym (ap (λ x. x.2) c.deref-in-Guard-3.ensures) i))
