use Rattle.std.proofs.Common.{◌≡◌, IfOk, refl, sym, ap, subst, ◌∙◌, ◌∷◌, reverse}
use Rattle.strategy_syntax.specs.Resolved.{ResolvedStrategy, matches, builds, seq, guard}
use Rattle.strategy_syntax.specs.ResolvedView.{resolved_of}
use Rattle.strategy_machine.specs.inside.Taking.{Takes}
use Rattle.strategy_machine.proofs.TakeLemmas.{with_frames, take_choice}
use Rattle.strategy_machine.proofs.HeadLemmas.{take_other, take_passed}
use Rattle.strategy_machine.specs.Table.{scopes}
use Rattle.strategy_machine.specs.Turns.{state_of, world_of}
use Rattle.strategy_machine.proofs.OpenLemmas.{pushed}
use Rattle.strategy_machine.specs.declared.frames.Frame.TheVariants.{Choose}
use Rattle.term_match.specs.Marks.{kept}
use Rattle.strategy_machine.proofs.forms.take_guard.Goals as goal

pub returns-in-Build-clause-ok : goal.returns-in-Build-clause-ok
returns-in-Build-clause-ok g c =
    let matched : c.deref.result.now.0 ≡ matches c.in-Match.left = c.form-in-Seq.ensures
    ∙ ap resolved_of c.in-Match.is in
    let built : c.deref-in-Match.result.now.1 ≡ builds c.in-Build.right = c.form-in-Match.ensures
    ∙ ap resolved_of c.in-Build.is in
    let is : c.args.first.now ≡ seq (matches c.in-Match.left) (builds c.in-Build.right) = c.form.ensures
    ∙ ap resolved_of c.in-Seq.is
    ∙ (λ i. seq ((sym (ap (λ x. x.0) c.deref.ensures) ∙ matched) i)
    ((sym (ap (λ x. x.1) c.deref-in-Match.ensures) ∙ built) i)) in
    subst (λ (s : ResolvedStrategy). IfOk c.rewrite_or.result (λ next. Takes
    (world_of g.M.Meaning.meaning c.args.host.now.definitions.now c.args.host.now.primitives.now c.args.host.now.room)
    c.args.m.now (guard s c.args.second.now c.args.other.now) c.args.scope c.args.m.now.part c.rewrite_or.new.m next))
    (sym is) (c.rewrite_or.ensures.ok
    (world_of g.M.Meaning.meaning c.args.host.now.definitions.now c.args.host.now.primitives.now c.args.host.now.room))

pub returns-clause-ok : goal.returns-clause-ok
returns-clause-ok g c = record {
  keeps = λ sub whole h. c.begins.ensures.keeps _ sub whole (with_frames _ sub whole (state_of c.args.m.now) _ _ _
      (pushed _ _ _ c.in_ok-wait_with_start.ensures.items ∙ (λ i. Choose c.args.second c.args.other c.args.scope
      (c.in_ok-start.ensures i) c.args.m.now.trail.count (c.mark-mark.ensures.result i) ∷ reverse c.args.m.now.frames))
      (take_choice _ sub whole (state_of c.args.m.now) c.args.first c.args.second c.args.other c.args.scope
      c.args.m.now.part (ap (kept c.args.m.now.cells) (sym c.mark-mark.ensures.result) ∙ c.mark-mark.ensures.kept) h));
}

pub returns-in-Some-ahead-clause-ok : goal.returns-in-Some-ahead-clause-ok
returns-in-Some-ahead-clause-ok g c = record {
  keeps = λ sub whole h. c.goes_on.ensures.keeps _ sub whole (take_passed _ sub whole (state_of c.args.m.now)
      c.args.other _ c.args.scope c.args.m.now.part c.in-Some-ahead.left _ c.after_rules-passed.ensures.same
      (take_other _ sub whole (state_of c.args.m.now) c.args.host.now.definitions.now c.args.first c.args.second
      c.args.other c.args.scope c.args.m.now.part c.in-Some-ahead.left refl c.in-Some-ahead.ensures.fails h));
}

pub returns-in-Some-clause-ok : goal.returns-in-Some-clause-ok
returns-in-Some-clause-ok g c = c.rule_or.ensures.ok
    (world_of g.M.Meaning.meaning c.args.host.now.definitions.now c.args.host.now.primitives.now c.args.host.now.room)
    c.args.first.now (c.in-Some.ensures (scopes c.args.m.now.scopes))

pub rule_or-requires-clause-there : goal.rule_or-requires-clause-there
rule_or-requires-clause-there g c = (c.in-Some.ensures (scopes c.args.m.now.scopes)).there c.requires.there
