use Rattle.std.proofs.Common.{sym, ap, ◌∙◌}
use Rattle.strategy_syntax.specs.Resolved.{ResolvedStrategy, seq, all}
use Rattle.strategy_syntax.specs.ResolvedView.{resolved_of}
use Rattle.strategy_machine.proofs.TakeLemmas.{with_frames, take_then}
use Rattle.strategy_machine.proofs.FormLemmas.{taken_form}
use Rattle.strategy_machine.specs.Turns.{state_of}
use Rattle.strategy_machine.proofs.OpenLemmas.{pushed}
use Rattle.strategy_machine.proofs.forms.take_seq.Goals as goal

pub returns-in-Match-clause-ok : goal.returns-in-Match-clause-ok
returns-in-Match-clause-ok c =
    λ W. taken_form W c.args.m.now c.match_first.new.m _ _ c.args.scope c.args.m.now.part c.match_first.result
    (ap (λ (s : ResolvedStrategy). seq s c.args.second.now) (c.form.ensures ∙ ap resolved_of c.in-Match.is))
    (c.match_first.ensures.ok W)

pub returns-in_ok-wait-in_default-clause-ok : goal.returns-in_ok-wait-in_default-clause-ok
returns-in_ok-wait-in_default-clause-ok c = λ W. record {
  keeps = λ sub whole h. c.begins.ensures.keeps W sub whole
      (with_frames W sub whole (state_of c.args.m.now) _ _ _ (pushed _ _ _ c.in_ok-wait-in_default.ensures.items)
      (take_then W sub whole (state_of c.args.m.now) c.args.first c.args.second c.args.scope c.args.m.now.part h));
}

pub returns-in-Param-clause-ok : goal.returns-in-Param-clause-ok
returns-in-Param-clause-ok c =
    λ W. taken_form W c.args.m.now c.named_first.new.m _ _ c.args.scope c.args.m.now.part c.named_first.result
    (ap (λ (s : ResolvedStrategy). seq s c.args.second.now) (c.form.ensures ∙ ap resolved_of c.in-Param.is))
    (c.named_first.ensures.ok W)

pub returns-in-All-clause-ok : goal.returns-in-All-clause-ok
returns-in-All-clause-ok c =
    λ W. taken_form W c.args.m.now c.all_first.new.m _ _ c.args.scope c.args.m.now.part c.all_first.result
    (ap (λ (s : ResolvedStrategy). seq s c.args.second.now)
    (c.form.ensures ∙ ap resolved_of c.in-All.is ∙ ap all (sym c.deref.ensures))) (c.all_first.ensures.ok W)
