use Rattle.std.proofs.Common.{arith, ap, ◌∙◌, ◌-◌}
use Rattle.strategy_syntax.specs.ResolvedView.{resolved_of}
use Rattle.strategy_machine.proofs.TakeLemmas.{paid, with_frames}
use Rattle.strategy_machine.proofs.OpenLemmas.{pushed}
use Rattle.strategy_machine.proofs.NamedLemmas.{named_spent, named_unknown, named_id_spent, named_id, named_begins}
use Rattle.strategy_machine.specs.Turns.{state_of}
use Rattle.strategy_machine.proofs.forms.named_first.Goals as goal

pub returns-then-m-eq0-clause-ok : goal.returns-then-m-eq0-clause-ok
returns-then-m-eq0-clause-ok c = λ W. record {
  keeps = λ sub whole h. named_spent W sub whole (state_of c.args.m.now) c.args.name c.args.second c.args.scope
      c.args.m.now.part c.if-m-eq0.true h;
}

pub returns-in_default-clause-ok : goal.returns-in_default-clause-ok
returns-in_default-clause-ok c = λ W. record {
  keeps = λ sub whole h. c.fails.ensures.keeps W sub whole
      (named_unknown W sub whole (state_of c.args.m.now) c.args.name c.args.second c.args.scope c.args.m.now.part
      (c.args.m.now.steps - 1) (omega (arith, c.if-m-eq0.false)) c.in_default.ensures h);
}

pub returns-then-m-eq0-2-clause-ok : goal.returns-then-m-eq0-2-clause-ok
returns-then-m-eq0-2-clause-ok c = λ W. record {
  keeps = λ sub whole h. named_id_spent W sub whole (state_of c.args.m.now) c.args.name c.args.second c.args.scope
      c.args.m.now.part c.in-Some.known c.in-Some.ensures (omega (arith, c.if-m-eq0.false, c.if-m-eq0-2.true))
      (c.form.ensures ∙ ap resolved_of c.in-Id.is) h;
}

pub returns-in-Id-clause-ok : goal.returns-in-Id-clause-ok
returns-in-Id-clause-ok c = λ W. record {
  keeps = λ sub whole h. c.begins.ensures.keeps W sub whole (named_id W sub whole (state_of c.args.m.now) c.args.name
      c.args.second c.args.scope c.args.m.now.part c.in-Some.known c.in-Some.ensures (c.args.m.now.steps - 1 - 1)
      (omega (arith, c.if-m-eq0.false, c.if-m-eq0-2.false)) (c.form.ensures ∙ ap resolved_of c.in-Id.is) h);
}

pub returns-clause-ok : goal.returns-clause-ok
returns-clause-ok c = λ W. record {
  keeps = λ sub whole h. c.begins-2.ensures.keeps W sub whole (with_frames W sub whole
      (paid (state_of c.args.m.now) (c.args.m.now.steps - 1)) _ _ _ (pushed _ _ _ c.in_ok-wait.ensures.items)
      (named_begins W sub whole (state_of c.args.m.now) c.args.name c.args.second c.args.scope c.args.m.now.part
      c.in-Some.known c.in-Some.ensures (c.args.m.now.steps - 1) (omega (arith, c.if-m-eq0.false)) h));
}
