use Rattle.std.proofs.Common.{sym, ◌∙◌, ◌-◌, arith}
use Rattle.strategy_machine.proofs.TakeLemmas.{with_frames, paid}
use Rattle.strategy_machine.proofs.AllLemmas.{same_first, all_spent, all_passed, all_starts}
use Rattle.strategy_machine.proofs.ResultLemmas.{ok_map}
use Rattle.strategy_machine.proofs.OpenLemmas.{pushed}
use Rattle.strategy_machine.specs.Turns.{state_of}
use Rattle.strategy_machine.proofs.forms.all_first.Goals as goal

pub returns-then-m-eq0-clause-ok : goal.returns-then-m-eq0-clause-ok
returns-then-m-eq0-clause-ok c = λ W. record {
  keeps = λ sub whole h. all_spent W sub whole (state_of c.args.m.now) c.args.inner c.args.second c.args.scope
      c.args.m.now.part c.if-m-eq0.true h;
}

pub returns-clause-ok : goal.returns-clause-ok
returns-clause-ok c = λ W. record {
  keeps = λ sub whole h. c.begins.ensures.keeps W sub whole (all_passed W sub whole (state_of c.args.m.now) c.args.inner
      c.args.second c.args.scope c.args.m.now.part (c.args.m.now.steps - 1) (omega (arith, c.if-m-eq0.false))
      (sym c.child_count.ensures ∙ c.if-child_count-ne0.false) h);
}

pub returns-then-child_count-ne0-clause-ok : goal.returns-then-child_count-ne0-clause-ok
returns-then-child_count-ne0-clause-ok c = λ W. ok_map c.go_in.result (λ next k. record {
  keeps = λ sub whole h. k.keeps sub whole (λ parts none. with_frames W sub whole
      (paid (state_of c.args.m.now) (c.args.m.now.steps - 1)) _ _ _ (pushed _ _ _ c.in_ok-wait.ensures.items)
      (all_starts W sub whole (state_of c.args.m.now) c.args.inner c.args.second c.args.scope c.args.m.now.part
      (c.args.m.now.steps - 1) parts (omega (arith, c.if-m-eq0.false)) none h));
}) (c.go_in.ensures.ok W
    (same_first c.args.inner _ c.child_count.result c.child_count.ensures c.if-child_count-ne0.true))
