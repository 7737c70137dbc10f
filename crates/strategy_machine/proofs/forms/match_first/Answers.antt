use Rattle.std.proofs.Common.{arith, ap, ◌∙◌, Some, None, Bool, cond}
use Rattle.strategy_machine.proofs.TakeLemmas.{take_match_spent, take_matched_first, take_unmatched_first}
use Rattle.strategy_machine.specs.Turns.{state_of}
use Rattle.strategy_machine.proofs.forms.match_first.Goals as goal

pub returns-then-m-eq0-clause-ok : goal.returns-then-m-eq0-clause-ok
returns-then-m-eq0-clause-ok c = λ W. record {
  keeps = λ sub whole h. take_match_spent W sub whole (state_of c.args.m.now) c.args.pattern.now c.args.second.now
      c.args.scope c.args.m.now.part c.if-m-eq0.true h;
}

pub returns-then-branch-clause-ok : goal.returns-then-branch-clause-ok
returns-then-branch-clause-ok c = λ W. record {
  keeps = λ sub whole h. c.begins.ensures.keeps W sub whole (take_matched_first W sub whole (state_of c.args.m.now)
      c.args.pattern.now c.args.second c.args.scope c.args.m.now.part c.matches_shown-matched.new.cells _
      (omega (arith, c.if-m-eq0.false)) c.matches_shown-matched.ensures.later c.matches_shown-matched.ensures.stays
      (c.in_ok-matched.ensures.ok ∙ ap (λ (b : Bool). cond b (Some c.matches_shown-matched.new.cells.bindings) None)
      c.if-branch.true) h);
}

pub returns-else-branch-clause-ok : goal.returns-else-branch-clause-ok
returns-else-branch-clause-ok c = λ W. record {
  keeps = λ sub whole h. c.fails.ensures.keeps W sub whole (take_unmatched_first W sub whole (state_of c.args.m.now)
      c.args.pattern.now c.args.second.now c.args.scope c.args.m.now.part c.matches_shown-matched.new.cells _
      (omega (arith, c.if-m-eq0.false)) c.matches_shown-matched.ensures.later c.matches_shown-matched.ensures.stays
      (c.in_ok-matched.ensures.ok ∙ ap (λ (b : Bool). cond b (Some c.matches_shown-matched.new.cells.bindings) None)
      c.if-branch.false) h);
}
