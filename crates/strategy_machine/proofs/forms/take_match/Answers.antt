use Rattle.std.proofs.Common.{ap, ◌∙◌, Some, None, Bool, cond}
use Rattle.strategy_machine.proofs.TakeLemmas.{take_matched, take_unmatched}
use Rattle.strategy_machine.specs.Turns.{state_of}
use Rattle.strategy_machine.proofs.forms.take_match.Goals as goal

pub returns-then-branch-clause-ok : goal.returns-then-branch-clause-ok
returns-then-branch-clause-ok c = λ W. record {
  keeps = λ sub whole h. c.gives.ensures.keeps W sub whole
      (take_matched W sub whole (state_of c.args.m.now) c.args.pattern.now c.args.scope c.args.m.now.part
      c.matches_shown-matched.new.cells c.matches_shown-matched.ensures.later c.matches_shown-matched.ensures.stays
      (c.in_ok-matched.ensures.ok ∙ ap (λ (b : Bool). cond b (Some c.matches_shown-matched.new.cells.bindings) None)
      c.if-branch.true) h);
}

pub returns-else-branch-clause-ok : goal.returns-else-branch-clause-ok
returns-else-branch-clause-ok c = λ W. record {
  keeps = λ sub whole h. c.fails.ensures.keeps W sub whole
      (take_unmatched W sub whole (state_of c.args.m.now) c.args.pattern.now c.args.scope c.args.m.now.part
      c.matches_shown-matched.new.cells c.matches_shown-matched.ensures.later c.matches_shown-matched.ensures.stays
      (c.in_ok-matched.ensures.ok ∙ ap (λ (b : Bool). cond b (Some c.matches_shown-matched.new.cells.bindings) None)
      c.if-branch.false) h);
}
