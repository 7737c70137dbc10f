use Rattle.std.proofs.Common.{ℕ, arith, sym, ap, ◌∙◌, ◌-◌, subst}
use Rattle.std.specs.declared.option.Option.{Option}
use Rattle.term_changes.specs.Standing.{standing_tree}
use Rattle.strategy_syntax.specs.Heads.{head_of}
use Rattle.strategy_syntax.specs.ResolvedView.{resolved_of}
use Rattle.strategy_syntax.specs.Resolved.{call, param, resolveds_of}
use Rattle.strategy_meaning.specs.Matching.{elements}
use Rattle.strategy_meaning.specs.Meaning.{is_over, is_list_from}
use Rattle.strategy_machine.specs.Table.{scopes}
use Rattle.strategy_machine.specs.inside.Missing.{FailsAhead}
use Rattle.strategy_machine.proofs.CallLemmas.{slice_there}
use Rattle.strategy_machine.proofs.HeadLemmas.{rule_fails, passed_fails, fails_fail, fails_match, fails_seq, fails_guard, fails_test, fails_over, fails_tail, fails_scope, fails_call, fails_param, ahead_is, not_over_many, not_list_many, no_patterns}
use Rattle.strategy_machine.proofs.heads.+left_by_failure.Goals as goal

pub returns-in-Fail-clause-fails : goal.returns-in-Fail-clause-fails
returns-in-Fail-clause-fails t c =
    let u = standing_tree c.args.part.now in
    c.inward.invariant.whole
    (c.inward.left - 1) (ahead_is _ _ _ _ _ _ u _ (c.form.ensures ∙ ap resolved_of c.in-Fail.is)
    (fails_fail c.args.definitions.now (scopes c.args.scopes.now) c.inward.scope u c.inward.left
    (c.inward.left - 1) (omega (arith, c.if-left-eq0.false))))

pub returns-in-Match-clause-fails : goal.returns-in-Match-clause-fails
returns-in-Match-clause-fails t c =
    let u = standing_tree c.args.part.now in
    c.inward.invariant.whole
    (c.inward.left - 1) (ahead_is _ _ _ _ _ _ u _ (c.form.ensures ∙ ap resolved_of c.in-Match.is)
    (fails_match c.args.definitions.now (scopes c.args.scopes.now) c.inward.scope u c.in-Match.pattern c.inward.left
    (c.inward.left - 1) (omega (arith, c.if-left-eq0.false)) c.if-not-misses.ensures))

pub returns-in-Congruence-clause-fails : goal.returns-in-Congruence-clause-fails
returns-in-Congruence-clause-fails t c =
    let u = standing_tree c.args.part.now in
    c.inward.invariant.whole
    (c.inward.left - 1) (ahead_is _ _ _ _ _ _ u _ (c.form.ensures ∙ ap resolved_of c.in-Congruence.is)
    (fails_over c.args.definitions.now (scopes c.args.scopes.now) c.inward.scope u (head_of c.in-Congruence.head)
    (resolveds_of c.in-Congruence.strategies.items) c.inward.left
    (c.inward.left - 1) (omega (arith, c.if-left-eq0.false)) (not_over_many (head_of c.in-Congruence.head)
    c.in-Congruence.strategies.items u (ap (λ k. is_over (head_of c.in-Congruence.head) k u)
    (sym (c.len.ensures ∙ c.in-Congruence.strategies.ok.0)) ∙ sym c.is_over.ensures ∙ c.if-is_over.false))))

pub returns-in-TailCongruence-clause-fails : goal.returns-in-TailCongruence-clause-fails
returns-in-TailCongruence-clause-fails t c =
    let u = standing_tree c.args.part.now in
    c.inward.invariant.whole
    (c.inward.left - 1) (ahead_is _ _ _ _ _ _ u _ (c.form.ensures ∙ ap resolved_of c.in-TailCongruence.is)
    (fails_tail c.args.definitions.now (scopes c.args.scopes.now) c.inward.scope u
    (resolveds_of c.in-TailCongruence.strategies.items) _ c.inward.left
    (c.inward.left - 1) (omega (arith, c.if-left-eq0.false)) (not_list_many c.in-TailCongruence.strategies.items u
    (ap (λ k. is_list_from k (elements u)) (sym (c.len-in-TailCongruence.ensures ∙ c.in-TailCongruence.strategies.ok.0))
    ∙ sym c.is_list_from.ensures ∙ c.if-is_list_from.false))))

pub inward-preserved-in-Seq : goal.inward-preserved-in-Seq
inward-preserved-in-Seq t c =
    let u = standing_tree c.args.part.now in
    record {
      less = omega (arith, c.inward.invariant.less);
      most = omega (arith, c.inward.invariant.most);
      whole = λ d h. c.inward.invariant.whole d (ahead_is _ _ _ _ _ _ u _ (c.form.ensures ∙ ap resolved_of c.in-Seq.is)
          (fails_seq c.args.definitions.now (scopes c.args.scopes.now) c.inward.scope u _ _ c.inward.left
          (c.inward.left - 1) d (omega (arith, c.if-left-eq0.false))
          (ahead_is _ _ _ _ _ _ u _ (ap (λ x. x.0) (sym c.deref.ensures)) h)));
    }

pub inward-preserved-in_default-left_side : goal.inward-preserved-in_default-left_side
inward-preserved-in_default-left_side t c =
    let u = standing_tree c.args.part.now in
    let rule = c.in-Some.ensures in
    record {
      less = omega (arith, c.inward.invariant.less, c.after_rules-passed.ensures.less);
      most = omega (arith, c.inward.invariant.most);
      whole =
          λ d h. c.inward.invariant.whole d (ahead_is _ _ _ _ _ _ u _ (c.form.ensures ∙ ap resolved_of c.in-Guard.is)
          (fails_guard c.args.definitions.now (scopes c.args.scopes.now) c.inward.scope u _ _ _ c.inward.left
          (c.inward.left - 1) (c.inward.left - 1 - 3) d (omega (arith, c.if-left-eq0.false))
          (ahead_is _ _ _ _ _ _ u _ (ap (λ x. x.0) (sym c.deref-in-Guard.ensures) ∙ rule.2)
          (rule_fails c.args.definitions.now (scopes c.args.scopes.now) c.inward.scope u rule.0 c.in-Some.pattern.now
          rule.1 (c.inward.left - 1) (c.inward.left - 1 - 3) (omega (arith, c.if-left-lt3.false))
          (c.if-not-rules_out.ensures u c.kind-kind.ensures)))
          (ahead_is _ _ _ _ _ _ u _ (ap (λ x. x.2) (sym c.deref-in-Some.ensures))
          (passed_fails c.args.definitions.now (scopes c.args.scopes.now) c.inward.scope _ _ _ _ u d
          c.after_rules-passed.ensures.same h))));
    }

pub returns-in-Some-left_side-clause-fails : goal.returns-in-Some-left_side-clause-fails
returns-in-Some-left_side-clause-fails t c =
    let u = standing_tree c.args.part.now in
    let rule = c.in-Some.ensures in
    let last = c.in-Some-left_side.ensures in
    let left = c.after_rules-passed.result.1 in
    c.inward.invariant.whole (left - 3) (ahead_is _ _ _ _ _ _ u _ (c.form.ensures ∙ ap resolved_of c.in-Guard.is)
    (fails_guard c.args.definitions.now (scopes c.args.scopes.now) c.inward.scope u _ _ _ c.inward.left
    (c.inward.left - 1) (c.inward.left - 1 - 3) (left - 3) (omega (arith, c.if-left-eq0.false))
    (ahead_is _ _ _ _ _ _ u _ (ap (λ x. x.0) (sym c.deref-in-Guard.ensures) ∙ rule.2)
    (rule_fails c.args.definitions.now (scopes c.args.scopes.now) c.inward.scope u rule.0 c.in-Some.pattern.now rule.1
    (c.inward.left - 1) (c.inward.left - 1 - 3) (omega (arith, c.if-left-lt3.false))
    (c.if-not-rules_out.ensures u c.kind-kind.ensures)))
    (ahead_is _ _ _ _ _ _ u _ (ap (λ x. x.2) (sym c.deref-in-Some.ensures))
    (passed_fails c.args.definitions.now (scopes c.args.scopes.now) c.inward.scope _ _ _ _ u
    (left - 3) c.after_rules-passed.ensures.same
    (ahead_is _ _ _ _ _ _ u _ last.2
    (rule_fails c.args.definitions.now (scopes c.args.scopes.now) c.inward.scope u last.0 c.in-Some-left_side.last.now
    last.1 left (left - 3) (omega (arith, c.if-left-lt3-2.false))
    (c.if-not-rules_out-2.ensures u c.kind-kind.ensures)))))))

pub inward-preserved-in-None : goal.inward-preserved-in-None
inward-preserved-in-None t c =
    let u = standing_tree c.args.part.now in
    record {
      less = omega (arith, c.inward.invariant.less, c.in_ok-left-in-None.ensures.less);
      most = omega (arith, c.inward.invariant.most);
      whole =
          λ d h. c.inward.invariant.whole d (ahead_is _ _ _ _ _ _ u _ (c.form.ensures ∙ ap resolved_of c.in-Guard.is)
          (fails_guard c.args.definitions.now (scopes c.args.scopes.now) c.inward.scope u _ _ _ c.inward.left
          (c.inward.left - 1) c.in_ok-left-in-None.left d (omega (arith, c.if-left-eq0.false))
          (ahead_is _ _ _ _ _ _ u _ (ap (λ x. x.0) (sym c.deref-in-None.ensures)) c.in_ok-left-in-None.ensures.fails)
          (ahead_is _ _ _ _ _ _ u _ (ap (λ x. x.2) (sym c.deref-in-None-2.ensures)) h)));
    }

pub inward-preserved-in-Test : goal.inward-preserved-in-Test
inward-preserved-in-Test t c =
    let u = standing_tree c.args.part.now in
    record {
      less = omega (arith, c.inward.invariant.less);
      most = omega (arith, c.inward.invariant.most);
      whole = λ d h. c.inward.invariant.whole d (ahead_is _ _ _ _ _ _ u _ (c.form.ensures ∙ ap resolved_of c.in-Test.is)
          (fails_test c.args.definitions.now (scopes c.args.scopes.now) c.inward.scope u _ c.inward.left (c.inward.left
          - 1) d (omega (arith, c.if-left-eq0.false)) (ahead_is _ _ _ _ _ _ u _ (sym c.deref-strategy.ensures) h)));
    }

pub inward-preserved-in-Scope : goal.inward-preserved-in-Scope
inward-preserved-in-Scope t c =
    let u = standing_tree c.args.part.now in
    record {
      less = omega (arith, c.inward.invariant.less);
      most = omega (arith, c.inward.invariant.most);
      whole =
          λ d h. c.inward.invariant.whole d (ahead_is _ _ _ _ _ _ u _ (c.form.ensures ∙ ap resolved_of c.in-Scope.is)
          (fails_scope c.args.definitions.now (scopes c.args.scopes.now) c.inward.scope u _ _ c.inward.left
          (c.inward.left - 1) d (omega (arith, c.if-left-eq0.false))
          (ahead_is _ _ _ _ _ _ u _ (sym c.deref-strategy-in-Scope.ensures) h)));
    }

pub inward-preserved-in-Param : goal.inward-preserved-in-Param
inward-preserved-in-Param t c =
    let u = standing_tree c.args.part.now in
    record {
      less = omega (arith, c.inward.invariant.less);
      most = omega (arith, c.inward.invariant.most);
      whole =
          λ d h. c.inward.invariant.whole d (ahead_is _ _ _ _ _ _ u _ (c.form.ensures ∙ ap resolved_of c.in-Param.is)
          (subst (λ (n : Option ℕ). FailsAhead c.args.definitions.now (scopes c.args.scopes.now) n
          (param c.in-Param.name) c.inward.left u d) (sym c.in-Some-scope.is) (fails_param c.args.definitions.now
          (scopes c.args.scopes.now) c.in-Some-scope.inside c.in-Param.name u c.in-Some-named.known c.inward.left
          (c.inward.left - 1) d (omega (arith, c.if-left-eq0.false)) c.in-Some-named.ensures.1 h)));
    }

pub inward-preserved : goal.inward-preserved
inward-preserved t c =
    let u = standing_tree c.args.part.now in
    record {
      less = omega (arith, c.inward.invariant.less);
      most = omega (arith, c.inward.invariant.most);
      whole = λ d h. c.inward.invariant.whole d (ahead_is _ _ _ _ _ _ u _ (c.form.ensures ∙ ap resolved_of c.in-Call.is
          ∙ ap (call c.in-Call.definition (resolveds_of c.in-Call.field-1.items)) (no_patterns c.in-Call.patterns.items
          (omega (arith, c.len-in-Call.ensures, c.in-Call.patterns.ok.0, c.if-len-ne0.false))))
          (fails_call c.args.definitions.now (scopes c.args.scopes.now) c.inward.scope u c.in-Call.definition
          (resolveds_of c.in-Call.field-1.items) c.in-Some-get.body.now c.inward.left (c.inward.left - 1) d
          (omega (arith, c.if-left-eq0.false))
          (slice_there c.args.definitions.now c.in-Call.definition c.in-Some-get.body.now
          c.in-Some-get.ensures.lookup.3.0 (c.in-Some-get.ensures.lookup.3.1 c.in-Some-get.body.now)) h));
    }
