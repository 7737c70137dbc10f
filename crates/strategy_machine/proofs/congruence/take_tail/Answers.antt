use Rattle.std.proofs.Common.{refl, sym, ap, subst, ◌∙◌, length}
use Rattle.strategy_syntax.specs.Resolved.{tail_congruence}
use Rattle.strategy_meaning.specs.Matching.{elements}
use Rattle.strategy_meaning.specs.Meaning.{is_list_from}
use Rattle.term_changes.specs.Standing.{standing_tree}
use Rattle.strategy_machine.proofs.ResultLemmas.{ok_map}
use Rattle.strategy_machine.proofs.TryLemmas.{alone}
use Rattle.strategy_machine.proofs.TakeLemmas.{over_none, with_frames, take_tailed, take_failed, no_elements}
use Rattle.strategy_machine.specs.Turns.{state_of}
use Rattle.strategy_machine.specs.inside.Taking.{FormIn}
use Rattle.strategy_machine.proofs.OpenLemmas.{pushed}
use Rattle.strategy_machine.proofs.congruence.take_tail.Goals as goal

pub returns-clause-ok : goal.returns-clause-ok
returns-clause-ok c = λ W. ok_map c.go_on.result (λ next k. record {
  keeps = λ sub whole h.
      k.keeps sub whole (with_frames W sub whole (state_of c.args.m.now) _ _ _ (pushed _ _ _ c.in_ok-wait.ensures.items)
      (take_tailed W sub whole (state_of c.args.m.now) c.args.strategies c.args.tail c.args.scope
      (length c.args.strategies.now) c.args.m.now.part c.clear.new.self c.clear.ensures.items refl
      (sym c.is_list_from.ensures ∙ c.if-not-is_list_from.false) h));
}) (c.go_on.ensures.ok W)

pub go_on-requires : goal.go_on-requires
go_on-requires c = (over_none c.args.m.now.part c.clear.new.self.items c.clear.ensures.items c.requires).0

pub returns-then-count-eq1-clause-ok : goal.returns-then-count-eq1-clause-ok
returns-then-count-eq1-clause-ok c =
    let one = alone c.args.strategies.now c.index-strategies-0.result c.if-count-eq1.true c.index-strategies-0.is in
    λ W. ok_map c.take_head.result (λ next k. record {
      keeps = λ sub whole h. k.keeps sub whole (subst (λ ss. FormIn W sub whole (state_of c.args.m.now)
          (tail_congruence ss c.args.tail.now) c.args.scope c.args.m.now.part) one h);
    }) (c.take_head.ensures.ok W)

pub take_head-requires : goal.take_head-requires
take_head-requires c =
    ap (λ n. is_list_from n (elements (standing_tree c.args.m.now.part))) (sym c.if-count-eq1.true)
    ∙ sym c.is_list_from.ensures ∙ c.if-not-is_list_from.false

pub returns-then-not-is_list_from-clause-ok : goal.returns-then-not-is_list_from-clause-ok
returns-then-not-is_list_from-clause-ok c = λ W. record {
  keeps = λ sub whole h. c.fails.ensures.keeps W sub whole
      (take_failed W sub whole (state_of c.args.m.now) _ c.args.scope c.args.m.now.part
      (no_elements W (state_of c.args.m.now) c.args.strategies.now c.args.tail.now c.args.scope c.args.m.now.part
      (sym c.is_list_from.ensures ∙ c.if-not-is_list_from.true)) h);
}
