use Rattle.std.proofs.Common.{arith, ap, ◌∙◌}
use Rattle.strategy_syntax.specs.Resolved.{resolveds_of, resolved_patterns_of}
use Rattle.strategy_syntax.specs.ResolvedView.{resolved_of}
use Rattle.strategy_machine.proofs.CallLemmas.{slice_there}
use Rattle.strategy_machine.proofs.HeadLemmas.{no_patterns}
use Rattle.strategy_machine.proofs.NameLemmas.{if_map}
use Rattle.strategy_machine.proofs.ChoiceLemmas.{rule_here, rule_called, no_arguments}
use Rattle.strategy_machine.proofs.choices.rule_of.Goals as goal

pub returns-in-Scope : goal.returns-in-Scope
returns-in-Scope c = if_map c.rule_in.result
    (λ r e. λ es. rule_here c.args.definitions.now es c.args.strategy.now c.args.scope r e) c.rule_in.ensures

pub returns-else-body-ne0 : goal.returns-else-body-ne0
returns-else-body-ne0 c = if_map c.rule_in-in-Call.result (λ r e. λ es. rule_called c.args.definitions.now es
    c.args.strategy.now c.args.scope c.in-Call.definition (resolveds_of c.in-Call.strategies.items)
    (resolved_patterns_of c.in-Call.patterns.items) c.in_ok-body-in-Call.body.now r
    (c.form.ensures ∙ ap resolved_of c.in-Call.is) (no_arguments c.in-Call.strategies.items
    (omega (arith, c.len.ensures, c.in-Call.strategies.ok.0, c.if-len-ne0.false))) (no_patterns c.in-Call.patterns.items
    (omega (arith, c.len-else-len-ne0.ensures, c.in-Call.patterns.ok.0, c.if-len-ne0-2.false)))
    (slice_there c.args.definitions.now c.in-Call.definition c.in_ok-body-in-Call.body.now
    c.in_ok-body-in-Call.ensures.lookup.3.0 (c.in_ok-body-in-Call.ensures.lookup.3.1 c.in_ok-body-in-Call.body.now))
    c.if-body-ne0.false e) c.rule_in-in-Call.ensures
