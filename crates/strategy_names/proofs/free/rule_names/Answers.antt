use Rattle.std.proofs.Common.{◌∙◌}
use Rattle.strategy_syntax.specs.Syntax.{matches, builds, seq}
use Rattle.strategy_names.specs.inside.Met.{met_in_pattern, met_in_strategy}
use Rattle.strategy_names.proofs.BinderLemmas.{names_found}
use Rattle.strategy_names.proofs.FreeLemmas.{met_free}
use Rattle.strategy_names.proofs.free.rule_names.Goals as goal

-- the three are met one after the other, as the parts of a sequence are
pub returns : goal.returns
returns c =
    let l = c.args.left.now in
    let r = c.args.right.now in
    let s = c.args.condition.now in
    let hidden = c.in_ok-hidden.ensures in
    let on_left = c.in_ok-meet_in_pattern.ensures ∙ (λ i. met_in_pattern (hidden i) 0 (c.new-found.ensures i) l) in
    let on_right = c.in_ok-meet_in_pattern-2.ensures ∙ (λ i. met_in_pattern (hidden i) 0 (on_left i) r) in
    names_found c.in_ok-names.names.items _ _ c.in_ok-names.ensures
    (c.in_ok-meet_in_strategy.ensures.found
    ∙ (λ i. met_in_strategy (hidden i) 0 (on_right i) s)
    ∙ met_free c.args.parameters.now 0 (seq (matches l) (seq (builds r) s)))
