use Rattle.std.proofs.Common.{◌≡◌, [], sym, ◌∙◌, subst}
use Rattle.std.specs.Prelude.{OnOk}
use Rattle.term_core.specs.Tree.{same_name}
use Rattle.strategy_syntax.specs.Lists.{with_new}
use Rattle.strategy_check.specs.inside.FaultLists.{with_faults, repeated_faults}
use Rattle.strategy_check.proofs.FaultLemmas.{then_added, repeated-append}
use Rattle.strategy_check.proofs.headers.check_parameters.Goals as goal

pub returns : goal.returns
returns c =
    let d = c.args.definition.now in
    let l = c.args.faults.now in
    let m = c.check_distinct.new.faults in
    let n = c.check_distinct-2.new.faults in
    let r = c.check_distinct-2.result in
    let first : m ≡ with_faults l (repeated_faults [] d.strategy_parameters) =
    c.in_ok-check_distinct.ensures.faults
    ∙ (λ i. with_faults l (repeated_faults (c.new-seen.ensures.empty i) (c.strategy_parameters.ensures i))) in
    let seen : c.check_distinct.new.seen.keys ≡ with_new same_name [] d.strategy_parameters =
    c.in_ok-check_distinct.ensures.seen
    ∙ (λ i. with_new same_name (c.new-seen.ensures.empty i) (c.strategy_parameters.ensures i)) in
    subst (λ fs. OnOk r (n ≡ with_faults l fs)) (sym (repeated-append [] d.strategy_parameters d.term_parameters))
    (then_added r l m n (repeated_faults [] d.strategy_parameters)
    (repeated_faults (with_new same_name [] d.strategy_parameters) d.term_parameters) first
    (subst (λ fs. OnOk r (n ≡ with_faults m fs)) (λ i. repeated_faults (seen i) (c.term_parameters.ensures i))
    c.check_distinct-2.ensures.faults))
