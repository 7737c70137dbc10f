use Rattle.std.proofs.Common.{ap, ◌∙◌, ◌++◌, Some, None, Bool, cond}
use Rattle.strategy_machine.proofs.TailLemmas.{relisted}
use Rattle.strategy_machine.proofs.ResultLemmas.{ok_map}
use Rattle.term_core.specs.Tree.{children, annotations, with_annotations, with_children}
use Rattle.strategy_machine.proofs.tails.with_rest_after.Goals as goal

pub returns-then-is_some : goal.returns-then-is_some
returns-then-is_some c = ok_map c.with_annotations_of.result
    (λ whole k. k ∙ ap (λ l. with_annotations l (annotations c.args.value.now)) c.in_ok-list.ensures
    ∙ relisted c.args.value.now (c.args.front.items ++ children c.args.rest.now)
    (c.is_list.ensures ∙ ap (λ (b : Bool). cond b (Some (children c.args.value.now)) None) c.if-is_list.true))
    c.with_annotations_of.ensures

pub returns : goal.returns
returns c = ok_map c.with_children.result (λ whole k. k ∙ ap (with_children c.args.value.now)
    (c.in_ok-append.ensures.items ∙ (λ i. c.args.front.items ++ c.in_ok-after.ensures i))) c.with_children.ensures
