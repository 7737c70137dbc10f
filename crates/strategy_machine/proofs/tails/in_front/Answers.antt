use Rattle.std.proofs.Common.{sym, ◌∙◌, ◌∷◌}
use Rattle.strategy_machine.proofs.TailLemmas.{relisted, relisted_bare}
use Rattle.std.proofs.lemmas.List.{nil_from_length}
use Rattle.strategy_machine.proofs.ResultLemmas.{ok_map}
use Rattle.term_changes.specs.Standing.{standing_tree}
use Rattle.term_core.specs.Tree.{children, annotations, with_annotations, list_term}
use Rattle.strategy_machine.proofs.tails.in_front.Goals as goal

pub returns-then-annotation_count-eq0 : goal.returns-then-annotation_count-eq0
returns-then-annotation_count-eq0 c =
    c.in_ok-whole.ensures ∙ (λ j. list_term (c.into_value-first.ensures j ∷ children (c.into_value-rest.ensures j)))
    ∙ relisted_bare (standing_tree c.args.list.now) (standing_tree c.args.first ∷ children (standing_tree c.args.rest))
    c.requires
    (nil_from_length (annotations (standing_tree c.args.list.now))
    (sym c.annotation_count.ensures ∙ c.if-annotation_count-eq0.true))

pub returns-in-Ok : goal.returns-in-Ok
returns-in-Ok c =
    let whole = c.in_ok-whole.ensures
    ∙ (λ j. list_term (c.into_value-first.ensures j ∷ children (c.into_value-rest.ensures j))) in
    ok_map c.with_annotations_of-all.result
    (λ all k. k ∙ (λ i. with_annotations (whole i) (annotations (c.in-Ok.ensures i)))
    ∙ relisted (standing_tree c.args.list.now) (standing_tree c.args.first ∷ children (standing_tree c.args.rest))
    c.requires) c.with_annotations_of-all.ensures
