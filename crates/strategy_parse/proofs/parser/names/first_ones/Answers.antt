use Rattle.std.proofs.Common.{◌≡◌, ◌++◌, [], ◌∷◌, take, refl, sym, ap, ◌∙◌, subst, append-nil, arith}
use Rattle.std.proofs.lemmas.List.{take_all}
use Rattle.std.specs.HashSet.{contains}
use Rattle.std.specs.Prelude.{not}
use Rattle.term_core.specs.Tree.{same_name}
use Rattle.strategy_syntax.specs.Lists.{is_among}
use Rattle.strategy_parse.proofs.NameLemmas.{same_referred, Kept, saw-more, seen-next, kept-start, kept-end, step-kept, step-skipped}
use Rattle.strategy_parse.proofs.parser.names.first_ones.Goals as goal
use Rattle.strategy_parse.proofs.parser.names.first_ones.Goals.{then-branch+in_ok-try_clone+in_ok-kept, else-branch}

pub loop-other-init : goal.loop-other-init
loop-other-init c = λ q. rw c.new-seen.ensures.empty refl

pub loop-other-preserved : goal.loop-other-preserved
loop-other-preserved c = λ q.
    saw-more (contains same_referred c.loop-other.seen) (contains same_referred c.insert.new.self)
    (take c.loop-other.other-index c.args.others.now) c.other-item.result
    c.loop-other.invariant c.in_ok-insert.ensures.updates.0 q
    ∙ seen-next q.now c.other-item.result c.args.others.now c.loop-other.other-index c.loop-other-test.true
    c.other-item.is

pub loop-name-init : goal.loop-name-init
loop-name-init c =
    let all : take c.loop-other.other-index c.args.others.now ≡ c.args.others.now ++ c.new-kept.result =
    take_all c.loop-other.other-index c.args.others.now c.loop-other-test.false
    ∙ sym (ap (λ l. c.args.others.now ++ l) c.new-kept.ensures ∙ append-nil c.args.others.now) in (
      λ q. c.loop-other.invariant q ∙ ap (is_among same_name q.now) all,
      subst (λ l. Kept c.args.others.now l c.args.names.now 0) (sym c.new-kept.ensures)
          (kept-start c.args.others.now c.args.names.now),
    )

pub loop-name-preserved : goal.loop-name-preserved
loop-name-preserved c =
    let told : c.in_ok-insert-2.field-0
    ≡ not (is_among same_name c.name-item.result (c.args.others.now ++ c.loop-name.kept)) =
    c.in_ok-insert-2.ensures.added
    ∙ ap not (c.loop-name.invariant.0 (record { ref_ptr = c.args.names.ref_ptr; now = c.name-item.result })) in
    elim c.if-branch.branch [
      | then-branch+in_ok-try_clone+in_ok-kept w ↦
          step-kept (contains same_referred c.loop-name.seen) (contains same_referred c.insert-in-loop-name.new.self)
          c.args.others.now c.loop-name.kept c.args.names.now c.loop-name.name-index c.name-item.result
          c.loop-name.invariant.0 c.loop-name.invariant.1 c.in_ok-insert-2.ensures.updates.0 c.loop-name-test.true
          c.name-item.is c.in_ok-insert-2.field-0 told
          c.if-branch.kept w.if-branch.true
          (w.kept-is ∙ w.in_ok-kept.ensures ∙ ap (λ l. l ++ w.in_ok-try_clone.field-0 ∷ []) c.kept.view_is
          ∙ ap (λ x. c.loop-name.kept ++ x ∷ []) w.in_ok-try_clone.ensures)
      | else-branch w ↦
          step-skipped (contains same_referred c.loop-name.seen) (contains same_referred c.insert-in-loop-name.new.self)
          c.args.others.now c.loop-name.kept c.args.names.now c.loop-name.name-index c.name-item.result
          c.loop-name.invariant.0 c.loop-name.invariant.1 c.in_ok-insert-2.ensures.updates.0 c.loop-name-test.true
          c.name-item.is c.in_ok-insert-2.field-0 told
          c.if-branch.kept w.if-branch.false w.kept-is
    ]

pub returns : goal.returns
returns c =
    kept-end c.args.others.now c.loop-name.kept c.args.names.now
    (subst (λ i. Kept c.args.others.now c.loop-name.kept c.args.names.now i) (omega arith) c.loop-name.invariant.1)
