use Rattle.std.proofs.Common.{◌≡◌, IfOk, length, arith, ap, sym, ◌∙◌, subst}
use Rattle.term_core.specs.Tree.{Tree, bare, annotations}
use Rattle.term_core.specs.Size.{height, size}
use Rattle.term_changes.specs.Standing.{after}
use Rattle.term_values.specs.declared.value.Form.{Form}
use Rattle.term_values.specs.declared.value.Annotated.{Annotated}
use Rattle.term_values.specs.inside.ValueView.{form_tree, form_shape, annotation_list}
use Rattle.term_values.proofs.SizeLemmas.{bare_less, bare_height, bounded_along}
use Rattle.term_values.proofs.ListLemmas.{bare_same, annotated_bare}
use Rattle.term_values.proofs.value.Value.bare.Goals as goal

pub returns-then-annotation_count-eq0 : goal.returns-then-annotation_count-eq0
returns-then-annotation_count-eq0 c =
    let none : length (annotations c.args.self.now) ≡ 0 =
    omega (arith, c.annotation_count.ensures, c.if-annotation_count-eq0.true) in
    subst (λ (x : Tree). IfOk c.try_clone.result (λ value. value ≡ x)) (bare_same c.args.self.now none)
    c.try_clone.ensures

pub invariant_of-result : goal.invariant_of-result
invariant_of-result c =
    let t = c.args.self.now in
    let mine = bounded_along _ t c.self.inside.bounds c.self.view_is c.self.invariant.bounded in
    let less = c.less.ensures (size t) (height t) (size (bare t)) (height (bare t)) mine
    (bare_less t (omega (arith, c.annotation_count.ensures, c.if-annotation_count-eq0.false))) (bare_height t) in
    let whole = ap form_tree (sym c.in-Original.is) ∙ c.self.view_is in
    record {
      shape = tt;
      bounded = bounded_along (bare t) (bare c.in-Original.term.now) c.less.result (ap bare (sym whole)) less;
    }

pub invariant_of-result-in-Kept : goal.invariant_of-result-in-Kept
invariant_of-result-in-Kept c =
    let t = c.args.self.now in
    let mine = bounded_along _ t c.self.inside.bounds c.self.view_is c.self.invariant.bounded in
    let less = c.less-in-Kept.ensures (size t) (height t) (size (bare t)) (height (bare t)) mine
    (bare_less t (omega (arith, c.annotation_count.ensures, c.if-annotation_count-eq0.false))) (bare_height t) in
    let whole = ap after c.in_ok-clone-in-Kept.ensures.cases ∙ ap form_tree (sym c.in-Kept.is) ∙ c.self.view_is in
    record {
      shape = tt;
      bounded = bounded_along (bare t) (bare (after c.in_ok-clone-in-Kept.field-0.value)) c.less-in-Kept.result
          (ap bare (sym whole)) less;
    }

pub returns-in-Annotated : goal.returns-in-Annotated
returns-in-Annotated c =
    let n = c.in-Annotated.annotated.value in
    let whole = ap form_tree (sym c.in-Annotated.is) ∙ c.self.view_is in
    let shape = subst (λ (f : Form). form_shape f) c.in-Annotated.is c.self.invariant.shape in
    let e = ap (λ (x : Annotated). x.node) c.deref.ensures
    ∙ annotated_bare n.node c.args.self.now (annotation_list n.annotations) whole shape.bare in
    subst (λ (x : Tree). IfOk c.try_clone-in-Annotated.result (λ value. value ≡ x)) e c.try_clone-in-Annotated.ensures
