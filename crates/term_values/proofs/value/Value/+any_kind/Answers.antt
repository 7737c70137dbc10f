use Rattle.std.proofs.Common.{[], ◌++◌, drop, ap, sym, ◌∙◌}
use Rattle.term_core.specs.Tree.{children}
use Rattle.term_core.specs.declared.kind.Kind.TheVariants.{List as AList}
use Rattle.term_values.specs.declared.value.Made.{Made}
use Rattle.term_values.specs.declared.value.Annotated.{Annotated}
use Rattle.term_values.specs.inside.ValueView.{form_tree, top_tree, items_list, front_list, annotation_list}
use Rattle.term_values.proofs.KindLemmas.{kind-made_of, kind-with_annotations, kind_along}
use Rattle.term_values.proofs.value.Value.+any_kind.Goals as goal

pub returns-in-Built : goal.returns-in-Built
returns-in-Built t c =
    let m = c.in-Built.made.value in
    let us = items_list m.items in
    let whole = ap form_tree (sym c.in-Built.is) ∙ c.self.view_is in
    let top = ap (λ (x : Made). top_tree x.top us []) c.deref.ensures in
    let kind = sym (c.kind-in-Built.ensures us []) ∙ top ∙ whole in
    kind_along c.kind-in-Built.result _ c.args.self.now kind (kind-made_of c.kind-in-Built.result us [])

pub returns-in-Annotated : goal.returns-in-Annotated
returns-in-Annotated t c =
    let n = c.in-Annotated.annotated.value in
    let k = c.any_kind.result in
    let whole = ap form_tree (sym c.in-Annotated.is) ∙ c.self.view_is in
    let same = ap (λ (x : Annotated). x.node) c.deref-in-Annotated.ensures in
    kind_along k _ c.args.self.now whole
    (kind-with_annotations k n.node (annotation_list n.annotations) (kind_along k _ n.node same c.any_kind.ensures))

pub returns-in-Rest : goal.returns-in-Rest
returns-in-Rest t c =
    kind_along AList _ c.args.self.now (ap form_tree (sym c.in-Rest.is) ∙ c.self.view_is)
    (kind-made_of AList (drop c.in-Rest.field-1 (children c.in-Rest.field-0.now)) [])

pub returns-in-Joined : goal.returns-in-Joined
returns-in-Joined t c =
    let j = c.in-Joined.field-0.value in
    kind_along AList _ c.args.self.now (ap form_tree (sym c.in-Joined.is) ∙ c.self.view_is)
    (kind-made_of AList (front_list j.front ++ children j.after) [])
