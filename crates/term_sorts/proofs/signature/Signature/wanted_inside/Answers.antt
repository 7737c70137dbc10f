use Rattle.std.proofs.Common.{ℕ, List, length, Some, None, sym, ap, ◌∙◌, subst}
use Rattle.std.specs.List.{slice_get}
use Rattle.term_core.specs.Tree.{Tree, of_list, children, annotations}
use Rattle.term_core.proofs.TreeLemmas.{to_list-of_list}
use Rattle.term_sorts.specs.Sorts.{WantsInside}
use Rattle.term_sorts.specs.Signatures.{Signature, wanted_sort}
use Rattle.term_sorts.specs.inside.Wanting.{ElementsAre, PartsWanted}
use Rattle.term_sorts.specs.declared.taking.Parts.TheVariants.{Of}
use Rattle.term_sorts.proofs.ConformLemmas.{list_wants, list_wants_none, tuple_wants, application_wants}
use Rattle.term_sorts.proofs.signature.Signature.wanted_inside.Goals as goal

pub returns-in-Some : goal.returns-in-Some
returns-in-Some c = λ inside h.
    let s = c.args.self.now in
    let w = wanted_sort s.sorts c.args.wanted in
    let t = c.args.term.now in
    let found = c.in-Some.element in
    let some = subst
    (λ (x : Signature). ElementsAre x.declared.injections x.sorts (wanted_sort x.sorts c.args.wanted) (Some found))
    c.self.view_is c.in-Some.ensures in
    list_wants s.declared s.sorts w found (of_list (children t)) (of_list (annotations t)) c.args.index inside some
    (subst (λ (x : Tree). WantsInside s.declared w x c.args.index inside) c.in-List.ensures h)

pub returns-in-None : goal.returns-in-None
returns-in-None c = λ inside h.
    let s = c.args.self.now in
    let w = wanted_sort s.sorts c.args.wanted in
    let t = c.args.term.now in
    let none =
    subst (λ (x : Signature). ElementsAre x.declared.injections x.sorts (wanted_sort x.sorts c.args.wanted) None)
    c.self.view_is c.in-None.ensures in
    absurd
    (list_wants_none s.declared s.sorts w (of_list (children t)) (of_list (annotations t)) c.args.index inside none
    (subst (λ (x : Tree). WantsInside s.declared w x c.args.index inside) c.in-List.ensures h))

pub returns-in-Of : goal.returns-in-Of
returns-in-Of c = λ inside h.
    let s = c.args.self.now in
    let w = wanted_sort s.sorts c.args.wanted in
    let t = c.args.term.now in
    let count = c.child_count-count.result in
    let of = subst (λ (x : Signature). PartsWanted x.declared.injections x.sorts (wanted_sort x.sorts c.args.wanted)
    count (Of c.in-Of.numbers)) c.self.view_is c.in-Of.ensures in
    tuple_wants s.declared s.sorts w count c.in-Of.numbers (of_list (children t)) (of_list (annotations t)) c.args.index
    inside c.numbered.result
    (ap length (to_list-of_list (children t)) ∙ sym c.child_count-count.ensures) of c.numbered.ensures
    (subst (λ (x : Tree). WantsInside s.declared w x c.args.index inside) c.in-Tuple.ensures h)

pub returns-in-Some-form : goal.returns-in-Some-form
returns-in-Some-form c = λ inside h.
    let s = c.args.self.now in
    let w = wanted_sort s.sorts c.args.wanted in
    let t = c.args.term.now in
    let form = c.in-Some-form.form.now in
    let e = c.in-Some-form.ensures in
    application_wants s.declared e.agreed.0 s.sorts w c.in-Application.name.now (of_list (children t))
    (of_list (annotations t)) c.args.index inside form.declaration e.declared
    (e.head.0 ∙ c.child_count-count.ensures ∙ ap length (sym (to_list-of_list (children t)))) e.head.1
    form.arguments.items c.numbered-in-Some-form.result e.form.0
    (c.numbered-in-Some-form.ensures ∙ ap (λ (l : List ℕ). slice_get l c.args.index) c.deref.ensures.value)
    (subst (λ (x : Tree). WantsInside s.declared w x c.args.index inside) c.in-Application.ensures h)
