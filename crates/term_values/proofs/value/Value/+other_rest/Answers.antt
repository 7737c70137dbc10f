use Rattle.std.proofs.Common.{◌++◌, ◌-◌, ap, sym, ◌∙◌, arith, subst, length, drop}
use Rattle.term_core.specs.Tree.{Tree, children, list_term}
use Rattle.term_core.specs.Size.{size}
use Rattle.term_values.specs.declared.value.Form.{Form}
use Rattle.term_values.specs.declared.value.Joined.{Joined}
use Rattle.term_values.specs.inside.ValueView.{form_tree, form_shape, front_list}
use Rattle.term_values.proofs.ListLemmas.{list_children, joined_falls, after_within, rest_of_after}
use Rattle.term_values.proofs.value.Value.+other_rest.Goals as goal

pub other_rest-requires : goal.other_rest-requires
other_rest-requires t c =
    let m = c.in-Joined.joined.value in
    let e = c.as_ref-list.ensures in
    let shape = subst (λ (f : Form). form_shape f) c.in-Joined.is c.self.invariant.shape in
    let whole = ap form_tree (sym c.in-Joined.is) ∙ c.self.view_is in
    let falls = joined_falls (front_list m.front) m.after c.args.self.now shape.some shape.list whole in
    let same = ap (λ (x : Joined). x.after) e in
    let count = ap length (c.as_slice-count.ensures ∙ ap (λ (x : Joined). front_list x.front) e) in
    let within = after_within (front_list m.front) (children m.after) c.args.self.now c.args.skipped whole c.requires
    in (
      omega (arith, falls, ap size same, c.decreases),
      omega (arith, within, count, ap (λ (x : Tree). length (children x)) same),
    )

pub bounded_rest-requires-clause-rest : goal.bounded_rest-requires-clause-rest
bounded_rest-requires-clause-rest t c =
    let j = c.as_ref-list.result.now in
    let e = c.as_ref-list.ensures in
    let us = front_list j.front ++ children j.after in
    let whole = ap (λ (x : Joined). list_term (front_list x.front ++ children x.after)) e
    ∙ ap form_tree (sym c.in-Joined.is) ∙ c.self.view_is in
    c.in_ok-rest-in-Joined.ensures
    ∙ ap (λ vs. list_term (drop c.args.skipped vs)) (sym (list_children us c.args.self.now (sym whole)))

pub bounded_rest-requires-else-skipped-count-clause-rest : goal.bounded_rest-requires-else-skipped-count-clause-rest
bounded_rest-requires-else-skipped-count-clause-rest t c =
    let j = c.as_ref-list.result.now in
    let e = c.as_ref-list.ensures in
    let whole = ap (λ (x : Joined). list_term (front_list x.front ++ children x.after)) e
    ∙ ap form_tree (sym c.in-Joined.is) ∙ c.self.view_is in
    let count = ap length c.as_slice-count.ensures in
    c.in_ok-rest-in-Joined-2.ensures ∙ ap (λ n. list_term (drop (c.args.skipped - n) (children j.after))) count
    ∙ rest_of_after (front_list j.front) (children j.after) c.args.self.now c.args.skipped whole
    (omega (arith, count, c.if-skipped-count.false))

pub returns-in_ok-rest-in-Joined-2 : goal.returns-in_ok-rest-in-Joined-2
returns-in_ok-rest-in-Joined-2 t c =
    let j = c.as_ref-list.result.now in
    let e = c.as_ref-list.ensures in
    let whole = ap (λ (x : Joined). list_term (front_list x.front ++ children x.after)) e
    ∙ ap form_tree (sym c.in-Joined.is) ∙ c.self.view_is in
    let count = ap length c.as_slice-count.ensures in
    c.bounded_rest-else-skipped-count.ensures
    ∙ c.in_ok-rest-in-Joined-2.ensures ∙ ap (λ n. list_term (drop (c.args.skipped - n) (children j.after))) count
    ∙ rest_of_after (front_list j.front) (children j.after) c.args.self.now c.args.skipped whole
    (omega (arith, count, c.if-skipped-count.false))
