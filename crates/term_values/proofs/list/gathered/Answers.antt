use Rattle.std.proofs.Common.{◌≡◌, ◌++◌, length, arith, ap, sym, subst, append_assoc, ◌∙◌}
use Rattle.std.proofs.lemmas.List.{length-append}
use Rattle.term_core.specs.Tree.{Tree, children, list_term}
use Rattle.term_values.specs.declared.value.Form.{Form}
use Rattle.term_values.specs.declared.value.Joined.{Joined}
use Rattle.term_values.specs.inside.ValueView.{form_tree, form_shape, front_list}
use Rattle.term_values.proofs.ListLemmas.{list_children}
use Rattle.term_values.proofs.list.gathered.Goals as goal

pub chunks-preserved : goal.chunks-preserved
chunks-preserved c =
    let done = c.chunks.invariant in
    let all = c.chunks.all.items in
    let m = c.in-Joined.next.value in
    let e = c.as_ref-next.ensures in
    let shape = subst (λ (f : Form). form_shape f) c.in-Joined.is c.after.invariant.shape in
    let whole = ap form_tree (sym c.in-Joined.is) ∙ c.after.view_is in
    let kids = list_children (front_list m.front ++ children m.after) c.chunks.after.now (sym whole) in
    let mine = c.as_slice-chunk.ensures ∙ ap (λ (x : Joined). front_list x.front) e in
    let more = c.in_ok-add_all.ensures ∙ ap (λ l. all ++ l) mine in
    let after = ap (λ (x : Joined). children x.after) e in (
      omega (arith, ap length more, length-append all (front_list m.front), done.0),
      subst (λ (x : Joined). x.after ≡ list_term (children x.after)) (sym e) shape.list,
      (λ i. more i ++ after i) ∙ append_assoc all (front_list m.front) (children m.after)
          ∙ ap (λ l. all ++ l) (sym kids) ∙ done.2,
    )

pub joined-requires-clause-room : goal.joined-requires-clause-room
joined-requires-clause-room c =
    let done = c.chunks.invariant in
    omega (
      arith,
      ap length done.2,
      length-append c.chunks.all.items (children c.chunks.after.now),
      length-append c.args.front.items (children c.args.list.now),
      ap (λ (t : Tree). length (children t)) c.in_ok-try_clone.ensures,
      c.requires.room,
    )
