use Rattle.std.proofs.Common.{◌≡◌, ◌+◌, ◌-◌, ◌∷◌, ◌++◌, length, drop, arith, ap, ◌∙◌}
use Rattle.std.proofs.lemmas.List.{length-append, length-drop}
use Rattle.term_core.specs.Tree.{children, list_term}
use Rattle.term_values.specs.inside.ValueView.{front_list}
use Rattle.term_values.proofs.ListLemmas.{list_children, link_more}
use Rattle.term_values.proofs.list.joined_rest.Goals as goal

pub link-requires-clause-room : goal.link-requires-clause-room
link-requires-clause-room c =
    let done = c.loop-at.invariant in
    let front = c.as_slice-front.result.now in
    let at = c.loop-at.at in
    let ch = children c.args.list.now.after in
    let kids = list_children (drop at front ++ ch) c.loop-at.rest done.2 in
    omega (
      arith,
      ap length kids,
      length-append (drop at front) ch,
      length-drop at front,
      ap length c.as_slice-front.ensures,
      length-append (front_list c.args.list.now.front) ch,
      c.requires.shape.counted,
      done.1,
      c.loop-at-test.true,
    )

pub loop-at-preserved : goal.loop-at-preserved
loop-at-preserved c =
    let done = c.loop-at.invariant in
    let front = c.as_slice-front.result.now in
    let at = c.loop-at.at in
    let ch = children c.args.list.now.after in
    let v = c.index-front-at.result in
    let one : at ≡ at - 1 + 1 = omega (arith, c.loop-at-test.true) in
    let rest = done.2 ∙ ap (λ k. list_term (drop k front ++ ch)) one in
    let next = c.in_ok-rest-2.ensures ∙ ap (λ x. list_term (x ∷ children c.loop-at.rest)) c.in_ok-try_clone.ensures in (
      omega (arith, c.loop-at-test.true),
      omega (arith, done.1),
      link_more front ch (at - 1) v c.loop-at.rest c.in_ok-rest-2.rest (omega (arith, done.1, c.loop-at-test.true))
          c.index-front-at.is rest next,
    )
