use Rattle.std.proofs.Common.{◌≤◌, ◌++◌, length, take, drop, arith, ap, sym, ◌∙◌}
use Rattle.term_core.specs.Tree.{children, list_term}
use Rattle.term_values.proofs.ListLemmas.{chunk_more, chunk_left, chunk_room}
use Rattle.term_values.proofs.list.chunked.Goals as goal

pub joined-requires-clause-room : goal.joined-requires-clause-room
joined-requires-clause-room c =
    let i = c.loop-alloc.invariant in
    let room = chunk_room c.args.values.items c.loop-alloc.left.items c.in_ok-front.front.items (children c.args.after)
    c.loop-alloc.list (length c.loop-alloc.left.items) c.max-from.result i.1 i.2 i.3 c.in_ok-front.ensures.tail in
    omega (arith, room, c.requires.room)

pub loop-alloc-preserved : goal.loop-alloc-preserved
loop-alloc-preserved c =
    let i = c.loop-alloc.invariant in
    let all = c.args.values.items in
    let ch = children c.args.after in
    let n = length c.loop-alloc.left.items in
    let m = c.max-from.result in
    let less : m ≤ n = omega
    (arith, c.max-from.ensures, c.saturating_sub.ensures, c.len-in-loop-alloc.ensures, c.loop-alloc.left.ok.0, i.0) in
    let left =
    chunk_left all c.loop-alloc.left.items c.split_off.new.self.items n m i.1 less i.2 c.in_ok-front.ensures.items in (
      omega (arith, left.0, c.max-from.ensures),
      omega (arith, left.0, less, i.1),
      left.1 ∙ ap (λ k. take k all) (sym left.0),
      chunk_more all c.loop-alloc.left.items c.in_ok-front.front.items ch c.loop-alloc.list c.in_ok-list.list n m i.1
          less i.2 i.3 c.in_ok-front.ensures.tail c.in_ok-list.ensures
          ∙ ap (λ k. list_term (drop k all ++ ch)) (sym left.0),
    )
