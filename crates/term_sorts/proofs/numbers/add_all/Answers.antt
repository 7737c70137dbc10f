use Rattle.std.proofs.lemmas.List.{take_all}
use Rattle.term_sorts.proofs.ListLemmas.{was_there, was_added}
use Rattle.term_sorts.proofs.numbers.add_all.Goals as goal
use Rattle.term_sorts.proofs.numbers.add_all.Goals.{then-not-is_among+in_ok-push, else-not-is_among}

pub loop-other-preserved : goal.loop-other-preserved
loop-other-preserved c =
    let old = c.args.numbers.now.items in
    let others = c.args.others.now in
    let i = c.loop-other.other-index in
    elim c.if-not-is_among.branch [
      | then-not-is_among+in_ok-push w ↦
          rw (w.numbers-is, w.in_ok-push.ensures.items)
          (was_added old others i c.loop-other-test.true c.loop-other.numbers.items c.loop-other.invariant)
      | else-not-is_among w ↦
          rw w.numbers-is (was_there old others i c.loop-other-test.true c.loop-other.numbers.items
          (rw (← c.deref.ensures.value) (c.is_among.ensures.0 w.if-not-is_among.false)) c.loop-other.invariant)
    ]

pub returns : goal.returns
returns c =
    rw (← take_all c.loop-other.other-index c.args.others.now c.loop-other-test.false) c.loop-other.invariant
