use Rattle.std.proofs.Common.{◌≤◌, Some, length, sym, ap, subst, ◌∙◌, arith}
use Rattle.term_changes.specs.Reading.{IsNextItem}
use Rattle.session_changes.specs.inside.ReadPatches.{kids_of, items_weight}
use Rattle.session_changes.proofs.PatchDifferences.{next_there, item_read, less_to_read, weight-left, items_left}
use Rattle.session_changes.proofs.patches.+pass.Goals as goal

pub unreachable-requires : goal.unreachable-requires
unreachable-requires t c =
    next_there c.args.reader.now c.loop-k._k c.in-Node.kids c.loop-k-test.true
    (subst (λ n. kids_of n ≤ length c.args.reader.now) c.in-Node.is c.requires)
    (sym c.loop-k.invariant ∙ c.in_default-next.ensures)

pub pass-requires : goal.pass-requires
pass-requires t c =
    let skipped = c.in-Some.field-0-0 in
    let read : IsNextItem c.loop-k.reader (Some (skipped, c.in-Some.next)) c.next.new.self =
    subst (λ r. IsNextItem c.loop-k.reader r c.next.new.self) c.in-Some.is c.next.ensures in (
      omega (
        arith,
        less_to_read c.loop-k.reader c.next.new.self skipped c.in-Some.next read,
        ap items_weight c.loop-k.invariant,
        weight-left c.loop-k._k c.args.reader.now,
        c.decreases,
      ),
      (item_read c.loop-k.reader c.next.new.self skipped c.in-Some.next read).0,
    )

pub loop-k-preserved : goal.loop-k-preserved
loop-k-preserved t c =
    let skipped = c.in-Some.field-0-0 in
    let read : IsNextItem c.loop-k.reader (Some (skipped, c.in-Some.next)) c.next.new.self =
    subst (λ r. IsNextItem c.loop-k.reader r c.next.new.self) c.in-Some.is c.next.ensures in
    c.pass.ensures ∙ sym (items_left c.args.reader.now c.loop-k.reader c.next.new.self c.loop-k._k c.in-Node.kids
    skipped c.in-Some.next c.loop-k-test.true (sym c.loop-k.invariant) read).1
