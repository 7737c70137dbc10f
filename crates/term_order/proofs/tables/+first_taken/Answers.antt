use Rattle.std.proofs.Common.{ap, sym, ◌∙◌}
use Rattle.term_values.specs.Seen.{seen_tree}
use Rattle.term_order.specs.Tables.{table_of}
use Rattle.term_order.proofs.ShapeLemmas.{first_is_own, first_is_lesser}
use Rattle.term_order.proofs.tables.+first_taken.Goals as goal

pub returns-then-is_empty : goal.returns-then-is_empty
returns-then-is_empty t c =
    let root = c.in-Some.root in
    first_is_own (table_of (seen_tree c.args.table)) (table_of (seen_tree root.lesser))
    (table_of (seen_tree root.greater)) (table_of c.in_ok-share.field-0) root.count
    (seen_tree root.key) (seen_tree root.value) c.in_ok-entry.field-0.key c.in_ok-entry.field-0.value
    c.in-Some.ensures.some (sym c.is_empty.ensures ∙ c.if-is_empty.true) c.in_ok-entry.ensures.key
    c.in_ok-entry.ensures.value (ap table_of c.in_ok-share.ensures)

pub returns-in_ok-others-in-Some-2 : goal.returns-in_ok-others-in-Some-2
returns-in_ok-others-in-Some-2 t c =
    let root = c.in-Some.root in
    let taken = c.in-Some-2.taken in
    first_is_lesser (table_of (seen_tree c.args.table)) (table_of (seen_tree root.lesser))
    (table_of (seen_tree root.greater)) (table_of taken.others)
    (table_of c.in_ok-others-in-Some-2.others) root.count (seen_tree root.key) (seen_tree root.value) taken.first.key
    taken.first.value
    c.in-Some.ensures.some (sym c.is_empty.ensures ∙ c.if-is_empty.false) (rw c.in-Some-2.is at c.in_ok-taken.ensures)
    c.in_ok-others-in-Some-2.ensures
