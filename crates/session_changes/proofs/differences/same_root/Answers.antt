use Rattle.std.proofs.Common.{sym, ◌∙◌, arith}
use Rattle.std.proofs.lemmas.Bool.{ne_eqb}
use Rattle.session_changes.proofs.DifferenceLemmas.{root_alike, root_apart}
use Rattle.session_changes.proofs.differences.same_root.Goals as goal

pub returns-then-child_count : goal.returns-then-child_count
returns-then-child_count c =
    let t = c.args.old.now in
    let u = c.args.new.now in
    c.same_kind.ensures
    ∙ sym (root_alike t u c.kind.result c.kind-then-child_count.result c.kind.ensures c.kind-then-child_count.ensures
    (omega (arith, c.child_count.ensures, c.child_count-2.ensures, c.if-child_count.true)))

pub returns-else-child_count : goal.returns-else-child_count
returns-else-child_count c =
    let t = c.args.old.now in
    let u = c.args.new.now in
    ne_eqb c.child_count.result c.child_count-2.result c.if-child_count.false
    ∙ sym
    (root_apart t u (λ e. c.if-child_count.false (omega (arith, c.child_count.ensures, c.child_count-2.ensures, e))))
