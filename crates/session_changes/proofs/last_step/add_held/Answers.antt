use Rattle.std.proofs.Common.{sym, subst, ap, ◌∙◌}
use Rattle.std.proofs.lemmas.Result.{on_ok_weaker}
use Rattle.term_changes.specs.LogView.{entry_of}
use Rattle.session_history.specs.Differences.{tree_lines, text_lines}
use Rattle.session_changes.specs.inside.Lined.{AddsLines}
use Rattle.session_changes.specs.inside.Told.{entry_lines}
use Rattle.session_changes.proofs.last_step.add_held.Goals as goal

pub returns-in-Tree : goal.returns-in-Tree
returns-in-Tree c =
    let h = c.args.held in
    on_ok_weaker c.add_tree.result
    (subst (λ l. AddsLines l c.args.lines.now c.add_tree.new.lines)
    ((λ k. tree_lines c.args.name.now (c.as_ref.ensures.value k) (c.tree-tree.ensures k))
    ∙ ap (λ kept. entry_lines c.args.store.now c.args.name.now (entry_of h.slot h.path.now kept)) (sym c.in-Tree.is)))
    c.add_tree.ensures.ok

pub returns-in-Text : goal.returns-in-Text
returns-in-Text c =
    let h = c.args.held in
    on_ok_weaker c.add_text.result
    (subst (λ l. AddsLines l c.args.lines.now c.add_text.new.lines)
    ((λ k. text_lines c.args.name.now (c.bytes_of.ensures k) (c.module.ensures k))
    ∙ ap (λ kept. entry_lines c.args.store.now c.args.name.now (entry_of h.slot h.path.now kept)) (sym c.in-Text.is)))
    c.add_text.ensures
