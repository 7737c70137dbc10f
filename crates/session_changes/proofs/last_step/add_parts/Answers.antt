use Rattle.std.proofs.Common.{◌≡◌, true, false, map, refl, sym, ap, subst, ◌∙◌, option_copied}
use Rattle.std.proofs.lemmas.Result.{on_ok_weaker}
use Rattle.term_paths.specs.Paths.{at}
use Rattle.term_changes.specs.Change.{changed}
use Rattle.session_history.specs.Differences.{differences, difference_line}
use Rattle.session_changes.specs.inside.Lined.{AddsLines}
use Rattle.session_changes.proofs.AddedLemmas.{adds_equal}
use Rattle.session_changes.proofs.EntryTold.{no_slot_told, no_tree_told, no_part_told, other_told, patch_told}
use Rattle.session_changes.proofs.NamedTold.{named_slot, not_mapped}
use Rattle.session_changes.proofs.last_step.add_parts.Goals as goal

pub returns-in_default : goal.returns-in_default
returns-in_default c =
    let s = c.args.store.now in
    let p = c.args.parts.now in
    adds_equal _ c.args.lines.now
    (no_slot_told (option_copied c.args.name) s c.names_are_distinct.ensures.trees c.names_are_distinct.ensures.modules
    p.patch p.slot p.path.items (not_mapped _ _ c.in_default.ensures.label))

pub returns-then-not-is_asked : goal.returns-then-not-is_asked
returns-then-not-is_asked c =
    let s = c.args.store.now in
    let p = c.args.parts.now in
    adds_equal _ c.args.lines.now
    (other_told (option_copied c.args.name) s c.names_are_distinct.ensures.trees c.names_are_distinct.ensures.modules
    p.patch p.slot p.path.items c.in-Some.label.now
    (named_slot s.trees p.slot c.in-Some.label.now c.names_are_distinct.ensures.trees c.in-Some.ensures.label)
    (λ h. let never : false ≡ true = c.if-not-is_asked.ensures.1 h in cc))

pub returns-in_default-tree : goal.returns-in_default-tree
returns-in_default-tree c =
    let s = c.args.store.now in
    let p = c.args.parts.now in
    adds_equal _ c.args.lines.now
    (no_tree_told (option_copied c.args.name) s c.names_are_distinct.ensures.trees c.names_are_distinct.ensures.modules
    p.patch p.slot p.path.items (sym c.in_default-tree.ensures))

pub returns-in_default-at_parts : goal.returns-in_default-at_parts
returns-in_default-at_parts c =
    let s = c.args.store.now in
    let p = c.args.parts.now in
    let t = c.in-Some-tree.tree.now in
    adds_equal _ c.args.lines.now
    (no_part_told (option_copied c.args.name) s c.names_are_distinct.ensures.trees c.names_are_distinct.ensures.modules
    p.patch p.slot p.path.items t (sym c.in-Some-tree.ensures)
    (ap (at t) (sym c.deref.ensures.value) ∙ sym c.in_default-at_parts.ensures))

pub returns : goal.returns
returns c =
    let s = c.args.store.now in
    let p = c.args.parts.now in
    let n = c.in-Some.label.now in
    let t = c.in-Some-tree.tree.now in
    let w = c.in-Some-at_parts.part.now in
    let here = c.in_ok-path.ensures.items ∙ c.deref-2.ensures.value in
    let told =
    patch_told (option_copied c.args.name) s c.names_are_distinct.ensures.trees c.names_are_distinct.ensures.modules
    p.patch p.slot p.path.items n
    (named_slot s.trees p.slot n c.names_are_distinct.ensures.trees c.in-Some.ensures.label) t w
    (sym c.in-Some-tree.ensures)
    (ap (at t) (sym c.deref.ensures.value) ∙ sym c.in-Some-at_parts.ensures) (c.if-not-is_asked.ensures.0 refl) in
    on_ok_weaker c.add_patch.result
    (subst (λ l. AddsLines l c.args.lines.now c.add_patch.new.lines)
    ((λ k. map (difference_line (c.bytes.ensures.value k)) (differences (here k) (changed p.patch w) w)) ∙ sym told))
    c.add_patch.ensures
