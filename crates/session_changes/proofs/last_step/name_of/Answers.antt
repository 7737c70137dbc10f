use Rattle.std.proofs.Common.{sym, subst}
use Rattle.term_changes.specs.LogView.{entry_of}
use Rattle.session_changes.specs.inside.Told.{HasSlot, IsNamed}
use Rattle.session_changes.proofs.NamedTold.{some_named, some_there, not_text, in_trees, tree_named, text_named}
use Rattle.session_changes.proofs.last_step.name_of.Goals as goal

pub returns-in-Text-clause-named : goal.returns-in-Text-clause-named
returns-in-Text-clause-named c =
    let s = c.args.store.now in
    let h = c.args.held in
    some_named c.module_name.result c.module_name.ensures.label
    (λ n. IsNamed s n (entry_of h.slot h.path.now h.kept.now))
    (λ n e. subst (λ k. IsNamed s n (entry_of h.slot h.path.now k)) (sym c.in-Text.is)
    (text_named s h.slot n c.module_name.ensures.apart e))

pub returns-in-Text-clause-there : goal.returns-in-Text-clause-there
returns-in-Text-clause-there c = λ slot.
    let s = c.args.store.now in
    let h = c.args.held in
    some_there s.modules h.slot c.module_name.result c.module_name.ensures.label
    (subst (λ k. HasSlot s (entry_of h.slot h.path.now k)) c.in-Text.is slot)

pub returns-in_default-clause-named : goal.returns-in_default-clause-named
returns-in_default-clause-named c =
    let s = c.args.store.now in
    let h = c.args.held in
    some_named c.tree_name.result c.tree_name.ensures.label (λ n. IsNamed s n (entry_of h.slot h.path.now h.kept.now))
    (λ n e. tree_named s h.slot h.path.now h.kept.now n c.tree_name.ensures.apart e
    (not_text h.slot h.path.now h.kept.now c.in_default.not-Text))

pub returns-in_default-clause-there : goal.returns-in_default-clause-there
returns-in_default-clause-there c = λ slot.
    let s = c.args.store.now in
    let h = c.args.held in
    some_there s.trees h.slot c.tree_name.result c.tree_name.ensures.label
    (in_trees s h.slot h.path.now h.kept.now (not_text h.slot h.path.now h.kept.now c.in_default.not-Text) slot)
