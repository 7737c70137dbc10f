use Rattle.std.proofs.Common.{◌∙◌, Some, option_and_then, unwrap_or, refl, sym, ap}
use Rattle.term_paths.specs.Paths.{at, set_at}
use Rattle.term_changes.proofs.SlotLemmas.{tree_stays, empty_put, tree_put, found_part, set_or_stays, old_or_stays}
use Rattle.change_log.proofs.slots.Slots+Term.swap_subterm.Goals as goal

pub returns-in_default-clause-slots : goal.returns-in_default-clause-slots
returns-in_default-clause-slots c = tree_stays (λ t. set_at t c.args.path.now c.args.other.now)
    c.self.inside.slots.entries c.args.self.now c.args.i _ c.self.view_is c.in_default.ensures.value refl

pub returns-in_default-clause-other : goal.returns-in_default-clause-other
returns-in_default-clause-other c = found_part (λ t. at t c.args.path.now) c.self.inside.slots.entries c.args.self.now
    c.args.i _ c.args.other.now c.self.view_is c.in_default.ensures.value

pub returns-in_default-content-clause-slots : goal.returns-in_default-content-clause-slots
returns-in_default-content-clause-slots c =
    empty_put (λ t. set_at t c.args.path.now c.args.other.now) c.self.inside.slots.entries c.args.self.now c.args.i
    c.in-Some.content.now c.self.view_is c.in-Some.ensures.value c.in_default-content.is

pub returns-in_default-content-clause-other : goal.returns-in_default-content-clause-other
returns-in_default-content-clause-other c =
    ap (λ o. unwrap_or (option_and_then (λ t. at t c.args.path.now) o) c.args.other.now) (sym c.in_default-content.is)
    ∙ found_part (λ t. at t c.args.path.now) c.self.inside.slots.entries c.args.self.now c.args.i _ c.args.other.now
    c.self.view_is c.in-Some.ensures.value

pub returns-clause-slots : goal.returns-clause-slots
returns-clause-slots c =
    let e = c.swap_at_parts.ensures in
    tree_put (λ t. set_at t c.args.path.now c.args.other.now) c.self.inside.slots.entries c.args.self.now c.args.i
    c.in-Some-content.tree c.swap_at_parts.new.term c.self.view_is
    (ap Some (sym c.in-Some-content.is) ∙ c.in-Some.ensures.value)
    (set_or_stays c.swap_at_parts.result _ _ _ _ c.args.path.now e.there e.term e.outside)

pub returns-clause-other : goal.returns-clause-other
returns-clause-other c =
    let e = c.swap_at_parts.ensures in
    old_or_stays c.swap_at_parts.result _ _ _ _ c.args.path.now e.there e.old e.outside
    ∙ ap (λ o. unwrap_or (option_and_then (λ t. at t c.args.path.now) o) c.args.other.now) (sym c.in-Some-content.is)
    ∙ found_part (λ t. at t c.args.path.now) c.self.inside.slots.entries c.args.self.now c.args.i _ c.args.other.now
    c.self.view_is c.in-Some.ensures.value
