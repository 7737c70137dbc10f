use Rattle.std.proofs.Common.{sym, ap, subst, ◌∙◌}
use Rattle.term_changes.specs.Entries.{after, FitsForward}
use Rattle.term_changes.specs.PatchLaws.{patch_entries}
use Rattle.session_core.proofs.applying.exchange.Goals as goal

pub plan_in_group-requires-clause-places : goal.plan_in_group-requires-clause-places
plan_in_group-requires-clause-places c =
    subst (λ es. FitsForward es c.args.timeline.now.store)
    (sym (c.in_ok-plan.ensures ∙ ap (λ p. patch_entries c.args.slot p c.args.patch) c.parts.ensures))
    c.requires.places

pub returns-then-in_group-clause-made : goal.returns-then-in_group-clause-made
returns-then-in_group-clause-made c =
    c.in_ok-plan_in_group.ensures.store ∙ ap (λ es. after es c.args.timeline.now.store)
    (c.in_ok-plan.ensures ∙ ap (λ p. patch_entries c.args.slot p c.args.patch) c.parts.ensures)

pub patch_as_step-requires-clause-places : goal.patch_as_step-requires-clause-places
patch_as_step-requires-clause-places c =
    subst (λ p. FitsForward (patch_entries c.args.slot p c.args.patch) c.args.timeline.now.store)
    (sym (c.in-Ok.ensures.items ∙ c.parts-2.ensures)) c.requires.places

pub returns-clause-made : goal.returns-clause-made
returns-clause-made c =
    c.in_ok-patch_as_step.ensures.store
    ∙ ap (λ p. after (patch_entries c.args.slot p c.args.patch) c.args.timeline.now.store)
    (c.in-Ok.ensures.items ∙ c.parts-2.ensures)
