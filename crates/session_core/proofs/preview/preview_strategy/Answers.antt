use Rattle.std.proofs.Common.{◌∙◌, ap, refl}
use Rattle.term_changes.specs.PatchLaws.{patch_entries}
use Rattle.session_core.proofs.PreviewLemmas.{preview_refused, preview_shows}
use Rattle.session_core.proofs.preview.preview_strategy.Goals as goal

pub returns-in-Err-clause-answers : goal.returns-in-Err-clause-answers
returns-in-Err-clause-answers g c =
    preview_refused g.M.Meaning.meaning c.args.primitives.now c.args.timeline.now c.args.name.now c.args.path.now
    c.args.text.now c.args.budget c.in-Err.refusal c.in-Err.ensures.refused

pub returns-clause-answers : goal.returns-clause-answers
returns-clause-answers g c =
    preview_shows g.M.Meaning.meaning c.args.primitives.now c.args.timeline.now c.args.name.now c.args.path.now
    c.args.text.now c.args.budget c.in-Ok.found.slot
    (patch_entries c.in-Ok.found.slot c.args.path.now c.in-Ok.found.planned.patch) c.in-Ok.found.planned.taken
    c.in-Ok.ensures.ok _
    (c.in_ok-into_plan.ensures ∙ ap (λ p. patch_entries c.in-Ok.found.slot p c.in-Ok.found.planned.patch)
    c.parts.ensures) refl
