use Rattle.std.proofs.Common.{◌+◌, ◌≤◌, length, Option, IfSome, refl, subst, arith}
use Rattle.term_core.specs.Tree.{Tree}
use Rattle.term_core.specs.Size.{height}
use Rattle.term_core.specs.declared.TheConstants.{MAX_HEIGHT}
use Rattle.session_core.proofs.ResolveLemmas.{is_low}
use Rattle.session_core.proofs.planning.plan_at.Goals as goal

pub plan_patch_until-ended-requires-clause-low : goal.plan_patch_until-ended-requires-clause-low
plan_patch_until-ended-requires-clause-low g c =
    let low =
    subst (λ (o : Option Tree). IfSome o (λ u. length c.args.path.now + height u ≤ MAX_HEIGHT)) c.in-Ok.ensures.part
    (is_low c.args.timeline.now c.args.name.now c.args.path.now c.in-Ok.found.place.slot c.in-Ok.ensures.ok.there
    c.requires.formed c.args.timeline.now.store refl) in
    omega (arith, low, c.len.ensures)
