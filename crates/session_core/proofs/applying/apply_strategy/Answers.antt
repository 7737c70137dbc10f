use Rattle.term_changes.specs.PatchLaws.{patch_entries}
use Rattle.session_history.specs.Applying.{world_in}
use Rattle.session_history.specs.Acts.{apply}
use Rattle.session_history.proofs.SoundLemmas.{act_leaves}
use Rattle.session_history.proofs.ActLemmas.{kept_still}
use Rattle.session_core.proofs.PlanLemmas.{foreseen_fits}
use Rattle.session_core.proofs.ApplyLemmas.{apply_refused, apply_performs}
use Rattle.session_core.proofs.applying.apply_strategy.Goals as goal

pub exchange-requires : goal.exchange-requires
exchange-requires g c =
    let p = c.in-Ok.ensures.ok in
    record {
      places =
          foreseen_fits
          (world_in g.M.Meaning.meaning p.program c.args.primitives.now c.args.timeline.now.limits.max_terms)
          c.args.timeline.now.store c.in-Ok.found.slot c.args.path.now p.whole c.args.budget
          (patch_entries c.in-Ok.found.slot c.args.path.now c.in-Ok.found.planned.patch) c.in-Ok.found.planned.taken
          p.foresees;
    }

pub returns-in-Err-clause-performs : goal.returns-in-Err-clause-performs
returns-in-Err-clause-performs g c = record {
  is =
      apply_refused g.M.Meaning.meaning c.args.primitives.now c.args.timeline.now c.args.name.now c.args.path.now
      c.args.text.now c.args.budget c.in-Err.refusal c.in-Err.ensures.refused;
}

pub returns-clause-performs : goal.returns-clause-performs
returns-clause-performs g c = record {
  is =
      apply_performs g.M.Meaning.meaning c.args.primitives.now c.args.timeline.now c.args.name.now c.args.path.now
      c.args.text.now c.args.budget c.in-Ok.found.slot
      (patch_entries c.in-Ok.found.slot c.args.path.now c.in-Ok.found.planned.patch) c.in-Ok.found.planned.taken
      c.in-Ok.ensures.ok
      c.exchange.result c.exchange.new.timeline c.exchange.ensures.made c.exchange.ensures.ok c.exchange.ensures.refused
      c.exchange.ensures.err;
}

pub returns-clause-kept : goal.returns-clause-kept
returns-clause-kept g c =
    let p = (returns-clause-performs g c).is in
    kept_still c.args.primitives.now c.args.timeline.now c.exchange.new.timeline _
    (act_leaves (apply g.M.Meaning.meaning c.args.name.now c.args.path.now c.args.budget c.args.text.now)
    c.exchange.result _ _ tt p.ok p.err) c.plan_at.ensures.kept
