use Rattle.std.proofs.Common.{sym}
use Rattle.session_history.proofs.StepLemmas.{place_there}
use Rattle.script_core.proofs.answer.find_place.Goals as goal

pub returns-in-Some-at-clause-found : goal.returns-in-Some-at-clause-found
returns-in-Some-at-clause-found g c = (
  c.in-Some.tree.now,
  place_there c.args.session.now.now c.args.name.now c.args.path.now c.in-Some.tree.now c.in-Some-at.part.now
      (sym c.in-Some.ensures.value) (sym c.in-Some-at.ensures),
)
