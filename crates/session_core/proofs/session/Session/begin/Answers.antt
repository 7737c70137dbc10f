use Rattle.session_core.proofs.SessionLemmas.{keeps_surely, performs_surely}
use Rattle.session_core.proofs.session.Session.begin.Goals as goal

pub invariant_of-self : goal.invariant_of-self
invariant_of-self g c = keeps_surely _ _ _ _ _ _ c.begin.ensures tt tt c.self.invariant

pub returns : goal.returns
returns g c = performs_surely _ _ _ _ _ c.self.view_is _ c.begin.ensures
