use Rattle.session_core.proofs.SessionLemmas.{keeps_with, performs_by}
use Rattle.session_core.proofs.session.Session.commit.Goals as goal

pub invariant_of-self : goal.invariant_of-self
invariant_of-self g c = keeps_with _ _ _ _ _ _ _ c.commit.ensures.performs tt c.commit.ensures.kept c.self.invariant

pub returns : goal.returns
returns g c = performs_by _ _ _ _ _ c.self.view_is _ c.commit.ensures.performs
