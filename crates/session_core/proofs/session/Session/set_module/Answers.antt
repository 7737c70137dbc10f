use Rattle.session_core.proofs.SessionLemmas.{keeps_with, performs_by}
use Rattle.session_core.proofs.session.Session.set_module.Goals as goal

pub invariant_of-self : goal.invariant_of-self
invariant_of-self g c =
    keeps_with _ _ _ _ _ _ _ c.set_module.ensures.performs tt c.set_module.ensures.kept c.self.invariant

pub returns : goal.returns
returns g c = performs_by _ _ _ _ _ c.self.view_is _ c.set_module.ensures.performs
