use Rattle.session_core.proofs.SessionLemmas.{keeps, performs}
use Rattle.session_core.proofs.session.Session.copy_tree.Goals as goal

pub invariant_of-self : goal.invariant_of-self
invariant_of-self g c = keeps _ _ _ _ _ _ c.copy_tree.ensures tt tt c.self.invariant

pub returns : goal.returns
returns g c = performs _ _ _ _ _ c.self.view_is _ c.copy_tree.ensures
