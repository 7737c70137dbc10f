use Rattle.session_core.proofs.SessionLemmas.{keeps_with, performs_by}
use Rattle.session_core.proofs.session.Session.apply.Goals as goal

pub invariant_of-self : goal.invariant_of-self
invariant_of-self g c = keeps_with _ _ _ _ _ _ _ c.apply_strategy.ensures.performs c.heights_are_kept.ensures.applied
    c.apply_strategy.ensures.kept c.self.invariant

pub returns : goal.returns
returns g c = performs_by _ _ _ _ _ c.self.view_is _ c.apply_strategy.ensures.performs
