use Rattle.std.proofs.Common.{◌∙◌}
use Rattle.session_core.proofs.SessionLemmas.{keeps_same, untold}
use Rattle.session_core.proofs.session.Session.diff.Goals as goal

pub invariant_of-self : goal.invariant_of-self
invariant_of-self g c = keeps_same _ _ _ _ (c.diff.ensures.same.same c.self.inside.primitives) c.self.invariant

pub returns-clause-same : goal.returns-clause-same
returns-clause-same g c = c.diff.ensures.same.same c.self.inside.primitives ∙ c.self.view_is

pub returns-clause-refused : goal.returns-clause-refused
returns-clause-refused g c = untold c.diff.result c.self.inside.primitives c.self.inside.timeline c.args.self.now
    c.self.view_is c.diff.ensures.refused
