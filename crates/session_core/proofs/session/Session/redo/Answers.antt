use Rattle.session_core.proofs.SessionLemmas.{keeps_refused, keeps_noted, keeps_texts, performs_passed}
use Rattle.session_core.proofs.session.Session.redo.Goals as goal

pub invariant_of-self : goal.invariant_of-self
invariant_of-self g c = keeps_refused _ _ _ _ _ _ c.in_err-touched.ensures.performs c.self.invariant

pub returns-in_err-touched : goal.returns-in_err-touched
returns-in_err-touched g c =
    performs_passed _ _ _ _ _ c.self.view_is _ _ c.from_residual.ensures.1 c.in_err-touched.ensures.performs

pub invariant_of-self-then-touched : goal.invariant_of-self-then-touched
invariant_of-self-then-touched g c =
    keeps_noted _ _ _ _ _ _ _ c.in_ok-touched.ensures.performs tt c.note_change.ensures c.self.invariant

pub invariant_of-self-else-touched : goal.invariant_of-self-else-touched
invariant_of-self-else-touched g c = keeps_texts _ _ _ _ _ _ c.in_ok-touched.touched c.in_ok-touched.ensures.performs tt
    c.if-touched.false c.in_ok-touched.ensures.texts c.self.invariant
