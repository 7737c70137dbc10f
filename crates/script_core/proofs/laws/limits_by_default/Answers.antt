use Rattle.std.proofs.Common.{refl, ap}
use Rattle.script_text.specs.Form.{up_to}
use Rattle.session_history.specs.declared.limits.Limits.{Limits}
use Rattle.script_core.proofs.laws.limits_by_default.Goals as goal

pub returns-clause-session : goal.returns-clause-session
returns-clause-session c = λ primitives. refl

pub returns-clause-terms : goal.returns-clause-terms
returns-clause-terms c = λ level t. refl

pub returns-clause-steps : goal.returns-clause-steps
returns-clause-steps c = λ h budget word same. ap (λ (l : Limits). up_to l.max_steps word) same
