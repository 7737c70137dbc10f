use Rattle.script_text.proofs.KeptLemmas.{limits_are_kept}
use Rattle.script_core.proofs.laws.limits_are_kept.Goals as goal

pub returns : goal.returns
returns c = limits_are_kept
