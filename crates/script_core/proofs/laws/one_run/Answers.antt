use Rattle.script_text.proofs.LawLemmas.{Replied-one}
use Rattle.script_core.proofs.laws.one_run.Goals as goal

pub returns : goal.returns
returns c = Replied-one c.one_term.ensures c.one_module.ensures c.one_result.ensures
