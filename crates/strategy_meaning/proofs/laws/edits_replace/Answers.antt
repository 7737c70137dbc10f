use Rattle.strategy_meaning.proofs.EditLemmas.{edits_replace}
use Rattle.strategy_meaning.proofs.AppliedLemmas.{applied_edits_replace, no_edits_no_change}
use Rattle.strategy_meaning.proofs.laws.edits_replace.Goals as goal

pub returns-clause-run : goal.returns-clause-run
returns-clause-run c = edits_replace

pub returns-clause-applied : goal.returns-clause-applied
returns-clause-applied c = applied_edits_replace

pub returns-clause-none : goal.returns-clause-none
returns-clause-none c = no_edits_no_change
