use Rattle.term_changes.proofs.EntryLemmas.{flips_forward, flips_back, store_from_after, store_from_before}
use Rattle.change_log.proofs.laws.flips_are_inverse.Goals as goal

pub returns-clause-forward : goal.returns-clause-forward
returns-clause-forward c = flips_forward

pub returns-clause-back : goal.returns-clause-back
returns-clause-back c = flips_back

pub returns-clause-after : goal.returns-clause-after
returns-clause-after c = store_from_after

pub returns-clause-before : goal.returns-clause-before
returns-clause-before c = store_from_before
