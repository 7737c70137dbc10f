use Rattle.term_changes.proofs.EntryLemmas.{pushed_fits, rolled_back_fits, flipped_back_fits, flipped_forward_fits}
use Rattle.change_log.proofs.laws.logs_fit.Goals as goal

pub returns-clause-pushed : goal.returns-clause-pushed
returns-clause-pushed c = pushed_fits

pub returns-clause-rolled_back : goal.returns-clause-rolled_back
returns-clause-rolled_back c = rolled_back_fits

pub returns-clause-flipped_back : goal.returns-clause-flipped_back
returns-clause-flipped_back c = flipped_back_fits

pub returns-clause-flipped_forward : goal.returns-clause-flipped_forward
returns-clause-flipped_forward c = flipped_forward_fits
