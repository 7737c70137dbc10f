use Rattle.term_changes.proofs.TwiceLemmas.{twice_is_nothing}
use Rattle.term_changes.proofs.laws.patches_taken_twice.Goals as goal

pub returns : goal.returns
returns c = twice_is_nothing
