use Rattle.term_sorts.proofs.LawLemmas.{free_lists_and_tuples}
use Rattle.term_sorts.proofs.laws.free_lists_and_tuples.Goals as goal

pub returns : goal.returns
returns c = free_lists_and_tuples
