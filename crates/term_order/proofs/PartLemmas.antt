-- The parts of terms.
use Rattle.term_core.proofs.TreeLemmas.{to_list-of_list, of_list-to_list}

pub ruleset term_parts = (to_list-of_list, of_list-to_list)
