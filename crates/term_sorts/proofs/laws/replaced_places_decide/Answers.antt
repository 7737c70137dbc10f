use Rattle.term_sorts.proofs.LawLemmas.{replaced_places_decide}
use Rattle.term_sorts.proofs.laws.replaced_places_decide.Goals as goal

pub returns : goal.returns
returns c = replaced_places_decide
