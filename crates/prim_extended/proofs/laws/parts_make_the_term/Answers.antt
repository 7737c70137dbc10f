use Rattle.prim_extended.proofs.ConstructorLemmas.{parts_make_the_term}
use Rattle.prim_extended.proofs.laws.parts_make_the_term.Goals as goal

pub returns : goal.returns
returns c = parts_make_the_term
