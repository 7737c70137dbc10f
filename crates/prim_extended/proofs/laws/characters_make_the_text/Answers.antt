use Rattle.prim_extended.proofs.StringLemmas.{characters_make_the_text}
use Rattle.prim_extended.proofs.laws.characters_make_the_text.Goals as goal

pub returns : goal.returns
returns c = characters_make_the_text
