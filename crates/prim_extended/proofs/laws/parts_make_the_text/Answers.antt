use Rattle.prim_extended.proofs.StringLemmas.{parts_make_the_text}
use Rattle.prim_extended.proofs.laws.parts_make_the_text.Goals as goal

pub returns : goal.returns
returns c = parts_make_the_text
