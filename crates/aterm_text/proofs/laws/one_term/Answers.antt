use Rattle.aterm_text.proofs.LawOneTerm.{one_term_spelled}
use Rattle.aterm_text.proofs.laws.one_term.Goals as goal

pub returns : goal.returns
returns c = one_term_spelled
