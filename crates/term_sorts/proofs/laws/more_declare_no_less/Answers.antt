use Rattle.term_sorts.proofs.LawLemmas.{more_declare_no_less}
use Rattle.term_sorts.proofs.laws.more_declare_no_less.Goals as goal

pub returns : goal.returns
returns c = more_declare_no_less
