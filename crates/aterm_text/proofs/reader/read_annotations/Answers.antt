use Rattle.aterm_text.proofs.ReadLemmas.{met_term}
use Rattle.aterm_text.proofs.reader.read_annotations.Goals as goal

pub returns-in-Err-clause-no_term : goal.returns-in-Err-clause-no_term
returns-in-Err-clause-no_term c = λ e us h. c.in-Err.ensures.no_term (met_term _ _ c.first_fault.ensures.other e) us h
