use Rattle.aterm_text.proofs.StackLemmas.{still_cut}
use Rattle.aterm_text.proofs.reader.stack.TermStack.leave.Goals as goal

pub invariant_of-self-in_err-terms : goal.invariant_of-self-in_err-terms
invariant_of-self-in_err-terms c =
    rw c.in_err-terms.ensures.err (still_cut _ _ _ c.self.inside.terms.items c.self.invariant c.in-Some.ensures.some)
