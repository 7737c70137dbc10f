use Rattle.std.proofs.Common.{◌∙◌, arith}
use Rattle.std.specs.Prelude.{vec_len}
use Rattle.aterm_text.proofs.StackLemmas.{only_term}
use Rattle.aterm_text.proofs.reader.stack.TermStack.into_term.Goals as goal

pub returns : goal.returns
returns c = λ t e. only_term _ c.self.inside.terms.items t (vec_len c.self.inside.terms) c.pop.result c.self.invariant
    (c.self.view_is ∙ e) (omega (arith, c.self.inside.terms.ok.0)) c.pop.ensures.value
