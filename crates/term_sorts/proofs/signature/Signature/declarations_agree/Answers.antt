use Rattle.std.proofs.Common.{subst}
use Rattle.term_sorts.specs.Sorts.{AreAgreed}
use Rattle.term_sorts.specs.Signatures.{Signature}
use Rattle.term_sorts.proofs.signature.Signature.declarations_agree.Goals as goal

pub returns : goal.returns
returns c = subst (λ (s : Signature). AreAgreed s.declared) c.self.view_is c.self.invariant.agreed
