use Rattle.std.proofs.Common.{sym, ◌∙◌, subst, length, arith}
use Rattle.std.proofs.lemmas.Option.{slice_get_within}
use Rattle.term_sorts.specs.Sorts.{Declaration}
use Rattle.term_sorts.specs.inside.Forms.{IsOf}
use Rattle.term_sorts.proofs.SignatureLemmas.{form_of}
use Rattle.term_sorts.proofs.signature.has_other.Goals as goal

pub returns-clause-none : goal.returns-clause-none
returns-clause-none c = λ q h is.
    let d = c.args.declaration.now in
    let f = form_of c.args.forms.now q h in
    sym f.3 ∙ c.loop-form.invariant f.0
    (omega (arith, slice_get_within c.args.forms.now f.0 f.1 f.2, c.loop-form-test.false)) f.1 f.2
    (subst (λ (x : Declaration). IsOf x d.name (length d.arguments)) (sym f.3) is)
