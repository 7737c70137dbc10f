use Rattle.std.proofs.Common.{◌≡◌, ℕ, List, Some, ap, sym, ◌∙◌, subst, length, get_or, arith}
use Rattle.std.specs.List.{Contains, slice_get}
use Rattle.std.specs.Option.{IsSomeAnd}
use Rattle.term_sorts.specs.Sorts.{Declaration, AreAgreed}
use Rattle.term_sorts.specs.Signatures.{Signature}
use Rattle.term_sorts.specs.inside.Forms.{IsForm, IsOf, bucket_of}
use Rattle.term_sorts.specs.declared.signature.Form.{Form}
use Rattle.term_sorts.proofs.ListLemmas.{has_place, value_at}
use Rattle.term_sorts.proofs.SignatureLemmas.{declaration_of_form, form_of}
use Rattle.term_sorts.proofs.signature.Signature.form.Goals as goal

pub returns-in-loop-number-clause-form : goal.returns-in-loop-number-clause-form
returns-in-loop-number-clause-form c =
    let n = get_or c.deref-number-items.result.now c.loop-number.number-index 0 in
    let f = c.in-Some.form.now in
    subst (λ (s : Signature). IsForm s.sorts f) c.self.view_is
    (c.self.invariant.forms n f
    (ap (λ (l : List Form). slice_get l n) (sym c.deref-in-loop-number.ensures.value) ∙ sym c.in-Some.ensures))

pub returns-in-loop-number-clause-declared : goal.returns-in-loop-number-clause-declared
returns-in-loop-number-clause-declared c =
    let n = get_or c.deref-number-items.result.now c.loop-number.number-index 0 in
    let f = c.in-Some.form.now in
    has_place c.args.self.now.declared.constructors n f.declaration
    (subst (λ (s : Signature). slice_get s.declared.constructors n ≡ Some f.declaration) c.self.view_is
    (declaration_of_form c.self.inside.forms.items n f
    (ap (λ (l : List Form). slice_get l n) (sym c.deref-in-loop-number.ensures.value) ∙ sym c.in-Some.ensures)))

pub returns-in-loop-number-clause-agreed : goal.returns-in-loop-number-clause-agreed
returns-in-loop-number-clause-agreed c =
    subst (λ (s : Signature). AreAgreed s.declared) c.self.view_is c.self.invariant.agreed

pub returns-clause-none : goal.returns-clause-none
returns-clause-none c = λ d h is.
    let forms = c.self.inside.forms.items in
    let f = form_of forms d (subst (λ (s : Signature). Contains s.declared.constructors d) (sym c.self.view_is) h) in
    let is_f = subst (λ (x : Declaration). IsOf x c.args.name.now c.args.count) (sym f.3) is in
    let place : slice_get c.self.inside.buckets.items
    (bucket_of f.1.declaration.name (length f.1.declaration.arguments)) ≡ Some c.in_ok-numbers.numbers.now =
    (λ i. slice_get c.self.inside.buckets.items (bucket_of (is_f.1 i) (is_f.0 i)))
    ∙ ap (λ (n : ℕ). slice_get c.self.inside.buckets.items n) (sym c.bucket_of.ensures.value)
    ∙ (λ i. slice_get (sym c.deref.ensures.value i) c.bucket_of.result) ∙ sym c.in_ok-numbers.ensures in
    let listed =
    subst (λ o. IsSomeAnd o (λ numbers. Contains numbers.items f.0)) place (c.self.invariant.listed f.0 f.1 f.2) in
    let v = value_at c.in_ok-numbers.numbers.now.items f.0 listed in
    c.loop-number.invariant v.0
    (omega (arith, v.1, ap length c.deref-number-items.ensures.value, c.loop-number-test.false)) f.1
    (subst (λ (n : ℕ). slice_get forms n ≡ Some f.1)
    (sym (ap (λ (l : List ℕ). get_or l v.0 0) c.deref-number-items.ensures.value ∙ v.2)) f.2) is_f

pub returns-clause-agreed : goal.returns-clause-agreed
returns-clause-agreed c = subst (λ (s : Signature). AreAgreed s.declared) c.self.view_is c.self.invariant.agreed
