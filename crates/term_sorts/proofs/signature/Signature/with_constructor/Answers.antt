use Rattle.std.proofs.Common.{◌≡◌, ◌<◌, ℕ, List, ◌∷◌, [], ◌++◌, length, set, Some, sym, ap, ◌∙◌, subst, refl, arith}
use Rattle.std.specs.List.{slice_get}
use Rattle.std.proofs.lemmas.List.{length-set}
use Rattle.std.proofs.lemmas.Option.{slice_get_read}
use Rattle.term_sorts.specs.Sorts.{Declaration, Injection, AreAgreed, AreDeclaredOnce, TakeNoneAlike}
use Rattle.term_sorts.specs.Signatures.{Signature, and_constructor}
use Rattle.term_sorts.specs.inside.Tables.{IsNumber, AreNumbers, KeepNumbers}
use Rattle.term_sorts.specs.inside.Forms.{declarations_in, bucket_of, IsForm, HasOther, AreSame}
use Rattle.term_sorts.specs.declared.signature.Form.{Form}
use Rattle.term_sorts.proofs.TableLemmas.{numbers_kept}
use Rattle.term_sorts.proofs.SignatureLemmas.{declarations_push, still_once, other_shows, listed_more, AreListed, forms_more}
use Rattle.term_sorts.proofs.signature.Signature.with_constructor.Goals as goal

pub returns-then-has_other-clause-none : goal.returns-then-has_other-clause-none
returns-then-has_other-clause-none c = λ agreed.
    let d = c.args.declaration.now in
    let ds = declarations_in c.self.inside.forms.items in
    other_shows ds d (subst (λ (l : List Form). HasOther (declarations_in l) d) c.deref.ensures.value
    (c.has_other.ensures.other c.if-has_other.true))
    (subst (λ (s : Signature). AreAgreed (and_constructor s.declared d)) (sym c.self.view_is) agreed).0

pub invariant_of-result : goal.invariant_of-result
invariant_of-result c =
    let d = c.args.declaration.now in
    let inv = c.self.invariant in
    let old = c.self.inside.table.sorts in
    let middle = c.numbers_of.new.self.sorts in
    let new = c.number_of.new.self.sorts in
    let forms = c.self.inside.forms.items in
    let buckets = c.self.inside.buckets.items in
    let b = c.bucket_of-bucket.result in
    let form : Form = record {
      declaration = c.in_ok-try_clone.field-0;
      arguments = c.in_ok-numbers_of.field-0;
      given = c.in_ok-number_of.field-0;
    } in
    let same : form.declaration ≡ d = c.in_ok-try_clone.ensures in
    let keep : KeepNumbers old new =
    λ n s e. c.in_ok-number_of.ensures.kept.numbers n s (c.in_ok-numbers_of.ensures.kept.numbers n s e) in
    let right : IsForm new form = (
      numbers_kept middle new c.in_ok-number_of.ensures.kept.numbers c.in_ok-numbers_of.field-0.items
          form.declaration.arguments
          (subst (λ l. AreNumbers middle c.in_ok-numbers_of.field-0.items l)
          (c.arguments.ensures ∙ ap (λ (q : Declaration). q.arguments) (sym same)) c.in_ok-numbers_of.ensures.numbers),
      subst (λ s. IsNumber new c.in_ok-number_of.field-0 s)
          (c.given.ensures ∙ ap (λ (q : Declaration). q.result) (sym same)) c.in_ok-number_of.ensures.number,
    ) in
    let below : b < length buckets = omega (arith, c.bucket_of-bucket.ensures.bound, inv.buckets) in
    let name : c.name.result.now ≡ form.declaration.name = c.name.ensures
    ∙ ap (λ (q : Declaration). q.name) (sym same) in
    let arguments : c.arguments-2.result.now ≡ form.declaration.arguments = c.arguments-2.ensures
    ∙ ap (λ (q : Declaration). q.arguments) (sym same) in
    let is : b ≡ bucket_of form.declaration.name (length form.declaration.arguments) =
    c.bucket_of-bucket.ensures.value ∙ (λ i. bucket_of (name i) (length (arguments i))) in
    let injections : c.number_of.new.self.injections ≡ c.self.inside.table.injections =
    c.in_ok-number_of.ensures.kept.injections ∙ c.in_ok-numbers_of.ensures.kept.injections in
    let alone =
    subst (λ (l : List Form). AreSame (declarations_in l) d) c.deref.ensures.value c.if-has_other.ensures.none in
    record {
      forms = subst (λ (l : List Form). (k : ℕ) (f : Form) → slice_get l k ≡ Some f → IsForm new f)
          (sym c.in_ok-push-2.ensures.items) (forms_more old new forms form keep right inv.forms);
      listed = subst (λ (l : List Form). AreListed l (set buckets b c.push.new.self)) (sym c.in_ok-push-2.ensures.items)
          (listed_more forms buckets form c.index_mut.result.now c.push.new.self b below is
          (slice_get_read buckets (length buckets) b c.index_mut.result.now refl below c.index_mut.ensures.value)
          (c.in_ok-push.ensures.items ∙ ap (λ (n : ℕ). c.index_mut.result.now.items ++ n ∷ [])
          (c.len.ensures ∙ c.self.inside.forms.ok.0)) inv.listed);
      buckets = length-set buckets b c.push.new.self ∙ inv.buckets;
      agreed = (
        subst (λ (l : List Form). AreDeclaredOnce (declarations_in l)) (sym c.in_ok-push-2.ensures.items)
            (subst (λ (l : List Declaration). AreDeclaredOnce l)
            (ap (λ (q : Declaration). declarations_in forms ++ q ∷ []) (sym same) ∙ sym (declarations_push forms form))
            (still_once (declarations_in forms) d inv.agreed.0 alone)),
        subst (λ (l : List Injection). TakeNoneAlike l) (sym injections) inv.agreed.1,
      );
      integers = keep c.self.inside.integers _ inv.integers;
      strings = keep c.self.inside.strings _ inv.strings;
    }
