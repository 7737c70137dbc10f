use Rattle.std.proofs.Common.{◌↔◌, ◌+◌, ◌<◌, ℕ, Bool, IsTrue, List, length, get_or, Some, None, refl, sym, ap, ◌∙◌, subst, arith}
use Rattle.std.specs.declared.option.Option.{Option}
use Rattle.std.proofs.lemmas.Slice.Zip.{AllZip-long}
use Rattle.term_core.specs.Tree.{Tree, branch, application, list, tuple, of_list, annotations}
use Rattle.term_core.proofs.TreeLemmas.{heights-take_more, heights-take, to_list-of_list}
use Rattle.term_sorts.specs.Sorts.{Sort, int_sort, Conforms, AllConform, HasSort}
use Rattle.term_sorts.specs.Signatures.{Signature, wanted_sort}
use Rattle.term_sorts.specs.declared.wanted.Wanted.{Wanted}
use Rattle.term_sorts.specs.declared.taking.Parts.{Parts}
use Rattle.term_sorts.specs.declared.taking.Parts.TheVariants.{Refused, Any, Of}
use Rattle.std.specs.List.{slice_get}
use Rattle.std.specs.Option.{option_and_then}
use Rattle.term_sorts.specs.inside.Tables.{IsNumber, AreNumbers}
use Rattle.term_sorts.specs.inside.Wanting.{Allows, ElementsAre, PartsWanted, IsTakenString}
use Rattle.term_sorts.proofs.ConformLemmas.{int_conforms, list_conforms, list_refused, tuple_any, tuple_of, tuple_refused, string_conforms, application_refused, application_conforms, both_on, number_at, each_parts, each_whole, each_end, sorts_long}
use Rattle.term_sorts.proofs.signature.Signature.+conforms.Goals as goal

-- what a table's answer says of the signature
abbrev Takes : Bool → ℕ → Wanted → Signature → Type 0
Takes answer n w s = (r : Sort) → IsNumber s.sorts n r
    → IsTrue answer ↔ Allows s.declared.injections (wanted_sort s.sorts w) r

pub all_conform-conforms-requires : goal.all_conform-conforms-requires
all_conform-conforms-requires t c =
    let all = c.args.terms.now in
    let i = c.loop-term.term-index in (
      omega (
        arith,
        heights-take_more all i c.term-item.result c.loop-term-test.true c.term-item.is,
        heights-take all (i + 1),
        c.decreases,
      ),
      tt,
    )

pub each_conforms-conforms-requires : goal.each_conforms-conforms-requires
each_conforms-conforms-requires t c =
    let all = c.args.terms.now in
    let i = c.loop-i.i in (
      omega (
        arith,
        heights-take_more all i c.index-terms-i.result c.loop-i-test.true c.index-terms-i.is,
        heights-take all (i + 1),
        c.decreases,
      ),
      tt,
    )

pub application_conforms-returns-then-takes_string : goal.application_conforms-returns-then-takes_string
application_conforms-returns-then-takes_string t c = λ notes.
    let s = c.args.self.now in (
      λ h. string_conforms s.declared (wanted_sort s.sorts c.args.wanted) c.args.name.now c.args.arguments.now notes
          (c.takes_string.ensures.0 c.if-takes_string.true),
      λ h. refl,
    )

pub application_conforms-returns-in_default : goal.application_conforms-returns-in_default
application_conforms-returns-in_default t c = λ notes.
    let s = c.args.self.now in
    let w = wanted_sort s.sorts c.args.wanted in
    let f = c.args.name.now in
    let us = c.args.arguments.now in
    let apart : IsTakenString s.declared.injections w f us → ⊥ = λ x. let yes = c.takes_string.ensures.1 x in
    let not = c.if-takes_string.false in cc in (
      λ h. absurd (cc),
      λ h. absurd (application_refused s.declared w f us notes apart c.in_default.ensures.none h),
    )

pub application_conforms-returns-then-not-takes : goal.application_conforms-returns-then-not-takes
application_conforms-returns-then-not-takes t c = λ notes.
    let s = c.args.self.now in
    let w = wanted_sort s.sorts c.args.wanted in
    let f = c.args.name.now in
    let us = c.args.arguments.now in
    let form = c.in-Some.form.now in
    let d = form.declaration in
    let e = c.in-Some.ensures in
    let apart : IsTakenString s.declared.injections w f us → ⊥ = λ x. let yes = c.takes_string.ensures.1 x in
    let not = c.if-takes_string.false in cc in
    let says = subst (Takes c.takes.result form.given c.args.wanted) c.self.view_is c.takes.ensures d.result e.form.1
    in (
      λ h. absurd (cc),
      λ h. sym c.if-not-takes.true ∙ says.1
          ((application_conforms s.declared e.agreed.0 f us notes d e.declared e.head.0 e.head.1 w apart).1 h).0,
    )

pub application_conforms-returns : goal.application_conforms-returns
application_conforms-returns t c = λ notes.
    let s = c.args.self.now in
    let w = wanted_sort s.sorts c.args.wanted in
    let f = c.args.name.now in
    let us = c.args.arguments.now in
    let form = c.in-Some.form.now in
    let d = form.declaration in
    let e = c.in-Some.ensures in
    let apart : IsTakenString s.declared.injections w f us → ⊥ = λ x. let yes = c.takes_string.ensures.1 x in
    let not = c.if-takes_string.false in cc in
    let says = subst (Takes c.takes.result form.given c.args.wanted) c.self.view_is c.takes.ensures d.result e.form.1 in
    let is = application_conforms s.declared e.agreed.0 f us notes d e.declared e.head.0 e.head.1 w apart in
    let each = c.each_conforms.ensures d.arguments
    (subst (λ (l : List ℕ). AreNumbers s.sorts l d.arguments) (sym c.deref.ensures.value) e.form.0) in (
      λ h. is.0 (says.0 c.if-not-takes.false, each.0 h),
      λ h. each.1 (is.1 h).1,
    )

pub conforms-returns-in-Integer : goal.conforms-returns-in-Integer
conforms-returns-in-Integer t c =
    let s = c.args.self.now in
    let w = wanted_sort s.sorts c.args.wanted in
    let says = subst (Takes c.takes.result c.self.inside.integers c.args.wanted) c.self.view_is c.takes.ensures int_sort
    (subst (λ (x : Signature). IsNumber x.sorts c.self.inside.integers int_sort) c.self.view_is
    c.self.invariant.integers) in
    subst (λ (x : Tree). IsTrue c.takes.result ↔ Conforms s.declared w x) (sym c.in-Integer.ensures)
    (both_on says (int_conforms s.declared w c.in-Integer.field-0 (of_list (annotations c.args.term.now))))

pub conforms-returns-in-List : goal.conforms-returns-in-List
conforms-returns-in-List t c =
    let s = c.args.self.now in
    let w = wanted_sort s.sorts c.args.wanted in
    let notes = of_list (annotations c.args.term.now) in
    subst (λ (x : Tree). IsTrue c.list_conforms.result ↔ Conforms s.declared w x) (sym c.in-List.ensures)
    (subst (λ (us : List Tree). IsTrue c.list_conforms.result ↔ Conforms s.declared w (branch list (of_list us) notes))
    c.children-children.ensures (c.list_conforms.ensures notes))

pub conforms-returns-in-Tuple : goal.conforms-returns-in-Tuple
conforms-returns-in-Tuple t c =
    let s = c.args.self.now in
    let w = wanted_sort s.sorts c.args.wanted in
    let notes = of_list (annotations c.args.term.now) in
    subst (λ (x : Tree). IsTrue c.tuple_conforms.result ↔ Conforms s.declared w x) (sym c.in-Tuple.ensures)
    (subst (λ (us : List Tree). IsTrue c.tuple_conforms.result ↔ Conforms s.declared w
    (branch tuple (of_list us) notes)) c.children-children.ensures (c.tuple_conforms.ensures notes))

pub conforms-returns-in-Application : goal.conforms-returns-in-Application
conforms-returns-in-Application t c =
    let s = c.args.self.now in
    let w = wanted_sort s.sorts c.args.wanted in
    let f = c.in-Application.name.now in
    let notes = of_list (annotations c.args.term.now) in
    subst (λ (x : Tree). IsTrue c.application_conforms.result ↔ Conforms s.declared w x) (sym c.in-Application.ensures)
    (subst (λ (us : List Tree). IsTrue c.application_conforms.result ↔ Conforms s.declared w
    (branch (application f) (of_list us) notes)) c.children-children.ensures
    (c.application_conforms.ensures notes))

pub each_conforms-returns-then-terms-numbers : goal.each_conforms-returns-then-terms-numbers
each_conforms-returns-then-terms-numbers t c = λ ss are.
    let s = c.args.self.now in (
      λ h. absurd (cc),
      λ h. absurd (c.if-terms-numbers.true (ap length (sym (to_list-of_list c.args.terms.now))
          ∙ sym (sorts_long s.declared ss (of_list c.args.terms.now) h)
          ∙ AllZip-long (IsNumber s.sorts) c.args.numbers.now ss are)),
    )

pub each_conforms-returns-then-not-conforms : goal.each_conforms-returns-then-not-conforms
each_conforms-returns-then-not-conforms t c = λ ss are.
    let s = c.args.self.now in
    let ts = c.args.terms.now in
    let ns = c.args.numbers.now in
    let i = c.loop-i.i in
    let x = c.index-terms-i.result in
    let long = AllZip-long (IsNumber s.sorts) ns ss are in
    let in_sorts : i < length ss = omega (arith, long, c.if-terms-numbers.false, c.loop-i-test.true) in
    let number = number_at s.sorts ns ss i int_sort are (omega (arith, c.if-terms-numbers.false, c.loop-i-test.true))
    in (
      λ h. absurd (cc),
      λ h.
          let parts =
          each_parts s.declared ss ts i int_sort x in_sorts c.loop-i-test.true ((c.loop-i.invariant ss are).0 h) in
          let has =
          subst (λ (y : Tree). HasSort s.declared (get_or ss i int_sort) y) (sym c.index-terms-i.is) parts.0 in
          sym c.if-not-conforms.true
          ∙ c.conforms.ensures.1 (subst (λ (o : Option Sort). Conforms s.declared o x) (sym number) has),
    )

pub each_conforms-loop-i-preserved : goal.each_conforms-loop-i-preserved
each_conforms-loop-i-preserved t c = λ ss are.
    let s = c.args.self.now in
    let ts = c.args.terms.now in
    let ns = c.args.numbers.now in
    let i = c.loop-i.i in
    let x = c.index-terms-i.result in
    let long = AllZip-long (IsNumber s.sorts) ns ss are in
    let in_sorts : i < length ss = omega (arith, long, c.if-terms-numbers.false, c.loop-i-test.true) in
    let number = number_at s.sorts ns ss i int_sort are (omega (arith, c.if-terms-numbers.false, c.loop-i-test.true)) in
    let has = subst (λ (y : Tree). HasSort s.declared (get_or ss i int_sort) y) c.index-terms-i.is
    (subst (λ (o : Option Sort). Conforms s.declared o x) number (c.conforms.ensures.0 c.if-not-conforms.false)) in (
      λ h. (each_parts s.declared ss ts i int_sort x in_sorts c.loop-i-test.true ((c.loop-i.invariant ss are).0 h)).1,
      λ h. (c.loop-i.invariant ss are).1 (each_whole s.declared ss ts i int_sort x in_sorts c.loop-i-test.true has h),
    )

pub each_conforms-returns : goal.each_conforms-returns
each_conforms-returns t c = λ ss are.
    let s = c.args.self.now in
    let long = AllZip-long (IsNumber s.sorts) c.args.numbers.now ss are in (
      λ h. (c.loop-i.invariant ss are).1 (each_end s.declared ss c.args.terms.now c.loop-i.i
          (omega (arith, long, c.if-terms-numbers.false, c.loop-i-test.false)) c.loop-i-test.false),
      λ h. refl,
    )

pub list_conforms-returns-in_default : goal.list_conforms-returns-in_default
list_conforms-returns-in_default t c = λ notes.
    let s = c.args.self.now in
    let w = wanted_sort s.sorts c.args.wanted in
    let none =
    subst (λ (x : Signature). ElementsAre x.declared.injections x.sorts (wanted_sort x.sorts c.args.wanted) None)
    c.self.view_is c.in_default.ensures in (
      λ h. absurd (cc),
      λ h. absurd (list_refused s.declared s.sorts w (of_list c.args.elements.now) notes none h),
    )

pub list_conforms-returns : goal.list_conforms-returns
list_conforms-returns t c = λ notes.
    let s = c.args.self.now in
    let w = wanted_sort s.sorts c.args.wanted in
    let found = c.in-Some.element in
    let some = subst
    (λ (x : Signature). ElementsAre x.declared.injections x.sorts (wanted_sort x.sorts c.args.wanted) (Some found))
    c.self.view_is c.in-Some.ensures in
    both_on c.all_conform.ensures (list_conforms s.declared s.sorts w found (of_list c.args.elements.now) notes some)

-- the same of its parts
abbrev WantsParts : Wanted → ℕ → Parts → Signature → Type 0
WantsParts w count parts s = PartsWanted s.declared.injections s.sorts (wanted_sort s.sorts w) count parts

pub tuple_conforms-returns-in-Any : goal.tuple_conforms-returns-in-Any
tuple_conforms-returns-in-Any t c = λ notes.
    let s = c.args.self.now in
    let us = c.args.terms.now in
    let any = subst (WantsParts c.args.wanted (length us) Any) c.self.view_is c.in-Any.ensures in
    let all = subst (λ (o : Option ℕ). IsTrue c.all_conform.result ↔ AllConform s.declared
    (option_and_then (λ n. slice_get s.sorts n) o) (of_list us)) c.anything.ensures c.all_conform.ensures in
    both_on all (tuple_any s.declared s.sorts (wanted_sort s.sorts c.args.wanted) (length us) (of_list us) notes any)

pub tuple_conforms-returns-in-Of : goal.tuple_conforms-returns-in-Of
tuple_conforms-returns-in-Of t c = λ notes.
    let s = c.args.self.now in
    let us = c.args.terms.now in
    let of = subst (WantsParts c.args.wanted (length us) (Of c.in-Of.numbers)) c.self.view_is c.in-Of.ensures in
    tuple_of s.declared s.sorts (wanted_sort s.sorts c.args.wanted) (length us) c.in-Of.numbers (of_list us) notes
    (ap length (to_list-of_list us)) of c.each_conforms.result
    c.each_conforms.ensures

pub tuple_conforms-returns-in-Refused : goal.tuple_conforms-returns-in-Refused
tuple_conforms-returns-in-Refused t c = λ notes.
    let s = c.args.self.now in
    let us = c.args.terms.now in
    let refused = subst (WantsParts c.args.wanted (length us) Refused) c.self.view_is c.in-Refused.ensures in (
      λ h. absurd (cc),
      λ h. absurd (tuple_refused s.declared s.sorts (wanted_sort s.sorts c.args.wanted) (length us) (of_list us) notes
          (ap length (to_list-of_list us)) refused h),
    )
