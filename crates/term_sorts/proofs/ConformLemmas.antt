-- Which terms are what a place wants, by their roots.
use Rattle.std.proofs.Common.{◌≡◌, ◌↔◌, inl, inr, ℕ, zero, suc, ◌+◌, ◌<◌, ◌≤◌, Bool, IsTrue, List, [], ◌∷◌, length, drop, get_or, Some, None, refl, sym, ap, ◌∙◌, subst, arith}
use Rattle.std.specs.declared.option.Option.{Option}
use Rattle.std.specs.List.{Contains, slice_get}
use Rattle.std.proofs.lemmas.List.{drop_more, drop_all}
use Rattle.term_core.specs.Tree.{Symbol, application, list, tuple, Tree, Trees, integer, branch, none, more, to_list, of_list}
use Rattle.term_core.proofs.TreeLemmas.{to_list-of_list}
use Rattle.term_sorts.specs.Sorts.{Sort, Declaration, Declared, int_sort, str_sort, list_sort, tuple_sort, Takes, HasSort, HaveSorts, AllConform, Conforms, IsWellSorted, AreDeclaredOnce, WantsInside}
use Rattle.std.specs.Borrow.{Bor}
use Rattle.std.proofs.Common.{ℤ}
use Rattle.std.specs.Option.{option_and_then}
use Rattle.term_sorts.specs.Signatures.{wanted_sort}
use Rattle.term_sorts.specs.inside.Tables.{IsNumber, AreNumbers}
use Rattle.term_sorts.specs.inside.Wanting.{Allows, ElementsAre, PartsWanted, IsTakenString}
use Rattle.term_sorts.specs.declared.wanted.Wanted.{Wanted}
use Rattle.term_sorts.specs.declared.taking.Parts.TheVariants.{Refused, Any as AnyParts, Of}
use Rattle.term_sorts.proofs.TakesLemmas.{takes_itself}

-- ---- as many sorts as terms

pub sorts_long : (D : Declared) (ss : List Sort) (ts : Trees) → HaveSorts D ss ts → length ss ≡ length (to_list ts)
sorts_long D [] none h = refl
sorts_long D [] (more t ts) h = absurd h
sorts_long D (s ∷ ss) none h = absurd h
sorts_long D (s ∷ ss) (more t ts) h = ap suc (sorts_long D ss ts h.1)

-- ---- terms of any sort

-- terms of one sort are of some
pub conform_any : (D : Declared) (wanted : Option Sort) (ts : Trees) → AllConform D wanted ts → AllConform D None ts
conform_any D wanted none h = tt
conform_any D None (more t ts) h = (h.0, conform_any D None ts h.1)
conform_any D (Some s) (more t ts) h = ((s, h.0), conform_any D (Some s) ts h.1)

pub sorts_any : (D : Declared) (ss : List Sort) (ts : Trees) → HaveSorts D ss ts → AllConform D None ts
sorts_any D [] none h = tt
sorts_any D [] (more t ts) h = absurd h
sorts_any D (s ∷ ss) none h = absurd h
sorts_any D (s ∷ ss) (more t ts) h = ((s, h.0), sorts_any D ss ts h.1)

-- terms of some sorts each
pub any_sorts : (D : Declared) (ts : Trees) → AllConform D None ts → (ss : List Sort) × HaveSorts D ss ts
any_sorts D none h = ([], tt)
any_sorts D (more t ts) h = let rest = any_sorts D ts h.1 in (h.0.0 ∷ rest.0, (h.0.1, rest.1))

pub any_list : (D : Declared) (kids notes : Trees) → IsWellSorted D (branch list kids notes) ↔ AllConform D None kids
any_list D kids notes = (
  λ h. conform_any D h.1.0 kids h.1.2,
  λ h. (list_sort None, (None, takes_itself D.injections (list_sort None), h)),
)

pub any_tuple : (D : Declared) (kids notes : Trees) → IsWellSorted D (branch tuple kids notes) ↔ AllConform D None kids
any_tuple D kids notes = (
  λ h. sorts_any D h.1.0 kids h.1.2,
  λ h. let ss = any_sorts D kids h in (tuple_sort ss.0, (ss.0, takes_itself D.injections (tuple_sort ss.0), ss.1)),
)

-- ---- what a place takes, by what its table answers

pub int_conforms : (D : Declared) (wanted : Option Sort) (z : ℤ) (notes : Trees)
    → Allows D.injections wanted int_sort ↔ Conforms D wanted (integer z notes)
int_conforms D None z notes = (λ h. (int_sort, takes_itself D.injections int_sort), λ h. tt)
int_conforms D (Some s) z notes = (λ h. h, λ h. h)

pub list_conforms : (D : Declared) (sorts : List Sort) (wanted : Option Sort) (found : Wanted) (kids notes : Trees)
    → ElementsAre D.injections sorts wanted (Some found)
    → AllConform D (wanted_sort sorts found) kids ↔ Conforms D wanted (branch list kids notes)
list_conforms D sorts None found kids notes e = (
  λ h. (any_list D kids notes).1 (subst (λ (o : Option Sort). AllConform D o kids) e h),
  λ h. subst (λ (o : Option Sort). AllConform D o kids) (sym e) ((any_list D kids notes).0 h),
)
list_conforms D sorts (Some s) found kids notes e = (
  λ h. (wanted_sort sorts found, (e (wanted_sort sorts found)).1 refl, h),
  λ h. subst (λ (o : Option Sort). AllConform D o kids) ((e h.0).0 h.1) h.2,
)

pub list_refused : (D : Declared) (sorts : List Sort) (wanted : Option Sort) (kids notes : Trees)
    → ElementsAre D.injections sorts wanted None → Conforms D wanted (branch list kids notes) → ⊥
list_refused D sorts None kids notes e h = e
list_refused D sorts (Some s) kids notes e h = e h.0 h.1

pub tuple_any : (D : Declared) (sorts : List Sort) (wanted : Option Sort) (count : ℕ) (kids notes : Trees)
    → PartsWanted D.injections sorts wanted count AnyParts
    → AllConform D None kids ↔ Conforms D wanted (branch tuple kids notes)
tuple_any D sorts None count kids notes e = ((any_tuple D kids notes).1, (any_tuple D kids notes).0)
tuple_any D sorts (Some s) count kids notes e = absurd e

pub tuple_of : (D : Declared) (sorts : List Sort) (wanted : Option Sort) (count : ℕ) (numbers : Bor (List ℕ))
    (kids notes : Trees) → length (to_list kids) ≡ count
    → PartsWanted D.injections sorts wanted count (Of numbers)
    → (answer : Bool) → ((ss : List Sort) → AreNumbers sorts numbers.now ss → IsTrue answer ↔ HaveSorts D ss kids)
    → IsTrue answer ↔ Conforms D wanted (branch tuple kids notes)
tuple_of D sorts None count numbers kids notes l e answer says = absurd e
tuple_of D sorts (Some s) count numbers kids notes l e answer says = (
  λ h. (e.0, (e.3 e.0 e.2).1 refl, (says e.0 e.1).0 h),
  λ h. (says e.0 e.1).1
      (subst (λ (ss : List Sort). HaveSorts D ss kids) ((e.3 h.0 (sorts_long D h.0 kids h.2 ∙ l)).0 h.1) h.2),
)

pub tuple_refused : (D : Declared) (sorts : List Sort) (wanted : Option Sort) (count : ℕ) (kids notes : Trees)
    → length (to_list kids) ≡ count
    → PartsWanted D.injections sorts wanted count Refused → Conforms D wanted (branch tuple kids notes) → ⊥
tuple_refused D sorts None count kids notes l e h = e
tuple_refused D sorts (Some s) count kids notes l e h = e h.0 (sorts_long D h.0 kids h.2 ∙ l) h.1

-- ---- applications

no_kids : (kids : Trees) → kids ≡ none → to_list kids ≡ []
no_kids kids e = ap to_list e

pub string_conforms : (D : Declared) (wanted : Option Sort) (f : Symbol) (us : List Tree) (notes : Trees)
    → IsTakenString D.injections wanted f us → Conforms D wanted (branch (application f) (of_list us) notes)
string_conforms D None f us notes h = (str_sort, inl (h.0, ap of_list h.1, takes_itself D.injections str_sort))
string_conforms D (Some s) f us notes h = inl (h.0, ap of_list h.1, h.2)

-- a declaration by which the application is of a sort
abbrev Shows : Declared → Sort → Symbol → Trees → Declaration → Type 0
Shows D s f kids d =
    Contains D.constructors d × (d.name ≡ f) × Takes D.injections s d.result × HaveSorts D d.arguments kids

shown : (D : Declared) (s : Sort) (f : Symbol) (us : List Tree) (notes : Trees)
    → (IsTakenString D.injections (Some s) f us → ⊥)
    → HasSort D s (branch (application f) (of_list us) notes) → (d : Declaration) × Shows D s f (of_list us) d
shown D s f us notes apart h =
    elim h as (λ _. (d : Declaration) × Shows D s f (of_list us) d) [
      | inl a ↦ absurd (apart (a.0, sym (to_list-of_list us) ∙ ap to_list a.1, a.2))
      | inr b ↦ (b.1, ((b.0, b.2, b.3), b.4.0, b.4.1, b.4.2))
    ]

pub application_refused : (D : Declared) (wanted : Option Sort) (f : Symbol) (us : List Tree) (notes : Trees)
    → (IsTakenString D.injections wanted f us → ⊥)
    → ((d : Declaration) → Contains D.constructors d → (length d.arguments ≡ length us) × (d.name ≡ f) → ⊥)
    → Conforms D wanted (branch (application f) (of_list us) notes) → ⊥
application_refused D None f us notes apart undeclared h =
    let d = shown D h.0 f us notes (λ x. apart (x.0, x.1, tt)) h.1 in
    undeclared d.0 d.1.0 (sorts_long D d.0.arguments (of_list us) d.1.3 ∙ ap length (to_list-of_list us), d.1.1)
application_refused D (Some s) f us notes apart undeclared h =
    let d = shown D s f us notes apart h in
    undeclared d.0 d.1.0 (sorts_long D d.0.arguments (of_list us) d.1.3 ∙ ap length (to_list-of_list us), d.1.1)

module _ (D : Declared) (once : AreDeclaredOnce D.constructors) (f : Symbol) (us : List Tree) (notes : Trees)
    (d : Declaration)
    (declared : Contains D.constructors d) (long : length d.arguments ≡ length us) (is : d.name ≡ f) where
  shows_one : (s : Sort) (c : Declaration) → Shows D s f (of_list us) c → c ≡ d
  shows_one s c h =
      once c d h.0 declared (h.1 ∙ sym is)
      (sorts_long D c.arguments (of_list us) h.3 ∙ ap length (to_list-of_list us) ∙ sym long)

  of_shown : (s : Sort) → Takes D.injections s d.result → HaveSorts D d.arguments (of_list us)
      → HasSort D s (branch (application f) (of_list us) notes)
  of_shown s t h = inr (declared.0, d, declared.1, declared.2, (is, t, h))

  pub application_conforms : (wanted : Option Sort) → (IsTakenString D.injections wanted f us → ⊥)
      → (Allows D.injections wanted d.result × HaveSorts D d.arguments (of_list us)) ↔ Conforms D wanted
      (branch (application f) (of_list us) notes)
  application_conforms None apart = (
    λ h. (d.result, of_shown d.result (takes_itself D.injections d.result) h.1),
    λ h. let c = shown D h.0 f us notes (λ x. apart (x.0, x.1, tt)) h.1 in
        (tt, subst (λ (q : Declaration). HaveSorts D q.arguments (of_list us)) (shows_one h.0 c.0 c.1) c.1.3),
  )
  application_conforms (Some s) apart = (
    λ h. of_shown s h.0 h.1,
    λ h. let c = shown D s f us notes apart h in
        let same = shows_one s c.0 c.1 in (
          subst (λ (q : Declaration). Takes D.injections s q.result) same c.1.2,
          subst (λ (q : Declaration). HaveSorts D q.arguments (of_list us)) same c.1.3,
        ),
  )

-- ---- one more of the terms

pub both_on : {A B C : Type 0} → A ↔ B → B ↔ C → A ↔ C
both_on f g = (λ a. g.0 (f.0 a), λ c. f.1 (g.1 c))

pub number_at : (sorts : List Sort) (ns : List ℕ) (ss : List Sort) (i : ℕ) (s : Sort) → AreNumbers sorts ns ss
    → i < length ns
    → IsNumber sorts (get_or ns i 0) (get_or ss i s)
number_at sorts [] ss i s h below = absurd (omega arith)
number_at sorts (n ∷ ns) [] i s h below = absurd h
number_at sorts (n ∷ ns) (q ∷ ss) zero s h below = h.0
number_at sorts (n ∷ ns) (q ∷ ss) (suc i) s h below = number_at sorts ns ss i s h.1 (omega arith)

module _ (D : Declared) (ss : List Sort) (ts : List Tree) (i : ℕ) (s : Sort) (t : Tree) (in_sorts : i < length ss)
    (in_terms : i < length ts) where
  pub each_parts : HaveSorts D (drop i ss) (of_list (drop i ts))
      → HasSort D (get_or ss i s) (get_or ts i t) × HaveSorts D (drop (i + 1) ss) (of_list (drop (i + 1) ts))
  each_parts h =
      subst (λ (l : List Tree). HaveSorts D (get_or ss i s ∷ drop (i + 1) ss) (of_list l)) (drop_more ts i t in_terms)
      (subst (λ (l : List Sort). HaveSorts D l (of_list (drop i ts))) (drop_more ss i s in_sorts) h)

  pub each_whole : HasSort D (get_or ss i s) (get_or ts i t) → HaveSorts D (drop (i + 1) ss) (of_list (drop (i + 1) ts))
      → HaveSorts D (drop i ss) (of_list (drop i ts))
  each_whole h rest =
      subst (λ (l : List Sort). HaveSorts D l (of_list (drop i ts))) (sym (drop_more ss i s in_sorts))
      (subst (λ (l : List Tree). HaveSorts D (get_or ss i s ∷ drop (i + 1) ss) (of_list l))
      (sym (drop_more ts i t in_terms)) (h, rest))

pub each_end : (D : Declared) (ss : List Sort) (ts : List Tree) (i : ℕ)
    → length ss ≤ i → length ts ≤ i → HaveSorts D (drop i ss) (of_list (drop i ts))
each_end D ss ts i a b =
    subst (λ (l : List Sort). HaveSorts D l (of_list (drop i ts))) (sym (drop_all i ss a))
    (subst (λ (l : List Tree). HaveSorts D [] (of_list l)) (sym (drop_all i ts b)) tt)

-- ---- what a child wants

pub list_wants : (D : Declared) (sorts : List Sort) (wanted : Option Sort) (found : Wanted) (kids notes : Trees) (i : ℕ)
    (inside : Option Sort)
    → ElementsAre D.injections sorts wanted (Some found) → WantsInside D wanted (branch list kids notes) i inside
    → wanted_sort sorts found ≡ inside
list_wants D sorts None found kids notes i inside e h = e ∙ sym h
list_wants D sorts (Some s) found kids notes i inside e h = sym ((e inside).0 h)

pub list_wants_none : (D : Declared) (sorts : List Sort) (wanted : Option Sort) (kids notes : Trees) (i : ℕ)
    (inside : Option Sort)
    → ElementsAre D.injections sorts wanted None → WantsInside D wanted (branch list kids notes) i inside → ⊥
list_wants_none D sorts None kids notes i inside e h = e
list_wants_none D sorts (Some s) kids notes i inside e h = e inside h

sort_numbered : (sorts : List Sort) (ns : List ℕ) (ss : List Sort) (i : ℕ) → AreNumbers sorts ns ss
    → option_and_then (λ n. slice_get sorts n) (slice_get ns i) ≡ slice_get ss i
sort_numbered sorts [] [] i h = refl
sort_numbered sorts [] (s ∷ ss) i h = absurd h
sort_numbered sorts (n ∷ ns) [] i h = absurd h
sort_numbered sorts (n ∷ ns) (s ∷ ss) zero h = h.0
sort_numbered sorts (n ∷ ns) (s ∷ ss) (suc i) h = sort_numbered sorts ns ss i h.1

pub wanted_numbered : (sorts : List Sort) (ns : List ℕ) (ss : List Sort) (i : ℕ) (w : Wanted) → AreNumbers sorts ns ss
    → w.number ≡ slice_get ns i
    → wanted_sort sorts w ≡ slice_get ss i
wanted_numbered sorts ns ss i w h e = ap (λ (o : Option ℕ). option_and_then (λ n. slice_get sorts n) o) e
    ∙ sort_numbered sorts ns ss i h

pub tuple_wants : (D : Declared) (sorts : List Sort) (wanted : Option Sort) (count : ℕ) (numbers : Bor (List ℕ))
    (kids notes : Trees) (i : ℕ) (inside : Option Sort) (w : Wanted)
    → length (to_list kids) ≡ count → PartsWanted D.injections sorts wanted count (Of numbers)
    → w.number ≡ slice_get numbers.now i
    → WantsInside D wanted (branch tuple kids notes) i inside → wanted_sort sorts w ≡ inside
tuple_wants D sorts None count numbers kids notes i inside w l e n h = absurd e
tuple_wants D sorts (Some s) count numbers kids notes i inside w l e n h =
    let same = (e.3 h.0 (h.2 ∙ l)).0 h.1 in
    wanted_numbered sorts numbers.now e.0 i w e.1 n ∙ ap (λ (ss : List Sort). slice_get ss i) (sym same) ∙ sym h.3

pub application_wants : (D : Declared) (once : AreDeclaredOnce D.constructors) (sorts : List Sort)
    (wanted : Option Sort) (f : Symbol) (kids notes : Trees) (i : ℕ) (inside : Option Sort)
    (d : Declaration) (declared : Contains D.constructors d) (long : length d.arguments ≡ length (to_list kids))
    (is : d.name ≡ f) (numbers : List ℕ) (w : Wanted)
    → AreNumbers sorts numbers d.arguments → w.number ≡ slice_get numbers i
    → WantsInside D wanted (branch (application f) kids notes) i inside → wanted_sort sorts w ≡ inside
application_wants D once sorts wanted f kids notes i inside d declared long is numbers w are n h =
    let same = once h.1 d (h.0, h.2, h.3) declared (h.4.0 ∙ sym is) (h.4.1 ∙ sym long) in
    wanted_numbered sorts numbers d.arguments i w are n ∙ ap (λ (q : Declaration). slice_get q.arguments i) (sym same)
    ∙ sym h.4.2
