-- Laws of sorts.
use Rattle.std.proofs.Common.{◌≡◌, ◌↔◌, inl, inr, ℕ, zero, suc, List, [], ◌∷◌, length, set, Some, None, refl, sym, ap, ◌∙◌, subst, arith}
use Rattle.std.specs.declared.option.Option.{Option}
use Rattle.std.specs.Option.{IsSome, option_and_then, option_map_or}
use Rattle.std.specs.List.{Contains, slice_get}
use Rattle.std.proofs.lemmas.List.{length-set}
use Rattle.std.proofs.lemmas.Option.{slice_get_within}
use Rattle.term_core.specs.Tree.{Symbol, application, list, tuple, Tree, Trees, integer, branch, none, more, to_list, of_list, children, with_child}
use Rattle.term_core.proofs.TreeLemmas.{to_list-of_list, of_list-to_list}
use Rattle.term_paths.specs.Paths.{at, set_at}
use Rattle.term_sorts.specs.Sorts.{Sort, Declaration, Injection, Declared, list_sort, tuple_sort, Takes, HasSort, HaveSorts, AllConform, Conforms, AreAgreed, WantsInside, WantsAt}
use Rattle.term_sorts.specs.Laws.{FreeListsAndTuples, ReplacedPlacesDecide, MoreDeclareNoLess}
use Rattle.term_sorts.specs.inside.Wanting.{IsTakenString}
use Rattle.term_sorts.proofs.TakesLemmas.{takes_more}
use Rattle.term_sorts.proofs.FormLemmas.{same_element, same_parts}
use Rattle.term_sorts.proofs.ConformLemmas.{any_list, any_tuple, sorts_long, application_conforms}

pub free_lists_and_tuples : FreeListsAndTuples
free_lists_and_tuples D kids notes = (any_list D kids notes, any_tuple D kids notes)

-- ---- more declarations

module _ (D E : Declared) (constructors : (d : Declaration) → Contains D.constructors d → Contains E.constructors d)
    (injections : (i : Injection) → Contains D.injections i → Contains E.injections i) where
  takes : (s r : Sort) → Takes D.injections s r → Takes E.injections s r
  takes s r t = takes_more D.injections E.injections injections s r t

  mutual
    has_more : (s : Sort) (t : Tree) → HasSort D s t → HasSort E s t
    has_more s (integer z notes) h = takes s _ h
    has_more s (branch (application f) kids notes) h =
        elim h as (λ _. HasSort E s (branch (application f) kids notes)) [
          | inl a ↦ inl (a.0, a.1, takes s _ a.2)
          | inr b ↦ let c = constructors b.1 (b.0, b.2, b.3) in
              inr (c.0, b.1, c.1, c.2, (b.4.0, takes s _ b.4.1, have_more b.1.arguments kids b.4.2))
        ]
    has_more s (branch list kids notes) h = (h.0, takes s _ h.1, all_more h.0 kids h.2)
    has_more s (branch tuple kids notes) h = (h.0, takes s _ h.1, have_more h.0 kids h.2)

    have_more : (ss : List Sort) (ts : Trees) → HaveSorts D ss ts → HaveSorts E ss ts
    have_more [] none h = tt
    have_more [] (more t ts) h = absurd h
    have_more (s ∷ ss) none h = absurd h
    have_more (s ∷ ss) (more t ts) h = (has_more s t h.0, have_more ss ts h.1)

    all_more : (wanted : Option Sort) (ts : Trees) → AllConform D wanted ts → AllConform E wanted ts
    all_more wanted none h = tt
    all_more None (more t ts) h = ((h.0.0, has_more h.0.0 t h.0.1), all_more None ts h.1)
    all_more (Some s) (more t ts) h = (has_more s t h.0, all_more (Some s) ts h.1)

  conforms_more : (wanted : Option Sort) (t : Tree) → Conforms D wanted t → Conforms E wanted t
  conforms_more None t h = (h.0, has_more h.0 t h.1)
  conforms_more (Some s) t h = has_more s t h

pub more_declare_no_less : MoreDeclareNoLess
more_declare_no_less D E constructors injections wanted t h = conforms_more D E constructors injections wanted t h

-- ---- one of several terms is replaced

module _ (D : Declared) where
  all_at : (wanted : Option Sort) (ts : Trees) (i : ℕ) (kid : Tree) → AllConform D wanted ts
      → slice_get (to_list ts) i ≡ Some kid → Conforms D wanted kid
  all_at wanted none i kid h e = absurd (cc)
  all_at wanted (more t ts) zero kid h e = let same : t ≡ kid = cc in subst (λ (x : Tree). Conforms D wanted x) same h.0
  all_at wanted (more t ts) (suc i) kid h e = all_at wanted ts i kid h.1 e

  all_set : (wanted : Option Sort) (ts : Trees) (i : ℕ) (v : Tree) → AllConform D wanted ts → Conforms D wanted v
      → AllConform D wanted (of_list (set (to_list ts) i v))
  all_set wanted none i v h c = tt
  all_set wanted (more t ts) zero v h c =
      (c, subst (λ (us : Trees). AllConform D wanted us) (sym (of_list-to_list ts)) h.1)
  all_set wanted (more t ts) (suc i) v h c = (h.0, all_set wanted ts i v h.1 c)

  set_all : (wanted : Option Sort) (ts : Trees) (i : ℕ) (v kid : Tree) → slice_get (to_list ts) i ≡ Some kid
      → AllConform D wanted (of_list (set (to_list ts) i v))
      → Conforms D wanted v
  set_all wanted none i v kid e h = absurd (cc)
  set_all wanted (more t ts) zero v kid e h = h.0
  set_all wanted (more t ts) (suc i) v kid e h = set_all wanted ts i v kid e h.1

  each_at : (ss : List Sort) (ts : Trees) (i : ℕ) (kid : Tree) → HaveSorts D ss ts → slice_get (to_list ts) i ≡ Some kid
      → (s : Sort) × (slice_get ss i ≡ Some s) × HasSort D s kid
  each_at [] none i kid h e = absurd (cc)
  each_at [] (more t ts) i kid h e = absurd h
  each_at (s ∷ ss) none i kid h e = absurd h
  each_at (s ∷ ss) (more t ts) zero kid h e = let same : t ≡ kid = cc in
      (s, refl, subst (λ (x : Tree). HasSort D s x) same h.0)
  each_at (s ∷ ss) (more t ts) (suc i) kid h e = each_at ss ts i kid h.1 e

  each_set : (ss : List Sort) (ts : Trees) (i : ℕ) (s : Sort) (v : Tree) → HaveSorts D ss ts → slice_get ss i ≡ Some s
      → HasSort D s v
      → HaveSorts D ss (of_list (set (to_list ts) i v))
  each_set [] none i s v h e c = tt
  each_set [] (more t ts) i s v h e c = absurd h
  each_set (q ∷ ss) none i s v h e c = absurd h
  each_set (q ∷ ss) (more t ts) zero s v h e c =
      let same : q ≡ s = cc in (
        subst (λ (x : Sort). HasSort D x v) (sym same) c,
        subst (λ (us : Trees). HaveSorts D ss us) (sym (of_list-to_list ts)) h.1,
      )
  each_set (q ∷ ss) (more t ts) (suc i) s v h e c = (h.0, each_set ss ts i s v h.1 e c)

  set_each : (ss : List Sort) (ts : Trees) (i : ℕ) (s : Sort) (v kid : Tree) → slice_get (to_list ts) i ≡ Some kid
      → slice_get ss i ≡ Some s
      → HaveSorts D ss (of_list (set (to_list ts) i v)) → HasSort D s v
  set_each ss none i s v kid k e h = absurd (cc)
  set_each [] (more t ts) i s v kid k e h = absurd (cc)
  set_each (q ∷ ss) (more t ts) zero s v kid k e h = let same : q ≡ s = cc in
      subst (λ (x : Sort). HasSort D x v) same h.0
  set_each (q ∷ ss) (more t ts) (suc i) s v kid k e h = set_each ss ts i s v kid k e h.1

  long_set : (ts : Trees) (i : ℕ) (v : Tree) → length (to_list (of_list (set (to_list ts) i v))) ≡ length (to_list ts)
  long_set ts i v = ap length (to_list-of_list (set (to_list ts) i v)) ∙ length-set (to_list ts) i v

  -- what child i wants, where it is this one, and what it means for another in its place
  abbrev Step : Option Sort → Tree → ℕ → Tree → Type 0
  Step wanted t i kid =
      (inside : Option Sort) × WantsInside D wanted t i inside × Conforms D inside kid
      × ((v : Tree) → Conforms D wanted (with_child t i v) ↔ Conforms D inside v)

  any_list_step : (kids notes : Trees) (i : ℕ) (kid : Tree) → Conforms D None (branch list kids notes)
      → slice_get (to_list kids) i ≡ Some kid
      → Step None (branch list kids notes) i kid
  any_list_step kids notes i kid h e =
      let all = (any_list D kids notes).0 h in (
        None,
        refl,
        all_at None kids i kid all e,
        λ v. (
          λ c. set_all None kids i v kid e ((any_list D (of_list (set (to_list kids) i v)) notes).0 c),
          λ c. (any_list D (of_list (set (to_list kids) i v)) notes).1 (all_set None kids i v all c),
        ),
      )

  any_tuple_step : (kids notes : Trees) (i : ℕ) (kid : Tree) → Conforms D None (branch tuple kids notes)
      → slice_get (to_list kids) i ≡ Some kid
      → Step None (branch tuple kids notes) i kid
  any_tuple_step kids notes i kid h e =
      let all = (any_tuple D kids notes).0 h in (
        None,
        refl,
        all_at None kids i kid all e,
        λ v. (
          λ c. set_all None kids i v kid e ((any_tuple D (of_list (set (to_list kids) i v)) notes).0 c),
          λ c. (any_tuple D (of_list (set (to_list kids) i v)) notes).1 (all_set None kids i v all c),
        ),
      )

  module _ (agreed : AreAgreed D) where
    list_step : (s : Sort) (kids notes : Trees) (i : ℕ) (kid : Tree) → HasSort D s (branch list kids notes)
        → slice_get (to_list kids) i ≡ Some kid
        → Step (Some s) (branch list kids notes) i kid
    list_step s kids notes i kid h e =
        let x = h.0 in (
          x,
          h.1,
          all_at x kids i kid h.2 e,
          λ v. (
            λ c. let same =
                same_element c.0 x (agreed.1 s (list_sort c.0) (list_sort x) c.1 h.1 (inl ((c.0, refl), (x, refl)))) in
                set_all x kids i v kid e
                (subst (λ (o : Option Sort). AllConform D o (of_list (set (to_list kids) i v))) same c.2),
            λ c. (x, h.1, all_set x kids i v h.2 c),
          ),
        )

    tuple_step : (s : Sort) (kids notes : Trees) (i : ℕ) (kid : Tree) → HasSort D s (branch tuple kids notes)
        → slice_get (to_list kids) i ≡ Some kid
        → Step (Some s) (branch tuple kids notes) i kid
    tuple_step s kids notes i kid h e =
        let ps = h.0 in
        let one = each_at ps kids i kid h.2 e in
        let long = sorts_long D ps kids h.2 in (
          Some one.0,
          (ps, h.1, long, sym one.1),
          one.2,
          λ v. (
            λ c. let qs = c.0 in
                let long' = sorts_long D qs (of_list (set (to_list kids) i v)) c.2 ∙ long_set kids i v in
                let same = same_parts qs ps (agreed.1 s (tuple_sort qs) (tuple_sort ps) c.1 h.1
                (inr (length (to_list kids), (qs, refl, long'), (ps, refl, long)))) in
                set_each ps kids i one.0 v kid e one.1
                (subst (λ (l : List Sort). HaveSorts D l (of_list (set (to_list kids) i v))) same c.2),
            λ c. (ps, h.1, each_set ps kids i one.0 v h.2 one.1 c),
          ),
        )

    -- a declaration by which an application with an argument is of a sort
    declared_by : (s : Sort) (f : Symbol) (kids notes : Trees) (i : ℕ) (kid : Tree)
        → HasSort D s (branch (application f) kids notes)
        → slice_get (to_list kids) i ≡ Some kid
        → (d : Declaration) × Contains D.constructors d × (d.name ≡ f) × HaveSorts D d.arguments kids
    declared_by s f kids notes i kid h e =
        elim h as (λ _. (d : Declaration) × Contains D.constructors d × (d.name ≡ f) × HaveSorts D d.arguments kids) [
          | inl a ↦ let empty = sym (ap (λ (ts : Trees). slice_get (to_list ts) i) a.1) ∙ e in absurd (cc)
          | inr b ↦ (b.1, (b.0, b.2, b.3), b.4.0, b.4.2)
        ]

    has_argument : (us : List Tree) (i : ℕ) (kid : Tree) (w : Option Sort) (f : Symbol) → slice_get us i ≡ Some kid
        → IsTakenString D.injections w f us → ⊥
    has_argument us i kid w f e h = let empty = sym (ap (λ (l : List Tree). slice_get l i) h.1) ∙ e in cc

    application_step : (wanted : Option Sort) (f : Symbol) (kids notes : Trees) (i : ℕ) (kid : Tree)
        → Conforms D wanted (branch (application f) kids notes)
        → (d : Declaration) × Contains D.constructors d × (d.name ≡ f) × HaveSorts D d.arguments kids
        → slice_get (to_list kids) i ≡ Some kid → Step wanted (branch (application f) kids notes) i kid
    application_step wanted f kids notes i kid h by e =
        let d = by.0 in
        let declared = by.1 in
        let us = to_list kids in
        let one = each_at d.arguments kids i kid by.3 e in
        let long = sorts_long D d.arguments kids by.3 in
        let before =
        application_conforms D agreed.0 f us notes d declared long by.2 wanted (has_argument us i kid wanted f e) in
        let allows =
        (before.1 (subst (λ (ts : Trees). Conforms D wanted (branch (application f) ts notes))
        (sym (of_list-to_list kids)) h)).0 in (
          Some one.0,
          (declared.0, d, declared.1, declared.2, (by.2, long, sym one.1)),
          one.2,
          λ v.
              let apart : IsTakenString D.injections wanted f (set us i v) → ⊥ = λ x.
              let l : length us ≡ 0 = sym (length-set us i v) ∙ ap length x.1 in
              omega (arith, l, slice_get_within us i kid e) in
              let after = application_conforms D agreed.0 f (set us i v) notes d declared
              (long ∙ sym (length-set us i v)) by.2 wanted apart in (
                λ c. set_each d.arguments kids i one.0 v kid e one.1 (after.1 c).1,
                λ c. after.0 (allows, each_set d.arguments kids i one.0 v by.3 one.1 c),
              ),
        )

    step : (wanted : Option Sort) (t : Tree) (i : ℕ) (kid : Tree) → Conforms D wanted t
        → slice_get (children t) i ≡ Some kid → Step wanted t i kid
    step wanted (integer z notes) i kid h e = absurd (cc)
    step None (branch (application f) kids notes) i kid h e =
        application_step None f kids notes i kid h (declared_by h.0 f kids notes i kid h.1 e) e
    step (Some s) (branch (application f) kids notes) i kid h e =
        application_step (Some s) f kids notes i kid h (declared_by s f kids notes i kid h e) e
    step None (branch list kids notes) i kid h e = any_list_step kids notes i kid h e
    step (Some s) (branch list kids notes) i kid h e = list_step s kids notes i kid h e
    step None (branch tuple kids notes) i kid h e = any_tuple_step kids notes i kid h e
    step (Some s) (branch tuple kids notes) i kid h e = tuple_step s kids notes i kid h e

    -- ---- along a path

    abbrev Decided : Option Sort → Tree → List ℕ → Tree → Type 0
    Decided wanted t path u =
        (there : Option Sort) × WantsAt D wanted t path there
        × (Conforms D wanted (set_at t path u) ↔ Conforms D there u)

    one_down : (wanted : Option Sort) (t u : Tree) (i : ℕ) (path : List ℕ)
        → ((inside : Option Sort) (kid : Tree) → Conforms D inside kid → IsSome (at kid path)
        → Decided inside kid path u)
        → Conforms D wanted t → (found : Option Tree)
        → slice_get (children t) i ≡ found → IsSome (option_and_then (λ kid. at kid path) found)
        → Decided wanted t (i ∷ path) u
    one_down wanted t u i path below h None e leads = absurd (cc)
    one_down wanted t u i path below h (Some kid) e leads =
        let first = step wanted t i kid h e in
        let rest = below first.0 kid first.2 leads in
        let both = first.3 (set_at kid path u) in
        let is : set_at t (i ∷ path) u ≡ with_child t i (set_at kid path u) =
        ap (λ (o : Option Tree). option_map_or (λ kid. with_child t i (set_at kid path u)) o t) e in (
          rest.0,
          (kid, first.0, e, first.1, rest.1),
          (
            λ c. rest.2.0 (both.0 (subst (λ (x : Tree). Conforms D wanted x) is c)),
            λ c. subst (λ (x : Tree). Conforms D wanted x) (sym is) (both.1 (rest.2.1 c)),
          ),
        )

    decided : (wanted : Option Sort) (t u : Tree) (path : List ℕ) → Conforms D wanted t → IsSome (at t path)
        → Decided wanted t path u
    decided wanted t u [] h leads = (wanted, refl, (λ c. c, λ c. c))
    decided wanted t u (i ∷ path) h leads =
        one_down wanted t u i path (λ inside kid. decided inside kid u path) h (slice_get (children t) i) refl leads

pub replaced_places_decide : ReplacedPlacesDecide
replaced_places_decide D agreed wanted t u path h leads = decided D agreed wanted t u path h leads
