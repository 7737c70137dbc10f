-- Lines by the names of two maps.
use Rattle.std.proofs.Common.{◌≡◌, ℕ, Bool, true, false, cond, ◌&&◌, ◌||◌, List, [], ◌∷◌, ◌++◌, Some, None, is_some, refl, sym, ap, subst, ◌∙◌, append_assoc, append-nil, if◌then◌else◌}
use Rattle.std.specs.declared.option.Option.{Option}
use Rattle.std.specs.List.{flat_map, list_any, filter, AllByRecursion}
use Rattle.std.specs.List.Sorted.{IsStrictlySortedBy}
use Rattle.std.specs.Ordering.{nat_cmp, eq_by_cmp, is_eq, ordering_reverse}
use Rattle.std.specs.Str.{bytes_eq}
use Rattle.std.specs.declared.cmp.Ordering.{Ordering}
use Rattle.std.specs.declared.cmp.Ordering.TheVariants.{Less, Equal, Greater}
use Rattle.std.specs.Cmp.Lexicographic.{slice_cmp, nat_list_cmp_total, bytes_decides}
use Rattle.std.specs.FinMap.{find, entries, entries_sorted, from_entries, contains_key-keys, get-from_entries, get-entries}
use Rattle.std.specs.FinMap as finmap
use Rattle.std.proofs.lemmas.List.Kept.{IsStrictlySortedBy-filter}
use Rattle.std.proofs.lemmas.Map.Lookups.{exact_bytes}
use Rattle.std.proofs.lemmas.Map.Text.{is_eq-slice_cmp}
use Rattle.change_log.proofs.NameLemmas.{same_keys, keys_strict}
use Rattle.term_changes.specs.Contents.{Named}
use Rattle.session_history.specs.Differences.{names_of, lines_of}
use Rattle.session_changes.specs.inside.Told.{if_asked}
use Rattle.session_changes.proofs.DifferenceLemmas.{and_false}

-- the lines of all names, or of this one
abbrev pub asked_of : {X : Type 0} → (List ℕ → Option X → Option X → List (List ℕ)) → Option (List ℕ) → Named X
    → Named X → List (List ℕ)
asked_of lines None a b = lines_of lines a b (names_of a b)
asked_of lines (Some n) a b = lines_of lines a b (n ∷ [])

-- whether the name is one of these
abbrev pub among : List (List ℕ) → List ℕ → Bool
among ns q = list_any (eq_by_cmp (slice_cmp nat_cmp) q) ns

abbrev pub AreRising : List (List ℕ) → Type 0
AreRising ns = IsStrictlySortedBy (slice_cmp nat_cmp) ns

pub equal_of : (r : Ordering) → is_eq r ≡ true → r ≡ Equal
equal_of Less e = absurd (cc)
equal_of Equal e = refl
equal_of Greater e = absurd (cc)

pub ties_same : (q k : List ℕ) → eq_by_cmp (slice_cmp nat_cmp) q k ≡ true → q ≡ k
ties_same q k e = exact_bytes q k (equal_of (slice_cmp nat_cmp q k) e)

among-filter : (p : List ℕ → Bool) (q : List ℕ) (ns : List (List ℕ)) → among (filter p ns) q ≡ (among ns q && p q)
among-filter p q [] = refl
among-filter p q (k ∷ ns) =
    let tie = eq_by_cmp (slice_cmp nat_cmp) q k in
    let rest = among-filter p q ns in
    elim (p k) as (λ b. p k ≡ b → among (cond b (k ∷ filter p ns) (filter p ns)) q ≡ ((tie || among ns q) && p q)) [
      | true ↦ λ h. elim tie as (λ c. tie ≡ c → (c || among (filter p ns) q) ≡ ((c || among ns q) && p q)) [
        | true ↦ λ e. sym (ap p (ties_same q k e) ∙ h)
        | false ↦ λ e. rest
      ] refl
      | false ↦ λ h. elim tie as (λ c. tie ≡ c → among (filter p ns) q ≡ ((c || among ns q) && p q)) [
        | true ↦ λ e. let never : p q ≡ false = ap p (ties_same q k e) ∙ h in
            rest ∙ ap (λ b. among ns q && b) never ∙ and_false (among ns q) ∙ sym never
        | false ↦ λ e. rest
      ] refl
    ] refl

and_comm : (a b : Bool) → a && b ≡ b && a
and_comm true true = refl
and_comm true false = refl
and_comm false true = refl
and_comm false false = refl

module _ {A : Type 0} (f : List ℕ → List A) where
  flat_kept : (p : List ℕ → Bool) (ns : List (List ℕ))
      → ((q : List ℕ) → p q ≡ false → f q ≡ []) → flat_map f (filter p ns) ≡ flat_map f ns
  flat_kept p [] none = refl
  flat_kept p (k ∷ ns) none =
      elim (p k) as (λ b. p k ≡ b → flat_map f (cond b (k ∷ filter p ns) (filter p ns)) ≡ f k ++ flat_map f ns) [
        | true ↦ λ h. ap (λ l. f k ++ l) (flat_kept p ns none)
        | false ↦ λ h. flat_kept p ns none ∙ ap (λ l. l ++ flat_map f ns) (sym (none k h))
      ] refl

  -- two rising lists of names, of which each has those for which there is something
  pub flat_same : (ns ms : List (List ℕ)) → AreRising ns → AreRising ms
      → ((q : List ℕ) → among ns q ≡ false → f q ≡ []) → ((q : List ℕ) → among ms q ≡ false → f q ≡ [])
      → flat_map f ns ≡ flat_map f ms
  flat_same ns ms h g none never =
      let R = slice_cmp nat_cmp in
      let same : filter (among ms) ns ≡ filter (among ns) ms =
      same_keys (filter (among ms) ns) (filter (among ns) ms) (IsStrictlySortedBy-filter R (among ms) ns h)
      (IsStrictlySortedBy-filter R (among ns) ms g)
      (λ q. among-filter (among ms) q ns ∙ and_comm (among ns q) (among ms q) ∙ sym (among-filter (among ns) q ms)) in
      sym (flat_kept (among ms) ns never) ∙ ap (flat_map f) same ∙ flat_kept (among ns) ms none

module _ {X : Type 0} where
  found-append : (q : List ℕ) (xs ys : List (List ℕ × X)) → is_some (find (slice_cmp nat_cmp) q (xs ++ ys))
      ≡ (is_some (find (slice_cmp nat_cmp) q xs) || is_some (find (slice_cmp nat_cmp) q ys))
  found-append q [] ys = refl
  found-append q (x ∷ xs) ys =
      elim (eq_by_cmp (slice_cmp nat_cmp) q x.0) as (λ b.
      is_some (cond b (Some x.1) (find (slice_cmp nat_cmp) q (xs ++ ys)))
      ≡ (is_some (cond b (Some x.1) (find (slice_cmp nat_cmp) q xs)) || is_some (find (slice_cmp nat_cmp) q ys))) [
        | true ↦ refl
        | false ↦ found-append q xs ys
      ]

  neither : (a b : Option X) → (is_some a || is_some b) ≡ false → (a ≡ None) × (b ≡ None)
  neither None None e = (refl, refl)
  neither None (Some y) e = absurd (cc)
  neither (Some x) b e = absurd (cc)

  -- a name that isn't one of them is in neither map
  pub not_among : (a b : Named X) (q : List ℕ)
      → among (names_of a b) q ≡ false → (finmap.get a q ≡ None) × (finmap.get b q ≡ None)
  not_among a b q e =
      let R = slice_cmp nat_cmp in
      let all = from_entries {R = R} (entries a ++ entries b) in
      let none : (is_some (find R q (entries a)) || is_some (find R q (entries b))) ≡ false =
      sym (found-append q (entries a) (entries b)) ∙ ap is_some
      (sym (get-from_entries nat_list_cmp_total (entries a ++ entries b) q)) ∙ contains_key-keys all q ∙ e in
      let each = neither (find R q (entries a)) (find R q (entries b)) none in
      (get-entries a q ∙ each.0, get-entries b q ∙ each.1)

  -- All lines are those of some names, if the two maps are the same at all others.
  pub lines_by_name : (lines : List ℕ → Option X → Option X → List (List ℕ))
      → ((q : List ℕ) (o : Option X) → lines q o o ≡ []) → (a b : Named X) (ms : List (List ℕ)) → AreRising ms
      → ((q : List ℕ) → among ms q ≡ false → finmap.get a q ≡ finmap.get b q)
      → lines_of lines a b (names_of a b) ≡ lines_of lines a b ms
  lines_by_name lines nothing a b ms g others =
      let all = from_entries {R = slice_cmp nat_cmp} (entries a ++ entries b) in
      flat_same (λ q. lines q (finmap.get a q) (finmap.get b q)) (names_of a b) ms
      (keys_strict (entries all) (entries_sorted all)) g
      (λ q e. let none = not_among a b q e in (λ k. lines q (none.0 k) (none.1 k)) ∙ nothing q None)
      (λ q e. ap (λ o. lines q o (finmap.get b q)) (others q e) ∙ nothing q (finmap.get b q))

-- ---- one name more

no_both : (b : Bool) → b ≡ true → b ≡ false → ⊥
no_both true h g = absurd (cc)
no_both false h g = absurd (cc)

neither_true : (a b : Bool) → (a || b) ≡ false → (a ≡ false) × (b ≡ false)
neither_true true b e = absurd (cc)
neither_true false b e = (refl, e)

-- the order, the other way round
turned : (q k : List ℕ) → slice_cmp nat_cmp k q ≡ ordering_reverse (slice_cmp nat_cmp q k)
turned q k = nat_list_cmp_total.antisymm k q

swapped_less : (q k : List ℕ) → slice_cmp nat_cmp q k ≡ Less → slice_cmp nat_cmp k q ≡ Greater
swapped_less q k e = turned q k ∙ ap ordering_reverse e

swapped_greater : (q k : List ℕ) → slice_cmp nat_cmp q k ≡ Greater → slice_cmp nat_cmp k q ≡ Less
swapped_greater q k e = turned q k ∙ ap ordering_reverse e

not_tied : (n y : List ℕ) → is_eq (slice_cmp nat_cmp n y) ≡ false → among (n ∷ []) y ≡ false
not_tied n y e =
    elim (slice_cmp nat_cmp n y) as (λ r. slice_cmp nat_cmp n y ≡ r → is_eq r ≡ false → among (n ∷ []) y ≡ false) [
      | Less ↦ λ c h. ap (λ r. is_eq r || false) (turned n y ∙ ap ordering_reverse c)
      | Equal ↦ λ c h. absurd (cc)
      | Greater ↦ λ c h. ap (λ r. is_eq r || false) (turned n y ∙ ap ordering_reverse c)
    ] refl e

all_less : (n y : List ℕ) (ns : List (List ℕ))
    → slice_cmp nat_cmp n y ≡ Less → AllByRecursion (λ z. slice_cmp nat_cmp y z ≡ Less) ns
    → AllByRecursion (λ z. slice_cmp nat_cmp n z ≡ Less) ns
all_less n y [] e h = tt
all_less n y (z ∷ ns) e h = (nat_list_cmp_total.trans n y z e h.0, all_less n y ns e h.1)

module _ {A : Type 0} (f g : List ℕ → List A) (n : List ℕ) (extra : List A)
    (same : (q : List ℕ) → among (n ∷ []) q ≡ false → f q ≡ g q)
    (below : (q : List ℕ) → slice_cmp nat_cmp q n ≡ Less → g q ≡ []) (here : f n ≡ extra ++ g n) where
  apart_less : (q : List ℕ) → slice_cmp nat_cmp q n ≡ Less → among (n ∷ []) q ≡ false
  apart_less q e = ap (λ r. is_eq r || false) e

  apart_greater : (q : List ℕ) → slice_cmp nat_cmp q n ≡ Greater → among (n ∷ []) q ≡ false
  apart_greater q e = ap (λ r. is_eq r || false) e

  after_it : (ns : List (List ℕ)) → AllByRecursion (λ y. slice_cmp nat_cmp n y ≡ Less) ns
      → flat_map f ns ≡ flat_map g ns
  after_it [] h = refl
  after_it (y ∷ ns) h = λ k. same y (apart_greater y (swapped_less n y h.0)) k ++ after_it ns h.1 k

  less_not_among : (ns : List (List ℕ)) → AllByRecursion (λ y. slice_cmp nat_cmp n y ≡ Less) ns → among ns n ≡ false
  less_not_among [] h = refl
  less_not_among (y ∷ ns) h = (λ k. is_eq (h.0 k) || among ns n) ∙ less_not_among ns h.1

  -- in a rising list that has it
  flat_more : (ns : List (List ℕ)) → AreRising ns → among ns n ≡ true → flat_map f ns ≡ extra ++ flat_map g ns
  unfolding IsStrictlySortedBy
  flat_more [] h e = absurd (cc)
  flat_more (y ∷ ns) h e =
      elim (slice_cmp nat_cmp y n) as (λ r.
      slice_cmp nat_cmp y n ≡ r → flat_map f (y ∷ ns) ≡ extra ++ flat_map g (y ∷ ns)) [
        | Less ↦ λ c.
            let none : g y ≡ [] = below y c in
            let further : among ns n ≡ true = sym (ap (λ r. is_eq r || among ns n) (swapped_less y n c)) ∙ e in
            (λ k. (same y (apart_less y c) ∙ none) k ++ flat_map f ns) ∙ flat_more ns h.1 further
            ∙ (λ k. extra ++ (sym none k ++ flat_map g ns))
        | Equal ↦ λ c.
            let is : y ≡ n = exact_bytes y n c in
            (λ k. (ap f is ∙ here) k
            ++ after_it ns (subst (λ y. AllByRecursion (λ z. slice_cmp nat_cmp y z ≡ Less) ns) is h.0) k)
            ∙ append_assoc extra (g n) (flat_map g ns) ∙ (λ k. extra ++ (g (sym is k) ++ flat_map g ns))
        | Greater ↦ λ c.
            let never : among (y ∷ ns) n ≡ false =
            (λ k. is_eq (swapped_greater y n c k) || among ns n)
            ∙ less_not_among ns (all_less n y ns (swapped_greater y n c) h.0) in
            absurd (no_both (among (y ∷ ns) n) e never)
      ] refl

  -- where it isn't, nothing is there to tell
  flat_none : (ns : List (List ℕ)) → among ns n ≡ false → flat_map f ns ≡ flat_map g ns
  flat_none [] h = refl
  flat_none (y ∷ ns) h =
      let each = neither_true (is_eq (slice_cmp nat_cmp n y)) (among ns n) h in
      λ k. same y (not_tied n y each.0) k ++ flat_none ns each.1 k

-- A map with another value for a name, where the maps were the same below it.
module _ {X : Type 0} (lines : List ℕ → Option X → Option X → List (List ℕ))
    (nothing : (q : List ℕ) (o : Option X) → lines q o o ≡ []) (c a b : Named X) (n : List ℕ) (extra : List (List ℕ))
    (others : (q : List ℕ) → among (n ∷ []) q ≡ false → finmap.get c q ≡ finmap.get a q)
    (below : (q : List ℕ) → slice_cmp nat_cmp q n ≡ Less → finmap.get a q ≡ finmap.get b q)
    (here : lines n (finmap.get c n) (finmap.get b n) ≡ extra ++ lines n (finmap.get a n) (finmap.get b n)) where
  newer : List ℕ → List (List ℕ)
  newer q = lines q (finmap.get c q) (finmap.get b q)

  older : List ℕ → List (List ℕ)
  older q = lines q (finmap.get a q) (finmap.get b q)

  -- the names of all three
  abbrev all_three : Named X
  all_three = from_entries {R = slice_cmp nat_cmp} (entries c ++ (entries a ++ entries b))

  not_among_three : (q : List ℕ) → among (finmap.keys all_three) q
      ≡ false → (finmap.get c q ≡ None) × (finmap.get a q ≡ None) × (finmap.get b q ≡ None)
  not_among_three q e =
      let R = slice_cmp nat_cmp in
      let none : is_some (find R q (entries c ++ (entries a ++ entries b))) ≡ false =
      ap is_some (sym (get-from_entries nat_list_cmp_total (entries c ++ (entries a ++ entries b)) q))
      ∙ contains_key-keys all_three q ∙ e in
      let first = neither_true (is_some (find R q (entries c))) (is_some (find R q (entries a ++ entries b)))
      (sym (found-append q (entries c) (entries a ++ entries b)) ∙ none) in
      let rest = neither_true (is_some (find R q (entries a))) (is_some (find R q (entries b)))
      (sym (found-append q (entries a) (entries b)) ∙ first.1) in (
        get-entries c q ∙ no_value (find R q (entries c)) first.0,
        get-entries a q ∙ no_value (find R q (entries a)) rest.0,
        get-entries b q ∙ no_value (find R q (entries b)) rest.1,
      )
    where
      no_value : (o : Option X) → is_some o ≡ false → o ≡ None
      no_value None e = refl
      no_value (Some x) e = absurd (cc)

  more_of_all : lines_of lines c b (names_of c b) ≡ extra ++ lines_of lines a b (names_of a b)
  unfolding newer older
  more_of_all =
      let ns = finmap.keys all_three in
      let rising = keys_strict (entries all_three) (entries_sorted all_three) in
      let first = from_entries {R = slice_cmp nat_cmp} (entries c ++ entries b) in
      let second = from_entries {R = slice_cmp nat_cmp} (entries a ++ entries b) in
      let same : (q : List ℕ) → among (n ∷ []) q ≡ false → newer q ≡ older q =
      λ q e. ap (λ o. lines q o (finmap.get b q)) (others q e) in
      let none : (q : List ℕ) → slice_cmp nat_cmp q n ≡ Less → older q ≡ [] =
      λ q e. ap (λ o. lines q o (finmap.get b q)) (below q e) ∙ nothing q (finmap.get b q) in
      let newer_all : lines_of lines c b (names_of c b) ≡ flat_map newer ns =
      flat_same newer (names_of c b) ns (keys_strict (entries first) (entries_sorted first)) rising
      (λ q e. let never = not_among c b q e in (λ k. lines q (never.0 k) (never.1 k)) ∙ nothing q None)
      (λ q e. let never = not_among_three q e in (λ k. lines q (never.0 k) (never.2 k)) ∙ nothing q None) in
      let older_all : lines_of lines a b (names_of a b) ≡ flat_map older ns =
      flat_same older (names_of a b) ns (keys_strict (entries second) (entries_sorted second)) rising
      (λ q e. let never = not_among a b q e in (λ k. lines q (never.0 k) (never.1 k)) ∙ nothing q None)
      (λ q e. let never = not_among_three q e in (λ k. lines q (never.1 k) (never.2 k)) ∙ nothing q None) in
      newer_all
      ∙ elim (among ns n) as (λ t. among ns n ≡ t → flat_map newer ns ≡ extra ++ flat_map older ns) [
        | true ↦ λ e. flat_more newer older n extra same none here ns rising e
        | false ↦ λ e.
            let never = not_among_three n e in
            let left : lines n (finmap.get c n) (finmap.get b n) ≡ [] = (λ k. lines n (never.0 k) (never.2 k))
            ∙ nothing n None in
            let right : lines n (finmap.get a n) (finmap.get b n) ≡ [] = (λ k. lines n (never.1 k) (never.2 k))
            ∙ nothing n None in
            let empty : extra ≡ [] = sym (append-nil extra) ∙ ap (λ l. extra ++ l) (sym right) ∙ sym here ∙ left in
            flat_none newer older n extra same none here ns e ∙ ap (λ l. l ++ flat_map older ns) (sym empty)
      ] refl
      ∙ ap (λ l. extra ++ l) (sym older_all)

  pub one_more : (asked : Option (List ℕ))
      → asked_of lines asked c b ≡ if_asked asked n extra ++ asked_of lines asked a b
  one_more None = more_of_all
  one_more (Some m) =
      elim (bytes_eq m n) as (λ t. bytes_eq m n ≡ t → lines m (finmap.get c m) (finmap.get b m)
      ++ [] ≡ (if t then extra else []) ++ (lines m (finmap.get a m) (finmap.get b m) ++ [])) [
        | true ↦ λ e.
            let is : m ≡ n = (bytes_decides m n).0 e in
            ap (λ l. l ++ []) ((λ k. lines (is k) (finmap.get c (is k)) (finmap.get b (is k)))
            ∙ here ∙ (λ k. extra ++ lines (sym is k) (finmap.get a (sym is k)) (finmap.get b (sym is k))))
            ∙ append_assoc extra (lines m (finmap.get a m) (finmap.get b m)) []
        | false ↦ λ e. ap (λ o. lines m o (finmap.get b m) ++ []) (others m (apart_by m e))
      ] refl
    where
      apart_by : (m : List ℕ) → bytes_eq m n ≡ false → among (n ∷ []) m ≡ false
      apart_by m e = ap (λ t. t || false) (is_eq-slice_cmp m n ∙ e)
