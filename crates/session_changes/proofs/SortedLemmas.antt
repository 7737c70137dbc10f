-- A sorted log comes in order, and tells what the log tells.
use Rattle.std.proofs.Common.{◌≡◌, ℕ, zero, suc, ◌<◌, ◌≤◌, Bool, true, false, List, [], ◌∷◌, length, map, get_or, IsPermutation, refl, sym, ap, subst, ◌∙◌, arith}
use Rattle.std.specs.declared.option.Option.{Option}
use Rattle.std.specs.List.{flat_map, All}
use Rattle.std.specs.List.Sorted.{IsSortedBy}
use Rattle.std.specs.Ordering.{nat_cmp, ordering_then, bool_cmp, is_lt, ordering_reverse}
use Rattle.std.specs.declared.cmp.Ordering.{Ordering}
use Rattle.std.specs.declared.cmp.Ordering.TheVariants.{Less, Equal, Greater}
use Rattle.std.specs.Cmp.Lexicographic.{slice_cmp, nat_list_cmp_total, bytes_decides}
use Rattle.std.proofs.lemmas.Map.Text.{is_eq-slice_cmp}
use Rattle.std.specs.Cmp.{IsStrictWeakOrder, then_total, on_total, bool_cmp_total}
use Rattle.std.proofs.lemmas.List.Sorted.{IsPermutation-map, All-permutation, sorted_far, ranks_by}
use Rattle.term_changes.specs.Slots.{Store, HaveDistinctLabels, contents}
use Rattle.term_changes.specs.Entries.{Entry, slot_tree, subterm, subterm_annotations, slot_text, before, Fits}
use Rattle.term_changes.specs.Compact.{EntriesAreApart, IsCompact}
use Rattle.change_log.proofs.MergeLemmas.{ApartFrom}
use Rattle.change_log.proofs.ChosenLemmas.{AllApart}
use Rattle.change_log.proofs.SwapLemmas.{permuted}
use Rattle.session_history.specs.Differences.{changes_of}
use Rattle.session_changes.specs.inside.Told.{log_lines, asked_lines, is_of_text, those, AllAs, IsNamed}
use Rattle.session_changes.proofs.OneTreeLemmas.{path_of}
use Rattle.session_changes.proofs.LogTold.{Comes, ComeInOrder, log_told, same_slot}
use Rattle.session_changes.proofs.OrderedLemmas.{NotAfter, comes}
use Rattle.session_changes.proofs.NamesLemmas.{equal_of}

-- ---- facts of all entries

all_at : (P : List ℕ → Entry → Type 0) (ps : List (List ℕ × Entry)) → AllAs P ps → All (λ p. P p.0 p.1) ps
all_at P [] h k d l = absurd (omega (arith, l))
all_at P (p ∷ ps) h zero d l = h.0
all_at P (p ∷ ps) h (suc k) d l = all_at P ps h.1 k d (omega (arith, l))

from_all : (P : List ℕ → Entry → Type 0) (ps : List (List ℕ × Entry)) → All (λ p. P p.0 p.1) ps → AllAs P ps
from_all P [] h = tt
from_all P (p ∷ ps) h = (h 0 p (omega arith), from_all P ps (λ k d l. h (suc k) d (omega (arith, l))))

-- ---- in order

-- whether it changes a part of a tree
abbrev pub IsPart : Entry → Type 0
IsPart (slot_tree i o) = ⊥
IsPart (subterm i p o) = Unit {0}
IsPart (subterm_annotations i p os) = Unit {0}
IsPart (slot_text i x) = ⊥

-- What the keys of two entries say, of which the first comes first. A whole tree or text may have
-- any path in its key.
pub record KeyedBefore (n : List ℕ) (e : Entry) (m : List ℕ) (d : Entry) : Type 0 where
  pub kinds : is_of_text e ≡ true → is_of_text d ≡ false → ⊥
  pub names : is_of_text e ≡ is_of_text d → slice_cmp nat_cmp n m ≡ Greater → ⊥
  pub paths : IsPart e → IsPart d → n ≡ m → slice_cmp nat_cmp (path_of e) (path_of d) ≡ Greater → ⊥

nothing_greater : (q : List ℕ) → slice_cmp nat_cmp [] q ≡ Greater → ⊥
nothing_greater [] h = absurd (cc)
nothing_greater (j ∷ q) h = absurd (cc)

module _ (s : Store) (n m : List ℕ) where
  by_paths : (e d : Entry) → IsNamed s n e → IsNamed s m d → EntriesAreApart e d → KeyedBefore n e m d
      → is_of_text e ≡ is_of_text d → n ≡ m
      → slice_cmp nat_cmp (path_of e) (path_of d) ≡ Greater → ⊥
  by_paths (slot_tree i o) d f g apart le kind same h = nothing_greater (path_of d) h
  by_paths (slot_text i x) d f g apart le kind same h = nothing_greater (path_of d) h
  by_paths (subterm i p o) (slot_tree j x) f g apart le kind same h = apart.0 (same_slot s n m i j f g same)
  by_paths (subterm i p o) (subterm j q x) f g apart le kind same h = le.paths tt tt same h
  by_paths (subterm i p o) (subterm_annotations j q x) f g apart le kind same h = le.paths tt tt same h
  by_paths (subterm i p o) (slot_text j y) f g apart le kind same h = absurd (cc)
  by_paths (subterm_annotations i p o) (slot_tree j x) f g apart le kind same h = apart.0 (same_slot s n m i j f g same)
  by_paths (subterm_annotations i p o) (subterm j q x) f g apart le kind same h = le.paths tt tt same h
  by_paths (subterm_annotations i p o) (subterm_annotations j q x) f g apart le kind same h = le.paths tt tt same h
  by_paths (subterm_annotations i p o) (slot_text j y) f g apart le kind same h = absurd (cc)

  not_after : (e d : Entry) → IsNamed s n e → IsNamed s m d → EntriesAreApart e d → KeyedBefore n e m d
      → NotAfter n (path_of e) e m (path_of d) d
  not_after e d f g apart le = record { kinds = le.kinds; names = le.names; paths = by_paths e d f g apart le }

-- each comes before the later ones
abbrev pub AreKeyed : List (List ℕ × Entry) → Type 0
AreKeyed [] = Unit {0}
AreKeyed (p ∷ ps) = AllAs (KeyedBefore p.0 p.1) ps × AreKeyed ps

one_in_order : (s : Store) (n : List ℕ) (e : Entry) → IsNamed s n e
    → (ps : List (List ℕ × Entry)) → AllAs (IsNamed s) ps → ApartFrom e (those ps)
    → AllAs (KeyedBefore n e) ps → AllAs (Comes n e) ps
one_in_order s n e f [] named apart le = tt
one_in_order s n e f (p ∷ ps) named apart le = (
  comes s n p.0 e p.1 f named.0 apart.0 (not_after s n p.0 e p.1 f named.0 apart.0 le.0),
  one_in_order s n e f ps named.1 apart.1 le.1,
)

pub all_in_order : (s : Store) (ps : List (List ℕ × Entry)) → AllAs (IsNamed s) ps → AllApart (those ps) → AreKeyed ps
    → ComeInOrder ps
all_in_order s [] named apart le = tt
all_in_order s (p ∷ ps) named apart le =
    (one_in_order s p.0 p.1 named.0 ps named.1 apart.0 le.0, all_in_order s ps named.1 apart.1 le.1)

-- ---- the whole

module _ (asked : Option (List ℕ)) (s : Store) (trees_are : HaveDistinctLabels s.trees)
    (texts_are : HaveDistinctLabels s.modules) where
  pub sorted_told : (log : List Entry) (ps qs : List (List ℕ × Entry)) → those ps ≡ log → AllAs (IsNamed s) ps
      → IsPermutation ps qs → AreKeyed qs → IsCompact log → Fits log s
      → log_lines asked log s ≡ flat_map (asked_lines asked s) qs
  sorted_told log ps qs is named perm le compact fits =
      let named_too : AllAs (IsNamed s) qs =
      from_all (IsNamed s) qs (All-permutation (λ p. IsNamed s p.0 p.1) ps qs perm (all_at (IsNamed s) ps named)) in
      let moved =
      permuted (those ps) (those qs) (subst IsCompact (sym is) compact) (IsPermutation-map (λ p. p.1) ps qs perm) in
      let same : before log s ≡ before (those qs) s = ap (λ l. before l s) (sym is) ∙ sym (moved.1.0 s) in
      ap (λ x. changes_of asked (contents x) (contents s)) same
      ∙ log_told asked s trees_are texts_are qs named_too (all_in_order s qs named_too moved.0 le)
      (moved.1.1 s (subst (λ l. Fits l s) (sym is) fits))

-- ---- by the keys

not_less_kind : (a b : Bool) (r : Ordering) → is_lt (ordering_then (bool_cmp b a) r) ≡ false → a ≡ true → b ≡ false → ⊥
not_less_kind true false r h f g = absurd (cc)
not_less_kind true true r h f g = absurd (cc)
not_less_kind false b r h f g = absurd (cc)

same_kind_rest : (a b : Bool) (r : Ordering) → is_lt (ordering_then (bool_cmp b a) r) ≡ false → a ≡ b → is_lt r ≡ false
same_kind_rest true true r h e = h
same_kind_rest false false r h e = h
same_kind_rest true false r h e = absurd (cc)
same_kind_rest false true r h e = absurd (cc)

then_then : (a b c : Ordering) → ordering_then (ordering_then a b) c ≡ ordering_then a (ordering_then b c)
then_then Less b c = refl
then_then Equal b c = refl
then_then Greater b c = refl

-- what the keys say of two entries, of which the second doesn't come before the first
pub by_keys : (n m p q : List ℕ) (e d : Entry) → (IsPart e → p ≡ path_of e) → (IsPart d → q ≡ path_of d)
    → is_lt (ordering_then (ordering_then (bool_cmp (is_of_text d) (is_of_text e)) (slice_cmp nat_cmp m n))
    (slice_cmp nat_cmp q p)) ≡ false → KeyedBefore n e m d
by_keys n m p q e d own own_too keys = record {
  kinds = not_less_kind (is_of_text e) (is_of_text d) (ordering_then (slice_cmp nat_cmp m n) (slice_cmp nat_cmp q p)) h;
  names = λ same greater. first_less greater (rest same);
  paths = λ part part_too named greater. second_less named
      ((λ k. slice_cmp nat_cmp (own part k) (own_too part_too k)) ∙ greater) (rest (parts_alike e d part part_too));
}
  where
    parts_alike : (e d : Entry) → IsPart e → IsPart d → is_of_text e ≡ is_of_text d
    parts_alike (slot_tree i o) d a b = absurd a
    parts_alike (subterm i p o) (slot_tree j x) a b = absurd b
    parts_alike (subterm i p o) (subterm j q x) a b = refl
    parts_alike (subterm i p o) (subterm_annotations j q x) a b = refl
    parts_alike (subterm i p o) (slot_text j y) a b = absurd b
    parts_alike (subterm_annotations i p o) (slot_tree j x) a b = absurd b
    parts_alike (subterm_annotations i p o) (subterm j q x) a b = refl
    parts_alike (subterm_annotations i p o) (subterm_annotations j q x) a b = refl
    parts_alike (subterm_annotations i p o) (slot_text j y) a b = absurd b
    parts_alike (slot_text i x) d a b = absurd a

    h : is_lt (ordering_then (bool_cmp (is_of_text d) (is_of_text e))
        (ordering_then (slice_cmp nat_cmp m n) (slice_cmp nat_cmp q p))) ≡ false
    h = ap is_lt
        (sym (then_then (bool_cmp (is_of_text d) (is_of_text e)) (slice_cmp nat_cmp m n) (slice_cmp nat_cmp q p)))
        ∙ keys

    rest : is_of_text e ≡ is_of_text d → is_lt (ordering_then (slice_cmp nat_cmp m n) (slice_cmp nat_cmp q p)) ≡ false
    rest same = same_kind_rest (is_of_text e) (is_of_text d)
        (ordering_then (slice_cmp nat_cmp m n) (slice_cmp nat_cmp q p)) h same

    turned : (a b : List ℕ) → slice_cmp nat_cmp a b ≡ Greater → slice_cmp nat_cmp b a ≡ Less
    turned a b e = nat_list_cmp_total.antisymm b a ∙ ap ordering_reverse e

    first_less : slice_cmp nat_cmp n m ≡ Greater → is_lt (ordering_then (slice_cmp nat_cmp m n) (slice_cmp nat_cmp q p))
        ≡ false → ⊥
    first_less e r = let never : true ≡ false =
        (λ k. is_lt (ordering_then (sym (turned n m e) k) (slice_cmp nat_cmp q p))) ∙ r in cc

    second_less : n ≡ m → slice_cmp nat_cmp p q
        ≡ Greater → is_lt (ordering_then (slice_cmp nat_cmp m n) (slice_cmp nat_cmp q p)) ≡ false → ⊥
    second_less same e r =
        let tied : slice_cmp nat_cmp m n ≡ Equal =
        equal_of (slice_cmp nat_cmp m n) (is_eq-slice_cmp m n ∙ (bytes_decides m n).1 (sym same)) in
        let never : true ≡ false = (λ k. is_lt (ordering_then (sym tied k) (sym (turned p q e) k))) ∙ r in cc

-- ---- a sorted list

-- entries, each with its name and the path in its key
module _ {X : Type 0} (name path : X → List ℕ) (entry : X → Entry) where
  -- whether one comes before another by its key
  abbrev pub key_less : X → X → Bool
  key_less x y =
      is_lt (ordering_then (ordering_then (bool_cmp (is_of_text (entry x)) (is_of_text (entry y)))
      (slice_cmp nat_cmp (name x) (name y))) (slice_cmp nat_cmp (path x) (path y)))

  key_order : IsStrictWeakOrder key_less
  key_order =
      ranks_by
      (then_total (then_total (on_total (λ x. is_of_text (entry x)) bool_cmp_total) (on_total name nat_list_cmp_total))
      (on_total path nat_list_cmp_total)) (λ x. x)

  abbrev pub pairs : List X → List (List ℕ × Entry)
  pairs xs = map (λ x. (name x, entry x)) xs

  module _ (own : (x : X) → IsPart (entry x) → path x ≡ path_of (entry x)) where
    first_keyed : (x : X) (xs : List X) → ((j : ℕ) (d : X) → j < length xs → key_less (get_or xs j d) x ≡ false)
        → AllAs (KeyedBefore (name x) (entry x)) (pairs xs)
    first_keyed x [] h = tt
    first_keyed x (y ∷ ys) h = (
      by_keys (name x) (name y) (path x) (path y) (entry x) (entry y) (own x) (own y) (h 0 x (omega arith)),
      first_keyed x ys (λ j d l. h (suc j) d (omega (arith, l))),
    )

    all_keyed : (xs : List X)
        → ((i j : ℕ) (d : X) → i ≤ j → j < length xs → key_less (get_or xs j d) (get_or xs i d) ≡ false)
        → AreKeyed (pairs xs)
    all_keyed [] h = tt
    all_keyed (x ∷ xs) h = (
      first_keyed x xs (λ j d l. h 0 (suc j) d (omega arith) (omega (arith, l))),
      all_keyed xs (λ i j d a b. h (suc i) (suc j) d (omega (arith, a)) (omega (arith, b))),
    )

    pub sorted_keyed : (xs : List X) → IsSortedBy key_less xs → AreKeyed (pairs xs)
    sorted_keyed xs up = all_keyed xs (sorted_far key_less key_order xs up)
