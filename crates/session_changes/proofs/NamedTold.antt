-- The names of entries.
use Rattle.std.proofs.Common.{◌≡◌, ℕ, zero, suc, ◌<◌, false, List, [], ◌∷◌, ◌++◌, length, get_or, drop, slice_get, ◌+◌, ◌≤◌, IsPermutation, Some, None, IsSome, IfSome, option_map, option_copied, arith, refl, sym, ap, subst, ◌∙◌, append_assoc}
use denote.Ref.{Bor}
use Rattle.std.specs.declared.option.Option.{Option}
use Rattle.std.specs.List.{flat_map}
use Rattle.std.specs.List.Sorted.{IsSortedBy}
use Rattle.std.specs.Ordering.{nat_cmp, ordering_then, bool_cmp, is_lt}
use Rattle.std.specs.Cmp.Lexicographic.{slice_cmp}
use Rattle.std.proofs.lemmas.List.{map-append, drop_more, drop_all}
use Rattle.std.proofs.lemmas.List.Sorted.{IsPermutation-map}
use Rattle.term_changes.specs.Slots.{Slots, Store, HaveDistinctLabels, slot_of}
use Rattle.term_changes.specs.Entries.{Entry, Fits}
use Rattle.term_changes.specs.Compact.{IsCompact}
use Rattle.term_changes.specs.LogView.{entry_of}
use Rattle.term_changes.specs.declared.entry.Kept.{Kept}
use Rattle.term_changes.specs.declared.entry.Kept.TheVariants.{Tree, Subterm, Annotations, Text}
use Rattle.change_log.specs.Reading.{held_entry}
use Rattle.session_changes.specs.declared.last_step.NamedEntry.{NamedEntry}
use Rattle.session_changes.specs.inside.NamedPairs.{pairs_of}
use Rattle.session_changes.specs.inside.Told.{is_of_text, those, AllAs, HasSlot, IsNamed, asked_lines, log_lines}
use Rattle.session_changes.proofs.OneTreeLemmas.{path_of}
use Rattle.session_changes.proofs.SortedLemmas.{IsPart, sorted_told, sorted_keyed}
use Rattle.session_changes.proofs.ChangedLemmas.{slot_of_label}

pub not_mapped : {X Y : Type 0} (f : X → Y) (o : Option X) → None ≡ option_map f o → o ≡ None
not_mapped f None e = refl
not_mapped f (Some x) e = absurd (cc)

pub named_slot : {X : Type 0} (ss : Slots X) (i : ℕ) (n : List ℕ) → HaveDistinctLabels ss
    → Some n ≡ option_map (λ s. s.0) (slice_get ss i) → slot_of ss n ≡ Some i
named_slot ss i n h e =
    elim (slice_get ss i) as (λ o. slice_get ss i ≡ o → Some n ≡ option_map (λ s. s.0) o → slot_of ss n ≡ Some i) [
      | None ↦ λ g e. absurd (cc)
      | Some s ↦ λ g e. let same : n ≡ s.0 = cc in ap (slot_of ss) same ∙ slot_of_label ss i s h g
    ] refl e

pub some_named : (r : Option (Bor (List ℕ))) {o : Option (List ℕ)} → option_copied r ≡ o → (P : List ℕ → Type 0)
    → ((n : List ℕ) → Some n ≡ o → P n) → IfSome r (λ b. P b.now)
some_named None e P f = tt
some_named (Some b) e P f = f b.now e

module _ {X : Type 0} where
  slot_there : (ss : Slots X) (i : ℕ) → i < length ss → (s : List ℕ × Option X) × (slice_get ss i ≡ Some s)
  slot_there [] i h = absurd (omega (arith, h))
  slot_there (s ∷ ss) zero h = (s, refl)
  slot_there (s ∷ ss) (suc i) h = slot_there ss i (omega (arith, h))

  -- what was looked up in a slot that is there
  pub some_there : (ss : Slots X) (i : ℕ) (r : Option (Bor (List ℕ)))
      → option_copied r ≡ option_map (λ s. s.0) (slice_get ss i) → i < length ss → IsSome r
  some_there ss i None e h =
      let there = slot_there ss i h in
      let never : None ≡ Some there.0.0 = e ∙ ap (option_map (λ (s : List ℕ × Option X). s.0)) there.1 in
      absurd (cc)
  some_there ss i (Some b) e h = refl

pub not_text : (i : ℕ) (p : List ℕ) (kept : Kept)
    → ((x : Option (List ℕ)) → kept ≡ Text x → ⊥) → is_of_text (entry_of i p kept) ≡ false
not_text i p (Tree o) h = refl
not_text i p (Subterm o) h = refl
not_text i p (Annotations os) h = refl
not_text i p (Text x) h = absurd (h x refl)

pub in_trees : (s : Store) (i : ℕ) (p : List ℕ) (kept : Kept)
    → is_of_text (entry_of i p kept) ≡ false → HasSlot s (entry_of i p kept) → i < length s.trees
in_trees s i p (Tree o) e h = h
in_trees s i p (Subterm o) e h = h
in_trees s i p (Annotations os) e h = h
in_trees s i p (Text x) e h = absurd (cc)

pub tree_named : (s : Store) (i : ℕ) (p : List ℕ) (kept : Kept) (n : List ℕ) → HaveDistinctLabels s.trees
    → Some n ≡ option_map (λ s. s.0) (slice_get s.trees i)
    → is_of_text (entry_of i p kept) ≡ false → IsNamed s n (entry_of i p kept)
tree_named s i p (Tree o) n h e is = named_slot s.trees i n h e
tree_named s i p (Subterm o) n h e is = named_slot s.trees i n h e
tree_named s i p (Annotations os) n h e is = named_slot s.trees i n h e
tree_named s i p (Text x) n h e is = absurd (cc)

pub text_named : (s : Store) (i : ℕ) (n : List ℕ) → HaveDistinctLabels s.modules
    → Some n ≡ option_map (λ s. s.0) (slice_get s.modules i) → slot_of s.modules n ≡ Some i
text_named s i n h e = named_slot s.modules i n h e

-- ---- names that are found one after the other

pub AllAs-append : (P : List ℕ → Entry → Type 0) (ps : List (List ℕ × Entry)) (n : List ℕ) (e : Entry) → AllAs P ps
    → P n e → AllAs P (ps ++ (n, e) ∷ [])
AllAs-append P [] n e h x = (x, tt)
AllAs-append P (p ∷ ps) n e h x = (h.0, AllAs-append P ps n e h.1 x)

pairs_more : (xs : List NamedEntry) (x : NamedEntry)
    → pairs_of (xs ++ x ∷ []) ≡ pairs_of xs ++ (x.name.now, held_entry x.held) ∷ []
pairs_more xs x = map-append (λ x. (x.name.now, held_entry x.held)) xs (x ∷ [])

-- What was found, and then the entries that are left, are the log.
pub found_more : (xs : List NamedEntry) (x : NamedEntry) (rest new log : List Entry)
    → those (pairs_of xs) ++ rest ≡ log → rest ≡ held_entry x.held ∷ new → those (pairs_of (xs ++ x ∷ [])) ++ new ≡ log
found_more xs x rest new log is next =
    ap (λ ps. those ps ++ new) (pairs_more xs x)
    ∙ ap (λ es. es ++ new)
    (map-append (λ (p : List ℕ × Entry). p.1) (pairs_of xs) ((x.name.now, held_entry x.held) ∷ []))
    ∙ append_assoc (those (pairs_of xs)) (held_entry x.held ∷ []) new
    ∙ ap (λ es. those (pairs_of xs) ++ es) (sym next) ∙ is

pub named_more : (P : List ℕ → Entry → Type 0) (xs : List NamedEntry) (x : NamedEntry) → AllAs P (pairs_of xs)
    → P x.name.now (held_entry x.held) → AllAs P (pairs_of (xs ++ x ∷ []))
named_more P xs x all here =
    subst (AllAs P) (sym (pairs_more xs x)) (AllAs-append P (pairs_of xs) x.name.now (held_entry x.held) all here)

-- ---- entries that are told one after the other

module _ (asked : Option (List ℕ)) (s : Store) (xs : List NamedEntry) (i : ℕ) where
  pub next_told : (x : NamedEntry) → i < length xs → x ≡ get_or xs i x
      → flat_map (asked_lines asked s) (pairs_of (drop i xs)) ≡ asked_lines asked s (x.name.now, held_entry x.held)
      ++ flat_map (asked_lines asked s) (pairs_of (drop (i + 1) xs))
  next_told x h e =
      ap (λ l. flat_map (asked_lines asked s) (pairs_of l)) (drop_more xs i x h ∙ ap (λ y. y ∷ drop (i + 1) xs) (sym e))

  pub none_left : length xs ≤ i → flat_map (asked_lines asked s) (pairs_of (drop i xs)) ≡ []
  none_left h = ap (λ l. flat_map (asked_lines asked s) (pairs_of l)) (drop_all i xs h)

-- ---- entries in the order of their keys

own_path : (i : ℕ) (p : List ℕ) (kept : Kept) → IsPart (entry_of i p kept) → p ≡ path_of (entry_of i p kept)
own_path i p (Tree o) h = absurd h
own_path i p (Subterm o) h = refl
own_path i p (Annotations os) h = refl
own_path i p (Text x) h = absurd h

module _ (asked : Option (List ℕ)) (s : Store) (trees_are : HaveDistinctLabels s.trees)
    (texts_are : HaveDistinctLabels s.modules) where
  pub found_told : (log : List Entry) (xs ys : List NamedEntry)
      → those (pairs_of xs) ≡ log → AllAs (IsNamed s) (pairs_of xs) → IsPermutation xs ys
      → IsSortedBy (λ x y. is_lt
      (ordering_then (ordering_then (bool_cmp (is_of_text (held_entry x.held)) (is_of_text (held_entry y.held)))
      (slice_cmp nat_cmp x.name.now y.name.now)) (slice_cmp nat_cmp x.held.path.now y.held.path.now))) ys
      → IsCompact log → Fits log s → log_lines asked log s ≡ flat_map (asked_lines asked s) (pairs_of ys)
  found_told log xs ys is named perm up compact fits =
      sorted_told asked s trees_are texts_are log (pairs_of xs) (pairs_of ys) is named
      (IsPermutation-map (λ x. (x.name.now, held_entry x.held)) xs ys perm)
      (sorted_keyed (λ (x : NamedEntry). x.name.now) (λ (x : NamedEntry). x.held.path.now)
      (λ (x : NamedEntry). held_entry x.held) (λ x. own_path x.held.slot x.held.path.now x.held.kept.now) ys up)
      compact fits
