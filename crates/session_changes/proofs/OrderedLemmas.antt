-- Entries at disjoint places that are sorted by kind, name and path come in order.
use Rattle.std.proofs.Common.{◌≡◌, ℕ, ◌<◌, ◌⊎◌, inl, inr, true, false, List, [], ◌∷◌, refl, sym, ap, ◌∙◌, subst, append-nil}
use Rattle.std.specs.Ordering.{nat_cmp, ordering_then}
use Rattle.std.specs.declared.cmp.Ordering.TheVariants.{Less, Equal, Greater}
use Rattle.std.specs.Cmp.{ranked}
use Rattle.std.specs.Cmp.Lexicographic.{slice_cmp}
use Rattle.std.proofs.lemmas.Map.Lookups.{exact_bytes}
use Rattle.term_paths.specs.Paths as path
use Rattle.term_changes.specs.Slots.{Store}
use Rattle.term_changes.specs.Entries.{Entry, slot_tree, subterm, subterm_annotations, slot_text}
use Rattle.term_changes.specs.Compact.{EntriesAreApart}
use Rattle.session_changes.specs.inside.Told.{IsNamed, is_of_text}
use Rattle.session_changes.proofs.AgreeLemmas.{Later}
use Rattle.session_changes.proofs.OneTreeLemmas.{path_of}
use Rattle.session_changes.proofs.LogTold.{Comes, same_slot, same_text_slot}

nat_less : (i j : ℕ) → nat_cmp i j ≡ Less → i < j
nat_less i j e = ranked i j Less (sym e)

nat_equal : (i j : ℕ) → nat_cmp i j ≡ Equal → i ≡ j
nat_equal i j e = ranked i j Equal (sym e)

longer : (i : ℕ) (p q : List ℕ) → (path.LiesWithin (i ∷ p) (i ∷ q) → ⊥) → path.LiesWithin p q → ⊥
longer i p q never h = never (h.0, ap (λ l. i ∷ l) h.1)

longer_same : (i : ℕ) (p q : List ℕ) → (i ∷ p ≡ i ∷ q → ⊥) → p ≡ q → ⊥
longer_same i p q never e = never (ap (λ l. i ∷ l) e)

-- a path that doesn't come after another, within which that doesn't lie
later_part : (p q : List ℕ) → (slice_cmp nat_cmp p q ≡ Greater → ⊥) → (path.LiesWithin q p → ⊥) → Later ⊥ p q
later_part [] q le never = absurd (never (q, refl))
later_part (i ∷ p) [] le never = absurd (le refl)
later_part (i ∷ p) (j ∷ q) le never =
    elim (nat_cmp i j) as (λ r.
    nat_cmp i j ≡ r → (ordering_then r (slice_cmp nat_cmp p q) ≡ Greater → ⊥) → (i < j) ⊎ ((i ≡ j) × Later ⊥ p q)) [
      | Less ↦ λ e h. inl (nat_less i j e)
      | Equal ↦ λ e h.
          let same = nat_equal i j e in
          inr (same, later_part p q h (longer j q p (subst (λ n. path.LiesWithin (j ∷ q) (n ∷ p) → ⊥) same never)))
      | Greater ↦ λ e h. absurd (h refl)
    ] refl le

later_notes : (p q : List ℕ) → (slice_cmp nat_cmp p q ≡ Greater → ⊥) → (p ≡ q → ⊥) → Later (Unit {0}) p q
later_notes [] [] le never = absurd (never refl)
later_notes [] (j ∷ q) le never = tt
later_notes (i ∷ p) [] le never = absurd (le refl)
later_notes (i ∷ p) (j ∷ q) le never =
    elim (nat_cmp i j) as (λ r. nat_cmp i j
    ≡ r → (ordering_then r (slice_cmp nat_cmp p q) ≡ Greater → ⊥) → (i < j) ⊎ ((i ≡ j) × Later (Unit {0}) p q)) [
      | Less ↦ λ e h. inl (nat_less i j e)
      | Equal ↦ λ e h.
          let same = nat_equal i j e in
          inr (same, later_notes p q h (longer_same j p q (subst (λ n. n ∷ p ≡ j ∷ q → ⊥) same never)))
      | Greater ↦ λ e h. absurd (h refl)
    ] refl le

-- ---- two entries

-- The first one's kind, name and path don't come after the second one's.
pub record NotAfter (n p : List ℕ) (e : Entry) (m q : List ℕ) (d : Entry) : Type 0 where
  pub kinds : is_of_text e ≡ true → is_of_text d ≡ false → ⊥
  pub names : is_of_text e ≡ is_of_text d → slice_cmp nat_cmp n m ≡ Greater → ⊥
  pub paths : is_of_text e ≡ is_of_text d → n ≡ m → slice_cmp nat_cmp p q ≡ Greater → ⊥

-- one name before another, or the same
by_name : (n m : List ℕ) (P : Type 0)
    → (slice_cmp nat_cmp n m ≡ Greater → ⊥) → (slice_cmp nat_cmp n m ≡ Less → P) → (n ≡ m → P) → P
by_name n m P le less same =
    elim (slice_cmp nat_cmp n m) as (λ r. slice_cmp nat_cmp n m ≡ r → P) [
      | Less ↦ λ e. less e
      | Equal ↦ λ e. same (exact_bytes n m e)
      | Greater ↦ λ e. absurd (le e)
    ] refl

module _ (s : Store) (n m : List ℕ) where
  pub comes : (e d : Entry) → IsNamed s n e → IsNamed s m d → EntriesAreApart e d
      → NotAfter n (path_of e) e m (path_of d) d → Comes n e m d
  comes (slot_tree i o) (slot_tree j x) f g apart le =
      by_name n m _ (le.names refl) (λ h. h) (λ h. absurd (apart.0 (same_slot s n m i j f g h)))
  comes (slot_tree i o) (subterm j q x) f g apart le =
      by_name n m _ (le.names refl) (λ h. h) (λ h. absurd (apart.1 (sym (same_slot s n m i j f g h))))
  comes (slot_tree i o) (subterm_annotations j q x) f g apart le =
      by_name n m _ (le.names refl) (λ h. h) (λ h. absurd (apart.1 (sym (same_slot s n m i j f g h))))
  comes (slot_tree i o) (slot_text j y) f g apart le = tt
  comes (subterm i p t) (slot_tree j x) f g apart le =
      by_name n m _ (le.names refl) (λ h. h) (λ h. absurd (apart.0 (same_slot s n m i j f g h)))
  comes (subterm i p t) (subterm j q x) f g apart le =
      by_name n m _ (le.names refl) (λ h. inl h)
      (λ h. inr (h, later_part p q (le.paths refl h) (λ w. apart.1 (sym (same_slot s n m i j f g h), w))))
  comes (subterm i p t) (subterm_annotations j q x) f g apart le =
      by_name n m _ (le.names refl) (λ h. inl h)
      (λ h. inr (h, later_part p q (le.paths refl h) (λ w. apart.1 (sym (same_slot s n m i j f g h), w))))
  comes (subterm i p t) (slot_text j y) f g apart le = tt
  comes (subterm_annotations i p t) (slot_tree j x) f g apart le =
      by_name n m _ (le.names refl) (λ h. h) (λ h. absurd (apart.0 (same_slot s n m i j f g h)))
  comes (subterm_annotations i p t) (subterm j q x) f g apart le =
      by_name n m _ (le.names refl) (λ h. inl h)
      (λ h. inr
      (h, later_notes p q (le.paths refl h) (λ e. apart.0 (same_slot s n m i j f g h, ([], e ∙ sym (append-nil q))))))
  comes (subterm_annotations i p t) (subterm_annotations j q x) f g apart le =
      by_name n m _ (le.names refl) (λ h. inl h)
      (λ h. inr (h, later_notes p q (le.paths refl h) (λ e. apart.0 (same_slot s n m i j f g h, e))))
  comes (subterm_annotations i p t) (slot_text j y) f g apart le = tt
  comes (slot_text i y) (slot_tree j x) f g apart le = absurd (le.kinds refl refl)
  comes (slot_text i y) (subterm j q x) f g apart le = absurd (le.kinds refl refl)
  comes (slot_text i y) (subterm_annotations j q x) f g apart le = absurd (le.kinds refl refl)
  comes (slot_text i y) (slot_text j z) f g apart le =
      by_name n m _ (le.names refl) (λ h. h) (λ h. absurd (apart.0 (same_text_slot s n m i j f g h)))
