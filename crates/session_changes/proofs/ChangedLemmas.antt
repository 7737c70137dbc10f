-- The lines of a change in one slot.
use Rattle.std.proofs.Common.{◌≡◌, ℕ, zero, suc, ◌+◌, true, false, cond, ◌||◌, List, [], ◌∷◌, ◌++◌, map, slice_get, Some, None, option_map, refl, sym, ap, ◌∙◌, append-nil, arith, nat_eq, if◌then◌else◌}
use Rattle.std.specs.Prelude.{option_and_then}
use Rattle.std.specs.declared.option.Option.{Option}
use Rattle.std.specs.List.{AllByRecursion}
use Rattle.std.specs.List.Sorted.{IsStrictlySortedBy}
use Rattle.std.specs.Ordering.{nat_cmp, eq_by_cmp}
use Rattle.std.specs.Cmp.Lexicographic.{slice_cmp, pointwise, nat_list_cmp_total, bytes_decides}
use Rattle.std.specs.Str.{bytes_eq}
use Rattle.std.specs.FinMap.{get-insert, get-remove}
use Rattle.std.specs.FinMap as finmap
use Rattle.std.proofs.lemmas.Map.Text.{is_eq-slice_cmp}
use Rattle.std.proofs.lemmas.Map.Keys.{IsDistinct-head, IsDistinct-tail}
use Rattle.std.proofs.lemmas.Cmp.{nat_list_eq_equiv}
use Rattle.term_core.specs.Tree.{Tree}
use Rattle.term_changes.specs.Contents.{Contents, Named}
use Rattle.term_changes.specs.Slots.{Slots, Store, HaveDistinctLabels, labels, content, slot_of, contents}
use Rattle.term_changes.specs.Entries.{slot_tree, slot_text, put}
use Rattle.term_changes.proofs.ContentsLemmas.{tree_put, tree_taken, module_put, module_taken, tree_of_name, module_of_name}
use Rattle.session_history.specs.Differences.{difference_line, tree_lines, text_lines, changes_of}
use Rattle.session_changes.specs.inside.Told.{IsAsked}
use Rattle.session_changes.proofs.DifferenceLemmas.{differences_same}
use Rattle.session_changes.proofs.NamesLemmas.{among, asked_of, lines_by_name}

-- ---- nothing changed

same_bytes : (x : List ℕ) → bytes_eq x x ≡ true
same_bytes x = (bytes_decides x x).1 refl

pub tree_unchanged : (q : List ℕ) (o : Option Tree) → tree_lines q o o ≡ []
tree_unchanged q None = refl
tree_unchanged q (Some t) = ap (map (difference_line q)) (differences_same [] t)

pub text_unchanged : (q : List ℕ) (o : Option (List ℕ)) → text_lines q o o ≡ []
text_unchanged q None = refl
text_unchanged q (Some x) = rw (same_bytes x) refl

module _ {X : Type 0} (lines : List ℕ → Option X → Option X → List (List ℕ))
    (nothing : (q : List ℕ) (o : Option X) → lines q o o ≡ []) where
  pub unchanged : (asked : Option (List ℕ)) (a : Named X) → asked_of lines asked a a ≡ []
  unfolding IsStrictlySortedBy
  unchanged None a = lines_by_name lines nothing a a [] tt (λ q e. refl)
  unchanged (Some n) a = ap (λ l. l ++ []) (nothing n (finmap.get a n))

  -- where at most one name changed
  module _ (a b : Named X) (name : List ℕ)
      (others : (q : List ℕ) → among (name ∷ []) q ≡ false → finmap.get a q ≡ finmap.get b q) where
    pub one_name : (asked : Option (List ℕ)) → IsAsked asked name
        → asked_of lines asked a b ≡ lines name (finmap.get a name) (finmap.get b name)
    unfolding IsStrictlySortedBy
    one_name None h = lines_by_name lines nothing a b (name ∷ []) (tt, tt) others
        ∙ append-nil (lines name (finmap.get a name) (finmap.get b name))
    one_name (Some n) h = (λ k. lines (h k) (finmap.get a (h k)) (finmap.get b (h k)) ++ [])
        ∙ append-nil (lines name (finmap.get a name) (finmap.get b name))

    pub other_name : (asked : Option (List ℕ)) → (IsAsked asked name → ⊥) → asked_of lines asked a b ≡ []
    other_name None never = absurd (never tt)
    other_name (Some n) never =
        let apart : among (name ∷ []) n ≡ false = is_apart n never in
        ap (λ o. lines n o (finmap.get b n) ++ []) (others n apart) ∙ ap (λ l. l ++ []) (nothing n (finmap.get b n))
      where
        is_apart : (n : List ℕ) → (n ≡ name → ⊥) → among (name ∷ []) n ≡ false
        is_apart n never = elim (eq_by_cmp (slice_cmp nat_cmp) n name) as (λ b.
            eq_by_cmp (slice_cmp nat_cmp) n name ≡ b → (b || false) ≡ false) [
              | true ↦ λ e. absurd (never ((bytes_decides n name).0 (sym (is_eq-slice_cmp n name) ∙ e)))
              | false ↦ λ e. refl
            ] refl

pub changes_split : (asked : Option (List ℕ)) (a b : Contents)
    → changes_of asked a b ≡ asked_of tree_lines asked a.trees b.trees ++ asked_of text_lines asked a.modules b.modules
changes_split None a b = refl
changes_split (Some n) a b = refl

-- ---- a map with another value for a name

module _ {X : Type 0} (m : Named X) (name : List ℕ) where
  tie : eq_by_cmp (slice_cmp nat_cmp) name name ≡ true
  tie = is_eq-slice_cmp name name ∙ same_bytes name

  no_tie : (q : List ℕ) → among (name ∷ []) q ≡ false → eq_by_cmp (slice_cmp nat_cmp) q name ≡ false
  no_tie q e = elim (eq_by_cmp (slice_cmp nat_cmp) q name) as (λ b.
      (b || false) ≡ false → b ≡ false) [ true ↦ λ h. h | false ↦ λ h. h ] e

  pub put_here : (x : X) → finmap.get (finmap.insert m name x) name ≡ Some x
  put_here x = get-insert nat_list_cmp_total m name x name ∙ ap (λ b. cond b (Some x) (finmap.get m name)) tie

  pub put_elsewhere : (x : X) (q : List ℕ)
      → among (name ∷ []) q ≡ false → finmap.get (finmap.insert m name x) q ≡ finmap.get m q
  put_elsewhere x q e = get-insert nat_list_cmp_total m name x q
      ∙ ap (λ b. cond b (Some x) (finmap.get m q)) (no_tie q e)

  pub taken_here : finmap.get (finmap.remove m name) name ≡ None
  taken_here = get-remove nat_list_cmp_total m name name ∙ ap (λ b. cond b None (finmap.get m name)) tie

  pub taken_elsewhere : (q : List ℕ)
      → among (name ∷ []) q ≡ false → finmap.get (finmap.remove m name) q ≡ finmap.get m q
  taken_elsewhere q e = get-remove nat_list_cmp_total m name q ∙ ap (λ b. cond b None (finmap.get m q)) (no_tie q e)

-- ---- the slot of a label

module _ {X : Type 0} where
  pub slot_of_label : (ss : Slots X) (i : ℕ) (s : List ℕ × Option X) → HaveDistinctLabels ss → slice_get ss i ≡ Some s
      → slot_of ss s.0 ≡ Some i
  slot_of_label [] i s h e = absurd (cc)
  slot_of_label (x ∷ ss) zero s h e =
      let is : x ≡ s = cc in
      ap (λ b. if b then Some 0 else option_map (λ i. i + 1) (slot_of ss s.0))
      (ap (λ y. pointwise nat_eq s.0 y.0) is ∙ same_bytes s.0)
  slot_of_label (x ∷ ss) (suc i) s h e =
      ap (λ b. if b then Some 0 else option_map (λ i. i + 1) (slot_of ss s.0))
      (nat_list_eq_equiv.symm s.0 x.0 ∙ other ss i (IsDistinct-head _ _ _ h) e)
      ∙ ap (option_map (λ i. i + 1)) (slot_of_label ss i s (IsDistinct-tail _ _ _ h) e)
      ∙ ap Some (add_one_more i)
    where
      other : (ss : Slots X) (i : ℕ) → AllByRecursion (λ y. pointwise nat_eq x.0 y ≡ false) (labels ss)
          → slice_get ss i ≡ Some s → pointwise nat_eq x.0 s.0 ≡ false
      other [] i a g = absurd (cc)
      other (y ∷ ys) zero a g = let is : y ≡ s = cc in ap (λ z. pointwise nat_eq x.0 z.0) (sym is) ∙ a.0
      other (y ∷ ys) (suc i) a g = other ys i a.1 g

      add_one_more : (i : ℕ) → i + 1 ≡ suc i
      add_one_more i = omega arith

-- ---- in a store

-- Another tree in the slot of a name, or none, is a change of that name alone.
module _ (s : Store) (i : ℕ) (name : List ℕ) (apart : HaveDistinctLabels s.trees)
    (slot : slot_of s.trees name ≡ Some i) where
  pub now_is : finmap.get (contents s).trees name ≡ content s.trees i
  now_is = tree_of_name s name apart ∙ ap (option_and_then (content s.trees)) slot

  pub before_is : (c : Option Tree) → finmap.get (contents (put (slot_tree i c) s)).trees name ≡ c
  before_is None = ap (λ (x : Contents). finmap.get x.trees name) (tree_taken s name i apart slot)
      ∙ taken_here (contents s).trees name
  before_is (Some t) = ap (λ (x : Contents). finmap.get x.trees name) (tree_put s name i t slot)
      ∙ put_here (contents s).trees name t

  pub others_are : (c : Option Tree) (q : List ℕ) → among (name ∷ []) q
      ≡ false → finmap.get (contents (put (slot_tree i c) s)).trees q ≡ finmap.get (contents s).trees q
  others_are None q e = ap (λ (x : Contents). finmap.get x.trees q) (tree_taken s name i apart slot)
      ∙ taken_elsewhere (contents s).trees name q e
  others_are (Some t) q e = ap (λ (x : Contents). finmap.get x.trees q) (tree_put s name i t slot)
      ∙ put_elsewhere (contents s).trees name t q e

  pub tree_changes : (c : Option Tree) (asked : Option (List ℕ)) → IsAsked asked name
      → changes_of asked (contents (put (slot_tree i c) s)) (contents s) ≡ tree_lines name c (content s.trees i)
  tree_changes c asked h =
      let a = contents (put (slot_tree i c) s) in
      let b = contents s in
      changes_split asked a b
      ∙ ap (λ l. l ++ asked_of text_lines asked a.modules b.modules)
      (one_name tree_lines tree_unchanged a.trees b.trees name (others_are c) asked h)
      ∙ ap (λ l. tree_lines name (finmap.get a.trees name) (finmap.get b.trees name) ++ l)
      (unchanged text_lines text_unchanged asked b.modules)
      ∙ append-nil (tree_lines name (finmap.get a.trees name) (finmap.get b.trees name))
      ∙ (λ k. tree_lines name (before_is c k) (now_is k))

  pub no_tree_changes : (c : Option Tree) (asked : Option (List ℕ))
      → (IsAsked asked name → ⊥) → changes_of asked (contents (put (slot_tree i c) s)) (contents s) ≡ []
  no_tree_changes c asked never =
      let a = contents (put (slot_tree i c) s) in
      let b = contents s in
      changes_split asked a b
      ∙ ap (λ l. l ++ asked_of text_lines asked a.modules b.modules)
      (other_name tree_lines tree_unchanged a.trees b.trees name (others_are c) asked never)
      ∙ unchanged text_lines text_unchanged asked b.modules

-- So is another module text.
module _ (s : Store) (i : ℕ) (name : List ℕ) (apart : HaveDistinctLabels s.modules)
    (slot : slot_of s.modules name ≡ Some i) where
  pub text_now : finmap.get (contents s).modules name ≡ content s.modules i
  text_now = module_of_name s name apart ∙ ap (option_and_then (content s.modules)) slot

  pub text_before : (c : Option (List ℕ)) → finmap.get (contents (put (slot_text i c) s)).modules name ≡ c
  text_before None = ap (λ (x : Contents). finmap.get x.modules name) (module_taken s name i apart slot)
      ∙ taken_here (contents s).modules name
  text_before (Some t) = ap (λ (x : Contents). finmap.get x.modules name) (module_put s name i t slot)
      ∙ put_here (contents s).modules name t

  pub other_texts : (c : Option (List ℕ)) (q : List ℕ) → among (name ∷ []) q
      ≡ false → finmap.get (contents (put (slot_text i c) s)).modules q ≡ finmap.get (contents s).modules q
  other_texts None q e = ap (λ (x : Contents). finmap.get x.modules q) (module_taken s name i apart slot)
      ∙ taken_elsewhere (contents s).modules name q e
  other_texts (Some t) q e = ap (λ (x : Contents). finmap.get x.modules q) (module_put s name i t slot)
      ∙ put_elsewhere (contents s).modules name t q e

  pub text_changes : (c : Option (List ℕ)) (asked : Option (List ℕ)) → IsAsked asked name
      → changes_of asked (contents (put (slot_text i c) s)) (contents s) ≡ text_lines name c (content s.modules i)
  text_changes c asked h =
      let a = contents (put (slot_text i c) s) in
      let b = contents s in
      changes_split asked a b
      ∙ ap (λ l. l ++ asked_of text_lines asked a.modules b.modules) (unchanged tree_lines tree_unchanged asked b.trees)
      ∙ one_name text_lines text_unchanged a.modules b.modules name (other_texts c) asked h
      ∙ (λ k. text_lines name (text_before c k) (text_now k))

  pub no_text_changes : (c : Option (List ℕ)) (asked : Option (List ℕ))
      → (IsAsked asked name → ⊥) → changes_of asked (contents (put (slot_text i c) s)) (contents s) ≡ []
  no_text_changes c asked never =
      let a = contents (put (slot_text i c) s) in
      let b = contents s in
      changes_split asked a b
      ∙ ap (λ l. l ++ asked_of text_lines asked a.modules b.modules) (unchanged tree_lines tree_unchanged asked b.trees)
      ∙ other_name text_lines text_unchanged a.modules b.modules name (other_texts c) asked never
