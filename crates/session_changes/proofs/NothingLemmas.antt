-- Nothing is listed exactly where nothing changed.
use Rattle.std.proofs.Common.{◌≡◌, ℕ, Bool, true, false, ◌||◌, List, [], ◌∷◌, ◌++◌, codes, map, Some, None, refl, sym, ap, ◌∙◌, if◌then◌else◌}
use Rattle.std.specs.declared.option.Option.{Option}
use Rattle.std.specs.List.Sorted.{IsStrictlySortedBy}
use Rattle.std.specs.Ordering.{nat_cmp, eq_by_cmp}
use Rattle.std.specs.Cmp.Lexicographic.{slice_cmp, bytes_decides}
use Rattle.std.specs.Str.{bytes_eq}
use Rattle.std.specs.FinMap as finmap
use Rattle.term_core.specs.Tree.{Tree}
use Rattle.term_changes.specs.Contents.{Named}
use Rattle.session_history.specs.Differences.{difference_line, differences, tree_lines, text_lines, text_line, names_of, lines_of}
use Rattle.session_changes.specs.DifferenceLaws.{all_put_back, NothingListedIsNothingChanged}
use Rattle.session_changes.proofs.BackLemmas.{differences_lead_back}
use Rattle.session_changes.proofs.NamesLemmas.{among, ties_same, not_among, lines_by_name}
use Rattle.session_changes.proofs.ChangedLemmas.{tree_unchanged, text_unchanged}

empty_parts : {A : Type 0} (xs ys : List A) → xs ++ ys ≡ [] → (xs ≡ []) × (ys ≡ [])
empty_parts [] ys e = (refl, e)
empty_parts (x ∷ xs) ys e = absurd (cc)

no_parts : {A B : Type 0} (f : A → B) (xs : List A) → map f xs ≡ [] → xs ≡ []
no_parts f [] e = refl
no_parts f (x ∷ xs) e = absurd (cc)

-- what has no line is the same
same_tree : (q : List ℕ) (o p : Option Tree) → tree_lines q o p ≡ [] → o ≡ p
same_tree q None None e = refl
same_tree q None (Some u) e = absurd (cc)
same_tree q (Some t) None e = absurd (cc)
same_tree q (Some t) (Some u) e =
    ap Some
    (sym (differences_lead_back t u) ∙ ap (all_put_back u) (no_parts (difference_line q) (differences [] t u) e))

same_text : (q : List ℕ) (o p : Option (List ℕ)) → text_lines q o p ≡ [] → o ≡ p
same_text q None None e = refl
same_text q None (Some y) e = absurd (cc)
same_text q (Some x) None e = absurd (cc)
same_text q (Some x) (Some y) e = go (bytes_eq x y) refl e
  where
    go : (b : Bool) → bytes_eq x y ≡ b → (if b then [] else text_line q (codes "changed") ∷ []) ≡ [] → Some x ≡ Some y
    go true test h = ap Some ((bytes_decides x y).0 test)
    go false test h = absurd (cc)

module _ {X : Type 0} (lines : List ℕ → Option X → Option X → List (List ℕ)) where
  module _ (a b : Named X) where
    -- the lines of a name that is one of these
    among_none : (ns : List (List ℕ)) (q : List ℕ)
        → among ns q ≡ true → lines_of lines a b ns ≡ [] → lines q (finmap.get a q) (finmap.get b q) ≡ []
    among_none [] q e h = absurd (cc)
    among_none (k ∷ ns) q e h =
        let parts : (lines k (finmap.get a k) (finmap.get b k) ≡ []) × (lines_of lines a b ns ≡ []) =
        empty_parts (lines k (finmap.get a k) (finmap.get b k)) (lines_of lines a b ns) h in
        elim (eq_by_cmp (slice_cmp nat_cmp) q k) as (λ c. eq_by_cmp (slice_cmp nat_cmp) q k ≡ c → (c || among ns q)
        ≡ true → lines q (finmap.get a q) (finmap.get b q) ≡ []) [
          | true ↦ λ tie t. ap (λ n. lines n (finmap.get a n) (finmap.get b n)) (ties_same q k tie) ∙ parts.0
          | false ↦ λ tie t. among_none ns q t parts.1
        ] refl e

    pub all_same : ((q : List ℕ) (o p : Option X) → lines q o p ≡ [] → o ≡ p) → lines_of lines a b (names_of a b)
        ≡ [] → (q : List ℕ) → finmap.get a q ≡ finmap.get b q
    all_same same h q = go (among (names_of a b) q) refl
      where
        go : (c : Bool) → among (names_of a b) q ≡ c → finmap.get a q ≡ finmap.get b q
        go true e = same q (finmap.get a q) (finmap.get b q) (among_none (names_of a b) q e h)
        go false e = let neither = not_among a b q e in neither.0 ∙ sym neither.1

    pub none_told : ((q : List ℕ) (o : Option X) → lines q o o ≡ []) → ((q : List ℕ) → finmap.get a q ≡ finmap.get b q)
        → lines_of lines a b (names_of a b) ≡ []
    unfolding IsStrictlySortedBy
    none_told nothing same = lines_by_name lines nothing a b [] tt (λ q e. same q)

pub nothing_listed : NothingListedIsNothingChanged
nothing_listed a b = (
  λ e. let parts = empty_parts (lines_of tree_lines a.trees b.trees (names_of a.trees b.trees))
      (lines_of text_lines a.modules b.modules (names_of a.modules b.modules)) e in
      λ name. (
        all_same tree_lines a.trees b.trees same_tree parts.0 name,
        all_same text_lines a.modules b.modules same_text parts.1 name,
      ),
  λ same.
      (λ i. none_told tree_lines a.trees b.trees tree_unchanged (λ q. (same q).0) i
      ++ none_told text_lines a.modules b.modules text_unchanged (λ q. (same q).1) i),
)
