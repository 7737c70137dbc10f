-- What entries at places in order tell of one tree.
use Rattle.std.proofs.Common.{◌≡◌, ℕ, true, List, [], ◌∷◌, ◌++◌, slice_get, Some, None, refl, sym, ap, ◌∙◌, append-nil}
use Rattle.std.specs.List.{flat_map}
use Rattle.std.specs.Option.{option_map_or}
use Rattle.term_core.specs.Tree.{Tree, of_list, children, annotations, with_annotations, with_child}
use Rattle.term_paths.specs.Paths.{at}
use Rattle.term_paths.proofs.PathLemmas.{changed_at}
use Rattle.term_changes.specs.Entries.{Entry, slot_tree, subterm, subterm_annotations, slot_text}
use Rattle.session_history.specs.Differences.{Difference, annotated, differences, differences_from}
use Rattle.session_changes.specs.DifferenceLaws.{same_root}
use Rattle.session_changes.proofs.DifferenceLemmas.{differences_same, differ_below, annotated_same, root_same, root_kept, child_kept, child_notes}
use Rattle.session_changes.proofs.AgreeLemmas.{Along, Later, change_differs, along_itself, later_kept}

-- ---- one entry

-- what an entry does to its slot's tree
abbrev pub change_of : Entry → Tree → Tree
change_of (slot_tree i t) x = x
change_of (subterm i p t) x = t
change_of (subterm_annotations i p ts) x = with_annotations x ts
change_of (slot_text i y) x = x

abbrev pub path_of : Entry → List ℕ
path_of (slot_tree i t) = []
path_of (subterm i p t) = p
path_of (subterm_annotations i p ts) = p
path_of (slot_text i y) = []

-- how the subterm at the path differs from the one before the entry
abbrev pub told_at : Entry → List ℕ → Tree → List Difference
told_at (slot_tree i t) p w = []
told_at (subterm i q t) p w = differences p t w
told_at (subterm_annotations i q ts) p w = annotated p (of_list ts) (of_list (annotations w))
told_at (slot_text i y) p w = []

-- whether there may be entries below its place
abbrev pub MayGoOn : Entry → Type 0
MayGoOn (slot_tree i t) = ⊥
MayGoOn (subterm i p t) = ⊥
MayGoOn (subterm_annotations i p ts) = Unit {0}
MayGoOn (slot_text i y) = ⊥

-- in what two trees agree at its place
abbrev pub Agrees : Entry → Tree → Tree → Type 0
Agrees (slot_tree i t) x u = x ≡ u
Agrees (subterm i p t) x u = x ≡ u
Agrees (subterm_annotations i p ts) x u = (same_root x u ≡ true) × (annotations x ≡ annotations u)
Agrees (slot_text i y) x u = x ≡ u

pub agrees_itself : (e : Entry) (t : Tree) → Agrees e t t
agrees_itself (slot_tree i x) t = refl
agrees_itself (subterm i p x) t = refl
agrees_itself (subterm_annotations i p ts) t = (root_same t, refl)
agrees_itself (slot_text i y) t = refl

same_trees_differ : (q : List ℕ) (t u : Tree) → t ≡ u → differences q t u ≡ []
same_trees_differ q t u e = ap (λ x. differences q x u) e ∙ differences_same q u

pub told_at_end : (e : Entry) (q : List ℕ) (t u : Tree) → Agrees e t u
    → differences q (change_of e t) u ≡ told_at e q u ++ differences q t u
told_at_end (slot_tree i x) q t u h = refl
told_at_end (subterm i p x) q t u h = sym (append-nil (differences q x u))
    ∙ ap (λ l. differences q x u ++ l) (sym (same_trees_differ q t u h))
told_at_end (subterm_annotations i p ts) q t u h =
    let annotations_now = root_kept t ts in
    let below = differences_from q 0 (of_list (children t)) (of_list (children u)) in
    differ_below q (with_annotations t ts) u (annotations_now.0 u ∙ h.0)
    ∙ (λ k. annotated q (of_list (annotations_now.1 k)) (of_list (annotations u))
    ++ differences_from q 0 (of_list (annotations_now.2 k)) (of_list (children u)))
    ∙ ap (λ l. annotated q (of_list ts) (of_list (annotations u)) ++ l)
    (ap (λ l. l ++ below) (sym (annotated_same q (of_list (annotations u)))
    ∙ (λ k. annotated q (of_list (sym h.1 k)) (of_list (annotations u)))) ∙ sym (differ_below q t u h.0))
told_at_end (slot_text i y) q t u h = refl

root_below : (g : Tree → Tree) (t u : Tree) (j : ℕ) (r : List ℕ)
    → (same_root t u ≡ true) × (annotations t ≡ annotations u)
    → (same_root (changed_at g t (j ∷ r)) u ≡ true) × (annotations (changed_at g t (j ∷ r)) ≡ annotations u)
root_below g t u j r h =
    elim (slice_get (children t) j) as (λ o.
    (same_root (option_map_or (λ kid. with_child t j (changed_at g kid r)) o t) u ≡ true)
    × (annotations (option_map_or (λ kid. with_child t j (changed_at g kid r)) o t) ≡ annotations u)) [
      | None ↦ h
      | Some kid ↦ (child_kept t j (changed_at g kid r) u h.0, child_notes t j (changed_at g kid r) ∙ h.1)
    ]

pub agrees_kept : (e : Entry) (g : Tree → Tree) (t u : Tree) → Agrees e t u → MayGoOn e → (j : ℕ) (r : List ℕ)
    → Agrees e (changed_at g t (j ∷ r)) u
agrees_kept (slot_tree i x) g t u h may j r = absurd may
agrees_kept (subterm i p x) g t u h may j r = absurd may
agrees_kept (subterm_annotations i p ts) g t u h may j r = root_below g t u j r h
agrees_kept (slot_text i y) g t u h may j r = absurd may

-- ---- entries in order

-- the tree before them: the newest first
abbrev pub tree_before : List Entry → Tree → Tree
tree_before [] u = u
tree_before (e ∷ es) u = changed_at (change_of e) (tree_before es u) (path_of e)

abbrev pub AllLater : Entry → List Entry → Type 0
AllLater d [] = Unit {0}
AllLater d (e ∷ es) = Later (MayGoOn d) (path_of d) (path_of e) × AllLater d es

-- each place comes before those of the others, and is there
abbrev pub AreTold : Tree → List Entry → Type 0
AreTold u [] = Unit {0}
AreTold u (e ∷ es) = AllLater e es × ((w : Tree) × (at u (path_of e) ≡ Some w)) × AreTold u es

abbrev pub told : Tree → Entry → List Difference
told u e = option_map_or (told_at e (path_of e)) (at u (path_of e)) []

agree_before : (d : Entry) (es : List Entry) (u : Tree) → Along (Agrees d) (path_of d) u u → AllLater d es
    → Along (Agrees d) (path_of d) (tree_before es u) u
agree_before d [] u h later = h
agree_before d (e ∷ es) u h later =
    later_kept (Agrees d) (MayGoOn d) (change_of e) (agrees_kept d (change_of e)) (path_of d) (path_of e)
    (tree_before es u) u (agree_before d es u h later.1) later.0

-- Together they tell how the tree differs from the one before them.
pub all_told : (es : List Entry) (u : Tree) → AreTold u es → differences [] (tree_before es u) u ≡ flat_map (told u) es
all_told [] u h = differences_same [] u
all_told (e ∷ es) u h =
    let w = h.1.0 in
    let agree = agree_before e es u (along_itself (Agrees e) (agrees_itself e) (path_of e) u w h.1.1) h.0 in
    change_differs (change_of e) (told_at e) (Agrees e) (told_at_end e) [] (path_of e) (tree_before es u) u w
    agree h.1.1
    ∙ (λ k. option_map_or (told_at e (path_of e)) (sym h.1.1 k) [] ++ all_told es u h.2 k)
