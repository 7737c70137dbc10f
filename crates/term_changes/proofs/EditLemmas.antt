use Rattle.std.proofs.Common.{◌≡◌, ℕ, List, [], ◌∷◌, set, slice_get, Some, None, refl, sym, ap, ◌∙◌, zero, suc}
use Rattle.term_core.specs.Tree.{Tree, children, with_children}
use Rattle.term_paths.specs.Paths.{set_at}
use Rattle.term_paths.proofs.PathLemmas.{set_at-child}
use Rattle.term_changes.specs.Change.{Change, same, inside, replaced, Changes, no_more, and_then, changed, changed_all}
use Rattle.term_changes.specs.EditChanges.{nth_change, with_nth, and_edit, EditsComeTo}
use Rattle.term_changes.proofs.NodeLemmas.{children-with_children, with_children-with_children, same_children}
use Rattle.term_changes.proofs.PlacesMade.{put_all}
use Rattle.term_changes.proofs.FollowLemmas.{length-changed}

nth-changed : (cs : Changes) (us : List Tree) (i : ℕ) (v : Tree) → slice_get us i ≡ Some v
    → slice_get (changed_all cs us) i ≡ Some (changed (nth_change cs i) v)
nth-changed no_more us i v h = h
nth-changed (and_then c cs) [] i v h = absurd (cc)
nth-changed (and_then c cs) (u ∷ us) zero v h = let same_tree : u ≡ v = cc in ap (λ x. Some (changed c x)) same_tree
nth-changed (and_then c cs) (u ∷ us) (suc i) v h = nth-changed cs us i v h

nth-past : (cs : Changes) (us : List Tree) (i : ℕ) → slice_get us i ≡ None → slice_get (changed_all cs us) i ≡ None
nth-past no_more us i h = h
nth-past (and_then c cs) [] i h = h
nth-past (and_then c cs) (u ∷ us) zero h = absurd (cc)
nth-past (and_then c cs) (u ∷ us) (suc i) h = nth-past cs us i h

changed-with : (cs : Changes) (us : List Tree) (i : ℕ) (d : Change) (v : Tree) → slice_get us i ≡ Some v
    → changed_all (with_nth cs i d) us ≡ set (changed_all cs us) i (changed d v)
changed-with no_more [] i d v h = absurd (cc)
changed-with no_more (u ∷ us) zero d v h = let same_tree : u ≡ v = cc in ap (λ x. changed d x ∷ us) same_tree
changed-with no_more (u ∷ us) (suc i) d v h = ap (λ l. u ∷ l) (changed-with no_more us i d v h)
changed-with (and_then c cs) [] i d v h = absurd (cc)
changed-with (and_then c cs) (u ∷ us) zero d v h = let same_tree : u ≡ v = cc in
    ap (λ x. changed d x ∷ changed_all cs us) same_tree
changed-with (and_then c cs) (u ∷ us) (suc i) d v h = ap (λ l. changed c u ∷ l) (changed-with cs us i d v h)

changed-past : (cs : Changes) (us : List Tree) (i : ℕ) (d : Change)
    → slice_get us i ≡ None → changed_all (with_nth cs i d) us ≡ changed_all cs us
changed-past no_more [] zero d h = refl
changed-past no_more [] (suc i) d h = refl
changed-past no_more (u ∷ us) zero d h = absurd (cc)
changed-past no_more (u ∷ us) (suc i) d h = ap (λ l. u ∷ l) (changed-past no_more us i d h)
changed-past (and_then c cs) [] zero d h = refl
changed-past (and_then c cs) [] (suc i) d h = refl
changed-past (and_then c cs) (u ∷ us) zero d h = absurd (cc)
changed-past (and_then c cs) (u ∷ us) (suc i) d h = ap (λ l. changed c u ∷ l) (changed-past cs us i d h)

set-past : (t u : Tree) (i : ℕ) (p : List ℕ) → slice_get (children t) i ≡ None → set_at t (i ∷ p) u ≡ t
set-past t u i p h = rw h refl

-- an edit in child i, where d is the edited change of that child
inside_edit : (cs : Changes) (t u : Tree) (i : ℕ) (p : List ℕ) (d : Change)
    → ((v : Tree) → changed d v ≡ set_at (changed (nth_change cs i) v) p u)
    → changed (inside (with_nth cs i d)) t ≡ set_at (changed (inside cs) t) (i ∷ p) u
inside_edit cs t u i p d h =
    let us = children t in
    let xs = changed_all cs us in
    let whole = with_children t xs in
    let kids : children whole ≡ xs = children-with_children t xs (length-changed us cs) in
    elim (slice_get us i) as (λ o. slice_get us i ≡ o → changed (inside (with_nth cs i d)) t ≡ set_at whole (i ∷ p) u) [
      | None ↦ λ is.
          ap (with_children t) (changed-past cs us i d is)
          ∙ sym (set-past whole u i p (ap (λ l. slice_get l i) kids ∙ nth-past cs us i is))
      | Some v ↦ λ is.
          let kid = changed (nth_change cs i) v in
          let w = set_at kid p u in
          ap (with_children t) (changed-with cs us i d v is ∙ ap (set xs i) (h v))
          ∙ sym (set_at-child whole kid u i p (ap (λ l. slice_get l i) kids ∙ nth-changed cs us i v is)
          ∙ ap (λ l. with_children whole (set l i w)) kids
          ∙ with_children-with_children t xs (set xs i w))
    ] refl

pub edit_comes_to : (c : Change) (p : List ℕ) (u t : Tree) → changed (and_edit c p u) t ≡ set_at (changed c t) p u
edit_comes_to c [] u t = refl
edit_comes_to same (i ∷ p) u t =
    inside_edit no_more t u i p (and_edit same p u) (λ v. edit_comes_to same p u v)
    ∙ ap (λ x. set_at x (i ∷ p) u) (same_children t)
edit_comes_to (inside cs) (i ∷ p) u t =
    inside_edit cs t u i p (and_edit (nth_change cs i) p u) (λ v. edit_comes_to (nth_change cs i) p u v)
edit_comes_to (replaced v) (i ∷ p) u t = refl

pub edits_come_to : EditsComeTo
edits_come_to c [] t = refl
edits_come_to c (e ∷ es) t = edits_come_to (and_edit c e.path e.new) es t
    ∙ ap (put_all es) (edit_comes_to c e.path e.new t)
