-- How edits lead on.
use Rattle.std.proofs.Common.{◌≡◌, ℕ, List, [], ◌∷◌, ◌++◌, ◌⊎◌, inl, inr, refl, subst}
use Rattle.term_core.specs.Tree.{Tree, children}
use Rattle.term_paths.specs.Edits.{Edits}
use Rattle.term_paths.proofs.EditLemmas.{edits_after_edits}
use Rattle.term_changes.specs.Standing.{Standing, unchanged, altered, fresh, Suits, standing_tree, standing_change}
use Rattle.term_changes.specs.Change.{replaced}
use Rattle.term_changes.specs.Follows.{Follows}
use Rattle.term_changes.specs.Putting.{HasPlaces, HaveAllPlaces}
use Rattle.term_changes.proofs.FollowLemmas.{follows_itself, follows_on}
use Rattle.strategy_meaning.specs.Outermost.{IsOf}
use Rattle.strategy_machine.specs.Leading.{IsPlace, IsWithin, Has, Leads}
use Rattle.strategy_machine.proofs.PlaceLemmas.{of_left, of_right, of_either}

-- a kept subterm has the places of the change
pub suits_has : (u : Tree) (q : Standing) → Suits u q → Has q → HasPlaces u (standing_change q)
suits_has u (unchanged t) s h = tt
suits_has u (altered a) s h = subst (λ v. HaveAllPlaces (children v) a.changes) s h
suits_has u (fresh t) s h = tt

pub has_places : (t : Tree) (q : Standing) → Follows (unchanged t) q → Has q → HasPlaces t (standing_change q)
has_places t q f h = suits_has t q f h

either_or_none : (A : Type 0) → A ⊎ ⊥ → A
either_or_none A (inl h) = h
either_or_none A (inr h) = absurd h

pub leads_nothing : (p : Standing) → Has p → Leads p [] p
leads_nothing p h = record {
  follows = follows_itself p;
  made = refl;
  has = h;
  among = λ x is. inl is;
  covers = λ x. either_or_none (IsWithin (standing_change p) x);
}

pub leads_same : (p q : Standing) → Leads p [] q → standing_tree p ≡ standing_tree q
leads_same p q h = h.made

pub leads_on : (p q r : Standing) (e d : Edits) → Leads p e q → Leads q d r → Leads p (e ++ d) r
leads_on p q r e d h k = record {
  follows = follows_on p q r h.follows k.follows;
  made = edits_after_edits e d (standing_tree p) (standing_tree q) (standing_tree r) h.made k.made;
  has = k.has;
  among = λ x is. elim (k.among x is) [
    | inl before ↦ elim (h.among x before) [
      | inl first ↦ inl first
      | inr edit ↦ inr (of_left x e d edit)
    ]
    | inr edit ↦ inr (of_right x e d edit)
  ];
  covers = λ x is. elim is [
    | inl first ↦ k.covers x (inl (h.covers x (inl first)))
    | inr edit ↦ elim (of_either x e d edit) [
      | inl left ↦ k.covers x (inl (h.covers x (inr left)))
      | inr right ↦ k.covers x (inr right)
    ]
  ];
}

-- ---- another tree

fresh_follows : (p : Standing) (u : Tree) → Follows p (fresh u)
fresh_follows (unchanged t) u = tt
fresh_follows (altered a) u = tt
fresh_follows (fresh t) u = tt

root_alone : (A : Type 0) (u : Tree) (x : List ℕ) → IsPlace (replaced u) x
    → A ⊎ IsOf x (record { path = []; new = u } ∷ [])
root_alone A u [] h = inr (inl refl)
root_alone A u (i ∷ x) h = absurd h

pub leads_fresh : (p : Standing) (u : Tree) → Leads p (record { path = []; new = u } ∷ []) (fresh u)
leads_fresh p u = record {
  follows = fresh_follows p u;
  made = (refl, refl);
  has = tt;
  among = λ x. root_alone (IsPlace (standing_change p) x) u x;
  covers = λ x is. tt;
}
