-- Exchanging a second time.
use Rattle.std.proofs.Common.{◌≡◌, suc, List, [], ◌∷◌, length, refl, sym, ap, subst, ◌∙◌}
use Rattle.term_core.specs.Tree.{Tree, children, with_children}
use Rattle.term_changes.specs.Change.{Change, same, inside, replaced, Changes, no_more, and_then, changed, changed_all}
use Rattle.term_changes.specs.Putting.{HaveAllPlaces}
use Rattle.term_changes.proofs.NodeLemmas.{children-with_children, with_children-with_children, same_children}
use Rattle.term_changes.specs.Exchange.{taken, taken_all}
use Rattle.term_changes.specs.PatchLaws.{TwiceIsNothing, PlacesStay}

length-changed_all : (cs : Changes) (us : List Tree) → length (changed_all cs us) ≡ length us
length-changed_all no_more us = refl
length-changed_all (and_then c cs) [] = refl
length-changed_all (and_then c cs) (u ∷ us) = ap suc (length-changed_all cs us)

kids_changed : (cs : Changes) (t : Tree) → children (changed (inside cs) t) ≡ changed_all cs (children t)
kids_changed cs t = children-with_children t (changed_all cs (children t)) (length-changed_all cs (children t))

mutual
  tree_back : (c : Change) (t : Tree) → changed (taken c t) (changed c t) ≡ t
  tree_back same t = refl
  tree_back (inside cs) t =
      with_children-with_children t (changed_all cs (children t))
      (changed_all (taken_all cs (children t)) (children (changed (inside cs) t)))
      ∙ ap (λ us. with_children t (changed_all (taken_all cs (children t)) us)) (kids_changed cs t)
      ∙ ap (with_children t) (trees_back cs (children t))
      ∙ same_children t
  tree_back (replaced u) t = refl

  trees_back : (cs : Changes) (us : List Tree) → changed_all (taken_all cs us) (changed_all cs us) ≡ us
  trees_back no_more us = refl
  trees_back (and_then c cs) [] = refl
  trees_back (and_then c cs) (u ∷ us) = λ i. tree_back c u i ∷ trees_back cs us i

mutual
  taken_back : (c : Change) (t : Tree) → taken (taken c t) (changed c t) ≡ c
  taken_back same t = refl
  taken_back (inside cs) t =
      ap (λ us. inside (taken_all (taken_all cs (children t)) us)) (kids_changed cs t)
      ∙ ap inside (all_taken_back cs (children t))
  taken_back (replaced u) t = refl

  all_taken_back : (cs : Changes) (us : List Tree) → taken_all (taken_all cs us) (changed_all cs us) ≡ cs
  all_taken_back no_more us = refl
  all_taken_back (and_then c cs) [] = refl
  all_taken_back (and_then c cs) (u ∷ us) = λ i. and_then (taken_back c u i) (all_taken_back cs us i)

pub twice_is_nothing : TwiceIsNothing
twice_is_nothing c t = (tree_back c t, taken_back c t)

subst_all : (cs : Changes) (t : Tree) → HaveAllPlaces (changed_all cs (children t)) (taken_all cs (children t))
    → HaveAllPlaces (children (changed (inside cs) t)) (taken_all cs (children t))
subst_all cs t h = subst (λ us. HaveAllPlaces us (taken_all cs (children t))) (sym (kids_changed cs t)) h

mutual
  pub places_stay : PlacesStay
  places_stay same t h = tt
  places_stay (inside cs) t h = subst_all cs t (all_places_stay cs (children t) h)
  places_stay (replaced u) t h = tt

  all_places_stay : (cs : Changes) (us : List Tree) → HaveAllPlaces us cs
      → HaveAllPlaces (changed_all cs us) (taken_all cs us)
  all_places_stay no_more us h = tt
  all_places_stay (and_then c cs) [] h = absurd h
  all_places_stay (and_then c cs) (u ∷ us) h = (places_stay c u h.0, all_places_stay cs us h.1)
