-- Trimmed changes have the same places.
use Rattle.std.proofs.Common.{◌≡◌, ℕ, suc, ◌+◌, List, [], ◌∷◌, ◌++◌, refl, ap, ◌∙◌}
use Rattle.term_changes.specs.Change.{Change, same, inside, replaced, Changes, no_more, and_then, below, places, places_from}
use Rattle.term_changes.specs.Items.{Item, after_skipped, first_item, first_change, items_changes}
use Rattle.term_changes.specs.inside.Trimmed.{as_one, child_before, item_of, items_of}

one_left : (k : ℕ) (xs : List Item)
    → places_from k (items_changes (after_skipped (suc (first_item xs).0) xs)) ≡ places_from (k + 1) (items_changes xs)
one_left k [] = refl
one_left k (x ∷ xs) = refl

node_before : (ys : List Item) (cs : Changes) (k : ℕ) (xs : List Item)
    → places_from 0 (items_changes ys) ≡ places_from 0 cs
    → places_from k (items_changes (child_before (as_one ys) xs))
    ≡ below k (places_from 0 cs) ++ places_from (k + 1) (items_changes xs)
node_before [] cs k xs h = one_left k xs ∙ ap (λ e. below k e ++ places_from (k + 1) (items_changes xs)) h
node_before (y ∷ ys) cs k xs h = ap (λ e. below k e ++ places_from (k + 1) (items_changes xs)) h

mutual
  before_others : (c : Change) (k : ℕ) (xs : List Item)
      → places_from k (items_changes (child_before (item_of c) xs))
      ≡ below k (places c) ++ places_from (k + 1) (items_changes xs)
  before_others same k xs = one_left k xs
  before_others (inside cs) k xs = node_before (items_of cs) cs k xs (all_trimmed cs 0)
  before_others (replaced u) k xs = refl

  all_trimmed : (cs : Changes) (k : ℕ) → places_from k (items_changes (items_of cs)) ≡ places_from k cs
  all_trimmed no_more k = refl
  all_trimmed (and_then c cs) k = before_others c k (items_of cs)
      ∙ ap (λ e. below k (places c) ++ e) (all_trimmed cs (k + 1))

of_node : (ys : List Item) (cs : Changes) → places_from 0 (items_changes ys) ≡ places_from 0 cs
    → places (first_change (as_one ys)) ≡ places_from 0 cs
of_node [] cs h = h
of_node (y ∷ ys) cs h = h

pub trimmed_places : (c : Change) → places (first_change (item_of c)) ≡ places c
trimmed_places same = refl
trimmed_places (inside cs) = of_node (items_of cs) cs (all_trimmed cs 0)
trimmed_places (replaced u) = refl
