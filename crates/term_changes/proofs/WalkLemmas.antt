-- The change of one child after some that are left.
use Rattle.std.proofs.Common.{◌≡◌, ℕ, zero, suc, ◌+◌, ◌≤◌, List, [], ◌∷◌, ◌++◌, length, take, drop, set, slice_get, Some, refl, sym, ap, ◌∙◌, arith}
use Rattle.std.proofs.lemmas.List.{length-drop, take-append-drop, drop_all}
use Rattle.std.proofs.lemmas.Option.{slice_get_past}
use Rattle.std.specs.Option.{option_map_or}
use Rattle.term_core.specs.Tree.{Tree}
use Rattle.term_changes.specs.Change.{Change, same, Changes, no_more, and_then, changed, changed_all}
use Rattle.term_changes.specs.Exchange.{taken, taken_all}
use Rattle.term_changes.specs.Items.{Item, after_left, items_changes}
use Rattle.term_changes.specs.inside.ItemCodes.{taken_item, taken_items}

-- ---- what a change finds

taken_after : (n : ℕ) (c : Change) (cs : Changes) (us : List Tree)
    → taken_all (after_left n (and_then c cs)) us
    ≡ after_left n (and_then (option_map_or (taken c) (slice_get us n) c) (taken_all cs (drop (suc n) us)))
taken_after zero c no_more [] = refl
taken_after zero c (and_then d cs) [] = refl
taken_after zero c cs (u ∷ us) = refl
taken_after (suc n) c no_more [] = refl
taken_after (suc n) c (and_then d cs) [] = refl
taken_after (suc n) c cs (u ∷ us) = ap (and_then same) (taken_after n c cs us)

pub taken_of_items : (xs : List Item) (us : List Tree)
    → taken_all (items_changes xs) us ≡ items_changes (taken_items xs us)
taken_of_items [] us = refl
taken_of_items (x ∷ xs) us =
    taken_after x.0 x.1 (items_changes xs) us
    ∙ ap (λ cs. after_left x.0 (and_then (option_map_or (taken x.1) (slice_get us x.0) x.1) cs))
    (taken_of_items xs (drop (suc x.0) us))

-- where there are no children
pub taken_nowhere : (xs : List Item) → taken_items xs [] ≡ xs
taken_nowhere [] = refl
taken_nowhere (x ∷ xs) = ap (λ l. x ∷ l) (taken_nowhere xs)

pub length-taken : (xs : List Item) (us : List Tree) → length (taken_items xs us) ≡ length xs
length-taken [] us = refl
length-taken (x ∷ xs) us = ap suc (length-taken xs (drop (suc x.0) us))

-- ---- what it makes

changed_after : (n : ℕ) (c : Change) (cs : Changes) (us : List Tree) (u : Tree) → slice_get us n ≡ Some u
    → changed_all (after_left n (and_then c cs)) us
    ≡ take (suc n) (set us n (changed c u)) ++ changed_all cs (drop (suc n) (set us n (changed c u)))
changed_after n c cs [] u h = absurd (cc)
changed_after zero c cs (v ∷ us) u h = let is : v ≡ u = cc in ap (λ x. changed c x ∷ changed_all cs us) is
changed_after (suc n) c cs (v ∷ us) u h = ap (λ l. v ∷ l) (changed_after n c cs us u h)

changed_past : (n : ℕ) (c : Change) (cs : Changes) (us : List Tree)
    → length us ≤ n → changed_all (after_left n (and_then c cs)) us ≡ us
changed_past zero c cs [] h = refl
changed_past zero c cs (u ∷ us) h = absurd (omega (arith, h))
changed_past (suc n) c cs [] h = refl
changed_past (suc n) c cs (u ∷ us) h = ap (λ l. u ∷ l) (changed_past n c cs us (omega (arith, h)))

pub changed_nowhere : (cs : Changes) → changed_all cs [] ≡ []
changed_nowhere no_more = refl
changed_nowhere (and_then c cs) = refl

-- after children that were passed
children_step : (at n j : ℕ) (c : Change) (cs : Changes) (us : List Tree) (u : Tree)
    → j ≡ at + n → slice_get us j ≡ Some u
    → take (suc j) (set us j (changed c u)) ++ changed_all cs (drop (suc j) (set us j (changed c u)))
    ≡ take at us ++ changed_all (after_left n (and_then c cs)) (drop at us)
children_step zero n j c cs us u e h = let is : j ≡ n = omega (arith, e) in
    ap (λ k. take (suc k) (set us k (changed c u)) ++ changed_all cs (drop (suc k) (set us k (changed c u)))) is
    ∙ sym (changed_after n c cs us u (ap (slice_get us) (sym is) ∙ h))
children_step (suc at) n j c cs [] u e h = absurd (cc)
children_step (suc at) n zero c cs (v ∷ us) u e h = absurd (omega (arith, e))
children_step (suc at) n (suc j) c cs (v ∷ us) u e h =
    ap (λ l. v ∷ l) (children_step at n j c cs us u (omega (arith, e)) h)

rest_set : (j : ℕ) (us : List Tree) (w : Tree) → drop (suc j) us ≡ drop (suc j) (set us j w)
rest_set j [] w = refl
rest_set zero (u ∷ us) w = refl
rest_set (suc j) (u ∷ us) w = rest_set j us w

rest_step : (at n j : ℕ) (us : List Tree) (w : Tree)
    → j ≡ at + n → drop (suc n) (drop at us) ≡ drop (suc j) (set us j w)
rest_step zero n j us w e = let is : n ≡ j = omega (arith, e) in ap (λ k. drop (suc k) us) is ∙ rest_set j us w
rest_step (suc at) n j [] w e = refl
rest_step (suc at) n zero (v ∷ us) w e = absurd (omega (arith, e))
rest_step (suc at) n (suc j) (v ∷ us) w e = rest_step at n j us w (omega (arith, e))

get_after : (at n j : ℕ) (us : List Tree) → j ≡ at + n → slice_get (drop at us) n ≡ slice_get us j
get_after zero n j us e = let is : n ≡ j = omega (arith, e) in ap (slice_get us) is
get_after (suc at) n j [] e = refl
get_after (suc at) n zero (v ∷ us) e = absurd (omega (arith, e))
get_after (suc at) n (suc j) (v ∷ us) e = get_after at n j us (omega (arith, e))

-- Child j is there, and the walk goes on after it.
module _ (at j j1 : ℕ) (us : List Tree) (u w : Tree) (x : Item) (e : j ≡ at + x.0) (ej : j1 ≡ suc j)
    (h : slice_get us j ≡ Some u) where
  pub next_children : w ≡ changed x.1 u → (xs : List Item)
      → take j1 (set us j w) ++ changed_all (items_changes xs) (drop j1 (set us j w))
      ≡ take at us ++ changed_all (items_changes (x ∷ xs)) (drop at us)
  next_children is xs =
      (λ i. take (ej i) (set us j (is i)) ++ changed_all (items_changes xs) (drop (ej i) (set us j (is i))))
      ∙ children_step at x.0 j x.1 (items_changes xs) us u e h

  pub found : taken_item x (drop at us) ≡ (x.0, taken x.1 u)
  found = ap (λ o. (x.0, option_map_or (taken x.1) o x.1)) (get_after at x.0 j us e ∙ h)

  pub next_taken : (xs : List Item)
      → taken_items (x ∷ xs) (drop at us) ≡ taken_items (x ∷ []) (drop at us) ++ taken_items xs (drop j1 (set us j w))
  next_taken xs = ap (λ vs. taken_item x (drop at us) ∷ taken_items xs vs)
      (rest_step at x.0 j us w e ∙ ap (λ k. drop k (set us j w)) (sym ej))

-- It isn't there.
module _ (at n : ℕ) (us : List Tree) (x : Item) (h : length us ≤ at + x.0) (l : n ≡ length us) where
  few : length (drop at us) ≤ x.0
  few = omega (arith, h, length-drop at us)

  none_left : drop n us ≡ []
  none_left = drop_all n us (omega (arith, l))

  pub last_children : (xs : List Item) → take n us ++ changed_all (items_changes xs) (drop n us)
      ≡ take at us ++ changed_all (items_changes (x ∷ xs)) (drop at us)
  last_children xs =
      ap (λ vs. take n us ++ changed_all (items_changes xs) vs) none_left
      ∙ ap (λ vs. take n us ++ vs) (changed_nowhere (items_changes xs) ∙ sym none_left)
      ∙ take-append-drop n us
      ∙ sym
      (ap (λ vs. take at us ++ vs) (changed_past x.0 x.1 (items_changes xs) (drop at us) few) ∙ take-append-drop at us)

  pub not_found : taken_item x (drop at us) ≡ x
  not_found = ap (λ o. (x.0, option_map_or (taken x.1) o x.1)) (slice_get_past (drop at us) x.0 few)

  pub last_taken : (xs : List Item)
      → taken_items (x ∷ xs) (drop at us) ≡ taken_items (x ∷ []) (drop at us) ++ taken_items xs (drop n us)
  last_taken xs = ap (λ vs. taken_item x (drop at us) ∷ taken_items xs vs)
      (drop_all (suc x.0) (drop at us) (omega (arith, few)) ∙ sym none_left)
