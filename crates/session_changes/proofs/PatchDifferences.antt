-- What a patch changed in a tree, place by place.
use Rattle.std.proofs.Common.{◌≡◌, ℕ, zero, suc, ◌+◌, ◌-◌, ◌<◌, ◌≤◌, Some, List, [], ◌∷◌, ◌++◌, length, get_or, take, drop, refl, sym, ap, ◌∙◌, arith}
use Rattle.std.proofs.lemmas.List.{length-take, length-drop, drop-drop, drop_all, get_or-drop}
use Rattle.term_core.specs.Tree.{Tree, integer, branch, none, more, to_list, of_list, children}
use Rattle.term_core.proofs.TreeLemmas.{to_list-of_list, of_list-to_list}
use Rattle.strategy_meaning.proofs.SameLemmas.{head-self}
use Rattle.term_changes.specs.Change.{Change, inside, Changes, no_more, and_then, changed, changed_all}
use Rattle.term_changes.specs.Items.{Item, after_left, items_changes, first_change}
use Rattle.term_changes.specs.Reading.{IsNextItem}
use Rattle.term_changes.specs.declared.reading.PatchItem.{PatchItem}
use Rattle.term_changes.specs.declared.reading.PatchItem.TheVariants.{Term, Node}
use Rattle.term_changes.proofs.FollowLemmas.{length-changed}
use Rattle.term_changes.proofs.WalkLemmas.{changed_nowhere}
use Rattle.session_history.specs.Differences.{differences, differences_from}
use Rattle.session_changes.specs.inside.ReadPatches.{kids_of, change_of, differences_of, weights, items_weight}
use Rattle.session_changes.proofs.DifferenceLemmas.{trees_same, as_many_by, differences_same, from_same}

-- a node that is changed inside
pub node_differs : (path : List ℕ) (cs : Changes) (t : Tree)
    → differences path (changed (inside cs) t) t
    ≡ differences_from path 0 (of_list (changed_all cs (children t))) (of_list (children t))
node_differs path cs (integer z ns) =
    differences_same path (integer z ns)
    ∙ ap (λ us. differences_from path 0 (of_list us) none) (sym (changed_nowhere cs))
node_differs path cs (branch h us ns) =
    let vs = changed_all cs (to_list us) in
    let count : length (to_list (of_list vs)) ≡ length (to_list us) = ap length (to_list-of_list vs)
    ∙ length-changed (to_list us) cs in
    rw (head-self h, as_many_by (of_list vs) us count, trees_same ns)
    (ap (differences_from path 0 (of_list vs)) (sym (of_list-to_list us)))

-- ---- one item after the other

-- nothing is there any more
pub past_the_end : (path : List ℕ) (at : ℕ) (items : List Item) → differences_of path at items [] ≡ []
past_the_end path at items =
    ap (λ us. differences_from path at (of_list us) none) (changed_nowhere (items_changes items))

changed_beyond : (path : List ℕ) (at n : ℕ) (cs : Changes) (us : List Tree) → length us ≤ n
    → differences_from path at (of_list (changed_all (after_left n cs) us)) (of_list us) ≡ []
changed_beyond path at n cs [] h =
    ap (λ us. differences_from path at (of_list us) none) (changed_nowhere (after_left n cs))
changed_beyond path at zero cs (u ∷ us) h = absurd (omega (arith, h))
changed_beyond path at (suc n) cs (u ∷ us) h =
    ap (λ l. l ++ differences_from path (at + 1) (of_list (changed_all (after_left n cs) us)) (of_list us))
    (differences_same (path ++ at ∷ []) u)
    ∙ changed_beyond path (at + 1) n cs us (omega (arith, h))

-- the place of the first item isn't there, nor are those of the others
pub item_missing : (path : List ℕ) (at : ℕ) (x : Item) (xs : List Item) (us : List Tree)
    → length us ≤ x.0 → differences_of path at (x ∷ xs) us ≡ []
item_missing path at x xs us h = changed_beyond path at x.0 (and_then x.1 (items_changes xs)) us h

changed_at : (path : List ℕ) (at n : ℕ) (c : Change) (cs : Changes) (us : List Tree) (d : Tree) → n < length us
    → differences_from path at (of_list (changed_all (after_left n (and_then c cs)) us)) (of_list us)
    ≡ differences (path ++ (at + n) ∷ []) (changed c (get_or us n d)) (get_or us n d)
    ++ differences_from path (at + n + 1) (of_list (changed_all cs (drop (n + 1) us))) (of_list (drop (n + 1) us))
changed_at path at n c cs [] d h = absurd (omega (arith, h))
changed_at path at zero c cs (u ∷ us) d h =
    let here : at ≡ at + 0 = omega arith in
    λ k. differences (path ++ here k ∷ []) (changed c u) u
    ++ differences_from path (here k + 1) (of_list (changed_all cs us)) (of_list us)
changed_at path at (suc n) c cs (u ∷ us) d h =
    let here : at + 1 + n ≡ at + suc n = omega arith in
    let rest : drop (n + 1) us ≡ drop (suc n + 1) (u ∷ us) = ap (λ k. drop k (u ∷ us)) (one_later n) in
    ap (λ l. l ++ differences_from path (at + 1) (of_list (changed_all (after_left n (and_then c cs)) us)) (of_list us))
    (differences_same (path ++ at ∷ []) u)
    ∙ changed_at path (at + 1) n c cs us d (omega (arith, h))
    ∙ (λ k. differences (path ++ here k ∷ []) (changed c (get_or us n d)) (get_or us n d)
    ++ differences_from path (here k + 1) (of_list (changed_all cs (rest k))) (of_list (rest k)))
  where
    one_later : (n : ℕ) → suc (n + 1) ≡ suc n + 1
    one_later n = omega arith

-- The place of the first item is there.
pub item_there : (path : List ℕ) (at : ℕ) (x : Item) (xs : List Item) (us : List Tree) (d : Tree) → x.0 < length us
    → differences_of path at (x ∷ xs) us
    ≡ differences (path ++ (at + x.0) ∷ []) (changed x.1 (get_or us x.0 d)) (get_or us x.0 d)
    ++ differences_of path (at + x.0 + 1) xs (drop (x.0 + 1) us)
item_there path at x xs us d h = changed_at path at x.0 x.1 (items_changes xs) us d h

-- ---- the items of a node

-- the first item of those from number k on
pub next_item : (items xs : List Item) (x : Item) (k kids : ℕ) → k < kids → drop k items ≡ x ∷ xs
    → (drop k (take kids items) ≡ x ∷ drop (k + 1) (take kids items)) × (drop (k + 1) items ≡ xs)
next_item [] xs x zero kids h e = absurd (cc)
next_item [] xs x (suc k) kids h e = absurd (cc)
next_item items xs x k zero h e = absurd (omega (arith, h))
next_item (y ∷ items) xs x zero (suc kids) h e =
    let first : y ≡ x = cc in
    let rest : items ≡ xs = cc in
    (λ i. first i ∷ take kids items, rest)
next_item (y ∷ items) xs x (suc k) (suc kids) h e =
    let on : suc (k + 1) ≡ suc k + 1 = omega arith in
    let more = next_item items xs x k kids (omega (arith, h)) e in
    (more.0 ∙ ap (λ n. x ∷ drop n (y ∷ take kids items)) on, ap (λ n. drop n (y ∷ items)) (sym on) ∙ more.1)

pub next_there : (items : List Item) (k kids : ℕ) → k < kids → kids ≤ length items → drop k items ≡ [] → ⊥
next_there [] k kids h g e = omega (arith, h, g)
next_there (y ∷ items) zero kids h g e = (cc)
next_there (y ∷ items) (suc k) zero h g e = omega (arith, h)
next_there (y ∷ items) (suc k) (suc kids) h g e = next_there items k kids (omega (arith, h)) (omega (arith, g)) e

-- ---- how much is left to read

weights-left : (n : ℕ) (cs : Changes) → weights (after_left n cs) ≡ weights cs
weights-left zero cs = refl
weights-left (suc n) cs = omega (arith, weights-left n cs)

pub weights-items : (xs : List Item) → weights (items_changes xs) ≡ items_weight xs
weights-items [] = refl
weights-items (x ∷ xs) = omega (arith, weights-left x.0 (and_then x.1 (items_changes xs)), weights-items xs)

pub weight-parts : (k : ℕ) (xs : List Item) → items_weight (take k xs) + items_weight (drop k xs) ≡ items_weight xs
weight-parts zero xs = omega arith
weight-parts (suc k) [] = refl
weight-parts (suc k) (x ∷ xs) = omega (arith, weight-parts k xs)

-- ---- what was read

pub item_read : (old new : List Item) (skipped : ℕ) (next : PatchItem) → IsNextItem old (Some (skipped, next)) new
    → (kids_of next ≤ length new) × (old ≡ (skipped, change_of next new) ∷ drop (kids_of next) new)
item_read old new skipped (Term t) h = (omega arith, h)
item_read old new skipped (Node kids) h = (h.1, h.2)

pub less_to_read : (old new : List Item) (skipped : ℕ) (next : PatchItem) → IsNextItem old (Some (skipped, next)) new
    → items_weight new + 1 ≡ items_weight old
less_to_read old new skipped (Term t) h = rw h (omega arith)
less_to_read old new skipped (Node kids) h =
    rw h.2 (omega (arith, weights-items (take kids new), weight-parts kids new))

pub weight-left : (k : ℕ) (xs : List Item) → items_weight (drop k xs) ≤ items_weight xs
weight-left k xs = omega (arith, weight-parts k xs)

-- with nothing to read nothing changed
pub nothing_read : (path : List ℕ) (items : List Item) (t : Tree)
    → items ≡ [] → differences path (changed (first_change items) t) t ≡ []
nothing_read path items t e =
    ap (λ xs. differences path (changed (first_change xs) t) t) e ∙ node_differs path no_more t
    ∙ from_same path 0 (of_list (children t))

-- the items from number k on, after one was read
pub items_left : (items old new : List Item) (k kids skipped : ℕ) (next : PatchItem)
    → k < kids → drop k items ≡ old → IsNextItem old (Some (skipped, next)) new
    → (drop k (take kids items) ≡ (skipped, change_of next new) ∷ drop (k + 1) (take kids items))
    × (drop (k + 1) items ≡ drop (kids_of next) new)
items_left items old new k kids skipped next h e read =
    next_item items (drop (kids_of next) new) (skipped, change_of next new) k kids h
    (e ∙ (item_read old new skipped next read).1)

-- the first item is for a place that isn't there
pub place_missing : (path : List ℕ) (at n : ℕ) (x : Item) (items rest : List Item) (us : List Tree)
    → items ≡ x ∷ rest → length us - at ≤ x.0 → length us ≤ n
    → differences_of path at items (drop at us) ≡ differences_of path n rest (drop n us)
place_missing path at n x items rest us e h g =
    ap (λ xs. differences_of path at xs (drop at us)) e
    ∙ item_missing path at x rest (drop at us) (omega (arith, h, length-drop at us))
    ∙ sym (ap (differences_of path n rest) (drop_all n us g) ∙ past_the_end path n rest)

-- or for one that is there
pub place_there : (path : List ℕ) (at : ℕ) (x : Item) (items rest : List Item) (us : List Tree) (u : Tree)
    → items ≡ x ∷ rest → at + x.0 < length us → u ≡ get_or us (at + x.0) u
    → differences_of path at items (drop at us)
    ≡ differences (path ++ (at + x.0) ∷ []) (changed x.1 u) u
    ++ differences_of path (at + x.0 + 1) rest (drop (at + x.0 + 1) us)
place_there path at x items rest us u e h is =
    let here : u ≡ get_or (drop at us) x.0 u = is ∙ sym (get_or-drop at us x.0 u) in
    let far : at + (x.0 + 1) ≡ at + x.0 + 1 = omega arith in
    let after : drop (x.0 + 1) (drop at us) ≡ drop (at + x.0 + 1) us = drop-drop (x.0 + 1) at us
    ∙ ap (λ n. drop n us) far in
    ap (λ xs. differences_of path at xs (drop at us)) e
    ∙ item_there path at x rest (drop at us) u (omega (arith, h, length-drop at us))
    ∙ (λ k. differences (path ++ (at + x.0) ∷ []) (changed x.1 (sym here k)) (sym here k)
    ++ differences_of path (at + x.0 + 1) rest (after k))

-- nothing is left to read
pub all_read : (path : List ℕ) (at k kids : ℕ) (items : List Item) (us : List Tree)
    → kids ≤ k → differences_of path at (drop k (take kids items)) us ≡ []
all_read path at k kids items us h =
    ap (λ xs. differences_of path at xs us) (drop_all k (take kids items) (omega (arith, h, length-take kids items)))
    ∙ from_same path at (of_list us)

-- a node was read
pub node_read : (path : List ℕ) (next : PatchItem) (kids : ℕ) (items : List Item) (us : List Tree) (t : Tree)
    → next ≡ Node kids → us ≡ children t
    → differences_of path 0 (take kids items) us ≡ differences path (changed (change_of next items) t) t
node_read path next kids items us t is e =
    ap (differences_of path 0 (take kids items)) e
    ∙ sym (node_differs path (items_changes (take kids items)) t)
    ∙ ap (λ n. differences path (changed (change_of n items) t) t) (sym is)
