-- A node whose children change one after the other.
use Rattle.std.proofs.Common.{◌≡◌, ℕ, List, [], ◌∷◌, ◌⊎◌, inl, inr, length, map, slice_get, Some, refl, sym, ap, subst, ◌∙◌, zero, suc}
use Rattle.std.proofs.lemmas.Bool.{cases_eq}
use Rattle.std.specs.Prelude.{slice_set, option_map}
use Rattle.std.proofs.lemmas.List.{map-set}
use Rattle.std.proofs.lemmas.Option.{slice_get-map}
use Rattle.term_core.specs.Tree.{Tree, children, with_children, with_child}
use Rattle.term_paths.specs.Edits.{Edits, prefixed, Replaces}
use Rattle.term_paths.proofs.EditLemmas.{replaces-child}
use Rattle.term_changes.specs.Change.{Change, same, inside, replaced, Changes, no_more, and_then}
use Rattle.term_changes.specs.EditChanges.{nth_change}
use Rattle.term_changes.specs.Standing.{Standing, unchanged, altered, fresh, SuitAll, stand, stand_all, standing_tree, standing_change, standing_changes, standing_children, CanHold, with_standing}
use Rattle.term_changes.specs.Follows.{Follows, AllFollow}
use Rattle.term_changes.specs.Putting.{HasPlaces, HaveAllPlaces}
use Rattle.term_changes.proofs.NodeLemmas.{children-with_children, with_children-with_children, same_children}
use Rattle.term_changes.proofs.StandingLemmas.{length-map_tree}
use Rattle.term_changes.proofs.FollowLemmas.{follows_itself, follows_on, followers_can_stand, same_root_follows, trees_of_children, tree_over_children}
use Rattle.strategy_meaning.specs.Outermost.{IsOf}
use Rattle.strategy_machine.specs.Leading.{IsPlace, IsWithin, Has, AllHave, node_now, parts_now, PartsStand, Leads}
use Rattle.strategy_machine.proofs.PlaceLemmas.{of_prefixed, prefixed_of}
use Rattle.strategy_machine.proofs.LeadLemmas.{suits_has}

-- ---- the parts in the places of the children

all_follow_themselves : (ps : List Standing) → AllFollow ps ps
all_follow_themselves [] = tt
all_follow_themselves (p ∷ ps) = (follows_itself p, all_follow_themselves ps)

unchanged_have : (us : List Tree) → AllHave (map unchanged us)
unchanged_have [] = tt
unchanged_have (u ∷ us) = (tt, unchanged_have us)

fresh_have : (us : List Tree) → AllHave (map fresh us)
fresh_have [] = tt
fresh_have (u ∷ us) = (tt, fresh_have us)

stand_has : (u : Tree) (c : Change) → HasPlaces u c → Has (stand u c)
stand_has u same h = tt
stand_has u (inside cs) h = h
stand_has u (replaced t) h = tt

stand_have : (us : List Tree) (cs : Changes) → HaveAllPlaces us cs → AllHave (stand_all us cs)
stand_have us no_more h = unchanged_have us
stand_have [] (and_then c cs) h = absurd h
stand_have (u ∷ us) (and_then c cs) h = (stand_has u c h.0, stand_have us cs h.1)

children_have : (p : Standing) → Has p → AllHave (standing_children p)
children_have (unchanged t) h = unchanged_have (children t)
children_have (altered a) h = stand_have (children a.before) a.changes h
children_have (fresh t) h = fresh_have (children t)

pub none_stand : (p : Standing) → Has p → PartsStand p []
none_stand p h = record { follow = all_follow_themselves (standing_children p); have = children_have p h }

one_has : (ps : List Standing) (i : ℕ) (c : Standing) → AllHave ps → slice_get ps i ≡ Some c → Has c
one_has [] i c h e = absurd (cc)
one_has (p ∷ ps) zero c h e = let is : p ≡ c = cc in subst Has is h.0
one_has (p ∷ ps) (suc i) c h e = one_has ps i c h.1 e

pub child_has : (node : Standing) (parts : List Standing) (i : ℕ) (c : Standing) → PartsStand node parts
    → slice_get (parts_now node parts) i ≡ Some c → Has c
child_has node parts i c h e = one_has (parts_now node parts) i c h.have e

-- ---- the node over them

pub parts_can_hold : (node q : Standing) (qs : List Standing) → PartsStand node (q ∷ qs) → CanHold node (q ∷ qs)
parts_can_hold node q qs h = followers_can_stand node (q ∷ qs) h.follow

pub node_follows : (node : Standing) (parts : List Standing) → PartsStand node parts
    → Follows node (node_now node parts)
node_follows node [] h = follows_itself node
node_follows node (q ∷ qs) h = same_root_follows node (q ∷ qs)

suit_have : (us : List Tree) (ps : List Standing) → SuitAll us ps → AllHave ps → HaveAllPlaces us (standing_changes ps)
suit_have [] [] s h = tt
suit_have [] (p ∷ ps) s h = absurd s
suit_have (u ∷ us) [] s h = tt
suit_have (u ∷ us) (p ∷ ps) s h = (suits_has u p s.0 h.0, suit_have us ps s.1 h.1)

over_has : (node : Standing) (ps : List Standing) → CanHold node ps → AllHave ps → Has (with_standing node ps)
over_has (unchanged t) ps s h = suit_have (children t) ps s h
over_has (altered a) ps s h = suit_have (children a.before) ps s h
over_has (fresh t) ps s h = tt

pub node_has : (node : Standing) (parts : List Standing) → Has node → PartsStand node parts → Has (node_now node parts)
node_has node [] n h = n
node_has node (q ∷ qs) n h = over_has node (q ∷ qs) (parts_can_hold node q qs h) h.have

-- ---- its tree

length-follow : (ps qs : List Standing) → AllFollow ps qs → length qs ≡ length ps
length-follow [] [] h = refl
length-follow [] (q ∷ qs) h = absurd h
length-follow (p ∷ ps) [] h = absurd h
length-follow (p ∷ ps) (q ∷ qs) h = ap suc (length-follow ps qs h.1)

pub part_count : (node : Standing) (parts : List Standing) → PartsStand node parts
    → length (parts_now node parts) ≡ length (children (standing_tree node))
part_count node parts h =
    length-follow (standing_children node) (parts_now node parts) h.follow
    ∙ sym (length-map_tree (standing_children node)) ∙ ap length (trees_of_children node)

pub tree_now : (node : Standing) (parts : List Standing) → PartsStand node parts → standing_tree (node_now node parts)
    ≡ with_children (standing_tree node) (map standing_tree (parts_now node parts))
tree_now node [] h =
    sym (ap (with_children (standing_tree node)) (trees_of_children node) ∙ same_children (standing_tree node))
tree_now node (q ∷ qs) h = tree_over_children node (q ∷ qs) (parts_can_hold node q qs h)

pub trees_now : (node : Standing) (parts : List Standing) → PartsStand node parts
    → children (standing_tree (node_now node parts)) ≡ map standing_tree (parts_now node parts)
trees_now node parts h =
    ap children (tree_now node parts h)
    ∙ children-with_children (standing_tree node) (map standing_tree (parts_now node parts))
    (length-map_tree (parts_now node parts) ∙ part_count node parts h)

pub node_count : (node : Standing) (parts : List Standing) → PartsStand node parts
    → length (children (standing_tree (node_now node parts))) ≡ length (children (standing_tree node))
node_count node parts h = ap length (trees_now node parts h) ∙ length-map_tree (parts_now node parts)
    ∙ part_count node parts h

pub node_tree : (node : Standing) (parts : List Standing) (i : ℕ) (c : Standing) → PartsStand node parts
    → slice_get (parts_now node parts) i ≡ Some c
    → slice_get (children (standing_tree (node_now node parts))) i ≡ Some (standing_tree c)
node_tree node parts i c h e =
    ap (λ l. slice_get l i) (trees_now node parts h) ∙ slice_get-map standing_tree (parts_now node parts) i
    ∙ ap (option_map standing_tree) e

-- ---- one of them set

-- an index that had a part still has one
set_some : (node : Standing) (ps : List Standing) (i : ℕ) (c r : Standing) → slice_get ps i ≡ Some c
    → parts_now node (slice_set ps i r) ≡ slice_set ps i r
set_some node [] i c r e = absurd (cc)
set_some node (p ∷ ps) zero c r e = refl
set_some node (p ∷ ps) (suc i) c r e = refl

set_over : (node : Standing) (ps : List Standing) (i : ℕ) (c r : Standing) → slice_get ps i ≡ Some c
    → node_now node (slice_set ps i r) ≡ with_standing node (slice_set ps i r)
set_over node [] i c r e = absurd (cc)
set_over node (p ∷ ps) zero c r e = refl
set_over node (p ∷ ps) (suc i) c r e = refl

set_follow : (ps qs : List Standing) (i : ℕ) (c r : Standing) → AllFollow ps qs → slice_get qs i ≡ Some c → Follows c r
    → AllFollow ps (slice_set qs i r)
set_follow [] [] i c r h e f = tt
set_follow [] (q ∷ qs) i c r h e f = absurd h
set_follow (p ∷ ps) [] i c r h e f = absurd h
set_follow (p ∷ ps) (q ∷ qs) zero c r h e f = let is : q ≡ c = cc in
    (follows_on p q r h.0 (subst (λ x. Follows x r) (sym is) f), h.1)
set_follow (p ∷ ps) (q ∷ qs) (suc i) c r h e f = (h.0, set_follow ps qs i c r h.1 e f)

set_have : (qs : List Standing) (i : ℕ) (r : Standing) → AllHave qs → Has r → AllHave (slice_set qs i r)
set_have [] i r h k = tt
set_have (q ∷ qs) zero r h k = (k, h.1)
set_have (q ∷ qs) (suc i) r h k = (h.0, set_have qs i r h.1 k)

set_stands : (node : Standing) (parts : List Standing) (i : ℕ) (c r : Standing) → PartsStand node parts
    → slice_get (parts_now node parts) i ≡ Some c → Follows c r → Has r
    → PartsStand node (slice_set (parts_now node parts) i r)
set_stands node parts i c r h e f k =
    let ps = parts_now node parts in
    let is = sym (set_some node ps i c r e) in record {
      follow =
          subst (AllFollow (standing_children node)) is (set_follow (standing_children node) ps i c r h.follow e f);
      have = subst AllHave is (set_have ps i r h.have k);
    }

pub node_written : (node : Standing) (parts : List Standing) (i : ℕ) (c r : Standing) → PartsStand node parts
    → slice_get (parts_now node parts) i ≡ Some c → PartsStand node (slice_set (parts_now node parts) i r)
    → standing_tree (node_now node (slice_set (parts_now node parts) i r))
    ≡ with_child (standing_tree (node_now node parts)) i (standing_tree r)
node_written node parts i c r h e k =
    let ps = parts_now node parts in
    let t = standing_tree node in
    let us = map standing_tree ps in
    let vs = slice_set us i (standing_tree r) in
    tree_now node (slice_set ps i r) k
    ∙ ap (λ l. with_children t (map standing_tree l)) (set_some node ps i c r e)
    ∙ ap (with_children t) (map-set standing_tree ps i r)
    ∙ sym (with_children-with_children t us vs)
    ∙ sym (ap (λ x. with_children x vs) (tree_now node parts h))
    ∙ ap (λ l. with_children (standing_tree (node_now node parts)) (slice_set l i (standing_tree r)))
    (sym (trees_now node parts h))

-- ---- its places

nth_get : (ps : List Standing) (i : ℕ) (c : Standing) → slice_get ps i ≡ Some c
    → nth_change (standing_changes ps) i ≡ standing_change c
nth_get [] i c e = absurd (cc)
nth_get (p ∷ ps) zero c e = let is : p ≡ c = cc in ap standing_change is
nth_get (p ∷ ps) (suc i) c e = nth_get ps i c e

nth_set : (ps : List Standing) (i : ℕ) (c r : Standing) → slice_get ps i ≡ Some c
    → nth_change (standing_changes (slice_set ps i r)) i ≡ standing_change r
nth_set [] i c r e = absurd (cc)
nth_set (p ∷ ps) zero c r e = refl
nth_set (p ∷ ps) (suc i) c r e = nth_set ps i c r e

nth_other : (ps : List Standing) (i j : ℕ) (r : Standing)
    → (i ≡ j → ⊥) → nth_change (standing_changes (slice_set ps i r)) j ≡ nth_change (standing_changes ps) j
nth_other [] i j r n = refl
nth_other (p ∷ ps) zero zero r n = absurd (n refl)
nth_other (p ∷ ps) zero (suc j) r n = refl
nth_other (p ∷ ps) (suc i) zero r n = refl
nth_other (p ∷ ps) (suc i) (suc j) r n = nth_other ps i j r (λ e. n (ap suc e))

nth_same : (us : List Tree) (j : ℕ) → nth_change (standing_changes (map unchanged us)) j ≡ same
nth_same [] j = refl
nth_same (u ∷ us) zero = refl
nth_same (u ∷ us) (suc j) = nth_same us j

change_stand : (u : Tree) (c : Change) → standing_change (stand u c) ≡ c
change_stand u same = refl
change_stand u (inside cs) = refl
change_stand u (replaced t) = refl

nth_stand : (us : List Tree) (cs : Changes) (j : ℕ) → HaveAllPlaces us cs
    → nth_change (standing_changes (stand_all us cs)) j ≡ nth_change cs j
nth_stand us no_more j h = nth_same us j
nth_stand [] (and_then c cs) j h = absurd h
nth_stand (u ∷ us) (and_then c cs) zero h = change_stand u c
nth_stand (u ∷ us) (and_then c cs) (suc j) h = nth_stand us cs j h.1

-- The changes of the children are those of the parts so far, if the node itself was kept: in terms
-- of places and of the paths within them.
pub record Parted (c : Change) (cs : Changes) : Type 0 where
  pub place : (x : List ℕ) → IsPlace (inside cs) x → IsPlace c x
  pub within : (x : List ℕ) → IsWithin c x → IsWithin (inside cs) x

parted_same : (us : List Tree) → Parted same (standing_changes (map unchanged us))
parted_same us = record { place = at_none; within = λ x h. absurd h }
  where
    at_none : (x : List ℕ) → IsPlace (inside (standing_changes (map unchanged us))) x → ⊥
    at_none [] h = absurd h
    at_none (j ∷ x) h = subst (λ c. IsPlace c x) (nth_same us j) h

parted_inside : (us : List Tree) (cs : Changes) → HaveAllPlaces us cs
    → Parted (inside cs) (standing_changes (stand_all us cs))
parted_inside us cs h = record { place = at_place; within = in_place }
  where
    at_place : (x : List ℕ) → IsPlace (inside (standing_changes (stand_all us cs))) x → IsPlace (inside cs) x
    at_place [] h = absurd h
    at_place (j ∷ x) k = subst (λ c. IsPlace c x) (nth_stand us cs j h) k

    in_place : (x : List ℕ) → IsWithin (inside cs) x → IsWithin (inside (standing_changes (stand_all us cs))) x
    in_place [] h = absurd h
    in_place (j ∷ x) k = subst (λ c. IsWithin c x) (sym (nth_stand us cs j h)) k

parted_itself : (cs : Changes) → Parted (inside cs) cs
parted_itself cs = record { place = λ x h. h; within = λ x h. h }

-- One more edit, in child i.
pub record OneMore (c : Change) (ps : List Standing) (i : ℕ) (d : Edits) (r : Standing) : Type 0 where
  pub among : (x : List ℕ) → IsPlace (inside (standing_changes (slice_set ps i r))) x
      → IsPlace c x ⊎ IsOf x (prefixed (i ∷ []) d)
  pub covers : (x : List ℕ) → IsWithin c x ⊎ IsOf x (prefixed (i ∷ []) d)
      → IsWithin (inside (standing_changes (slice_set ps i r))) x

place_moves : (ps : List Standing) (i : ℕ) (c r : Standing) (d : Edits) (x : List ℕ) → slice_get ps i ≡ Some c
    → Leads c d r
    → IsPlace (inside (standing_changes (slice_set ps i r))) x
    → IsPlace (inside (standing_changes ps)) x ⊎ IsOf x (prefixed (i ∷ []) d)
place_moves ps i c r d [] e l h = absurd h
place_moves ps i c r d (j ∷ x) e l h = elim (cases_eq i j) [
  | inr differ ↦ inl (subst (λ k. IsPlace k x) (nth_other ps i j r differ) h)
  | inl is ↦
      let here : IsPlace (standing_change r) x = subst (λ k. IsPlace k x)
      (ap (nth_change (standing_changes (slice_set ps i r))) (sym is) ∙ nth_set ps i c r e) h in
      elim (l.among x here) [
        | inl before ↦ inl
            (subst (λ k. IsPlace k x) (sym (ap (nth_change (standing_changes ps)) (sym is) ∙ nth_get ps i c e)) before)
        | inr edit ↦ inr (subst (λ k. IsOf (k ∷ x) (prefixed (i ∷ []) d)) is (of_prefixed (i ∷ []) x d edit))
      ]
]

within_moves : (ps : List Standing) (i : ℕ) (c r : Standing) (d : Edits) (x : List ℕ) → slice_get ps i ≡ Some c
    → Leads c d r
    → IsWithin (inside (standing_changes ps)) x → IsWithin (inside (standing_changes (slice_set ps i r))) x
within_moves ps i c r d [] e l h = absurd h
within_moves ps i c r d (j ∷ x) e l h = elim (cases_eq i j) [
  | inr differ ↦ subst (λ k. IsWithin k x) (sym (nth_other ps i j r differ)) h
  | inl is ↦
      let here : IsWithin (standing_change c) x =
      subst (λ k. IsWithin k x) (ap (nth_change (standing_changes ps)) (sym is) ∙ nth_get ps i c e) h in
      subst (λ k. IsWithin k x)
      (sym (ap (nth_change (standing_changes (slice_set ps i r))) (sym is) ∙ nth_set ps i c r e))
      (l.covers x (inl here))
]

edit_within : (ps : List Standing) (i : ℕ) (c r : Standing) (d : Edits) (x : List ℕ) → slice_get ps i ≡ Some c
    → Leads c d r
    → IsOf x (prefixed (i ∷ []) d) → IsWithin (inside (standing_changes (slice_set ps i r))) x
edit_within ps i c r d x e l h =
    let w = prefixed_of (i ∷ []) x d h in
    subst (IsWithin (inside (standing_changes (slice_set ps i r)))) (sym w.1)
    (subst (λ k. IsWithin k w.0) (sym (nth_set ps i c r e)) (l.covers w.0 (inr w.2)))

one_more : (b : Change) (ps : List Standing) (i : ℕ) (c r : Standing) (d : Edits) → Parted b (standing_changes ps)
    → slice_get ps i ≡ Some c → Leads c d r → OneMore b ps i d r
one_more b ps i c r d p e l = record {
  among = λ x h. elim (place_moves ps i c r d x e l h) [
    | inl before ↦ inl (p.place x before)
    | inr edit ↦ inr edit
  ];
  covers = λ x h. elim h [
    | inl before ↦ within_moves ps i c r d x e l (p.within x before)
    | inr edit ↦ edit_within ps i c r d x e l edit
  ];
}

-- ---- the node leads on

-- what else is needed of the node so far and of the node over the parts
pub record Moves (p q : Standing) (e : Edits) : Type 0 where
  pub follows : Follows p q
  pub among : (x : List ℕ) → IsPlace (standing_change q) x → IsPlace (standing_change p) x ⊎ IsOf x e
  pub covers : (x : List ℕ) → IsWithin (standing_change p) x ⊎ IsOf x e → IsWithin (standing_change q) x

root_stays : (A : Type 0) (t u : Tree) (x : List ℕ) → IsPlace (replaced u) x → IsPlace (replaced t) x ⊎ A
root_stays A t u [] h = inl tt
root_stays A t u (i ∷ x) h = absurd h

moves : (node : Standing) (parts : List Standing) (i : ℕ) (c r : Standing) (d : Edits) → Has node
    → slice_get (parts_now node parts) i ≡ Some c → Leads c d r
    → Moves (node_now node parts) (with_standing node (slice_set (parts_now node parts) i r)) (prefixed (i ∷ []) d)
moves (unchanged t) [] i c r d n e l =
    let o = one_more same (map unchanged (children t)) i c r d (parted_same (children t)) e l in
    record { follows = refl; among = o.among; covers = o.covers }
moves (altered a) [] i c r d n e l =
    let o = one_more (inside a.changes) (stand_all (children a.before) a.changes) i c r d
    (parted_inside (children a.before) a.changes n) e l in
    record { follows = refl; among = o.among; covers = o.covers }
moves (fresh t) [] i c r d n e l = record {
  follows = tt;
  among = λ x. root_stays (IsOf x (prefixed (i ∷ []) d)) t
      (with_children t (map standing_tree (slice_set (map fresh (children t)) i r))) x;
  covers = λ x h. tt;
}
moves (unchanged t) (q ∷ qs) i c r d n e l =
    let o =
    one_more (inside (standing_changes (q ∷ qs))) (q ∷ qs) i c r d (parted_itself (standing_changes (q ∷ qs))) e l in
    record { follows = refl; among = o.among; covers = o.covers }
moves (altered a) (q ∷ qs) i c r d n e l =
    let o =
    one_more (inside (standing_changes (q ∷ qs))) (q ∷ qs) i c r d (parted_itself (standing_changes (q ∷ qs))) e l in
    record { follows = refl; among = o.among; covers = o.covers }
moves (fresh t) (q ∷ qs) i c r d n e l = record {
  follows = tt;
  among = λ x. root_stays (IsOf x (prefixed (i ∷ []) d))
      (with_children t (map standing_tree (q ∷ qs))) (with_children t (map standing_tree (slice_set (q ∷ qs) i r))) x;
  covers = λ x h. tt;
}

set_leads : (node : Standing) (parts : List Standing) (i : ℕ) (c r : Standing) (d : Edits) → Has node
    → PartsStand node parts → slice_get (parts_now node parts) i ≡ Some c → Leads c d r
    → PartsStand node (slice_set (parts_now node parts) i r)
    → Leads (node_now node parts) (prefixed (i ∷ []) d) (node_now node (slice_set (parts_now node parts) i r))
set_leads node parts i c r d n h e l k =
    let ps = parts_now node parts in
    let m : Moves (node_now node parts) (node_now node (slice_set ps i r)) (prefixed (i ∷ []) d) =
    subst (λ x. Moves (node_now node parts) x (prefixed (i ∷ []) d)) (sym (set_over node ps i c r e))
    (moves node parts i c r d n e l) in record {
      follows = m.follows;
      made = subst (Replaces (prefixed (i ∷ []) d) (standing_tree (node_now node parts)))
          (sym (node_written node parts i c r h e k))
          (replaces-child d i (standing_tree (node_now node parts)) (standing_tree c) (standing_tree r)
          (node_tree node parts i c h e) l.made);
      has = node_has node (slice_set ps i r) n k;
      among = m.among;
      covers = m.covers;
    }

pub leads_child : (node : Standing) (parts new : List Standing) (i : ℕ) (c r : Standing) (d : Edits) → Has node
    → PartsStand node parts → slice_get (parts_now node parts) i ≡ Some c → Leads c d r
    → new ≡ slice_set (parts_now node parts) i r
    → Leads (node_now node parts) (prefixed (i ∷ []) d) (node_now node new) × PartsStand node new
leads_child node parts new i c r d n h e l is =
    let k = set_stands node parts i c r h e l.follows l.has in
    subst (λ x. Leads (node_now node parts) (prefixed (i ∷ []) d) (node_now node x) × PartsStand node x) (sym is)
    (set_leads node parts i c r d n h e l k, k)
