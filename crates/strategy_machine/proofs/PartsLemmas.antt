-- The parts in the places of all children, given those of some first ones.
use Rattle.std.proofs.Common.{◌≡◌, ◌<◌, ◌≤◌, ℕ, zero, suc, List, [], ◌∷◌, ◌++◌, ◌⊎◌, inl, inr, length, map, take, drop, slice_get, slice_set, Some, None, Bool, true, false, cond, refl, sym, ap, subst, ◌∙◌, arith, ◌==◌}
use Rattle.std.proofs.lemmas.Bool.{eqb-true}
use Rattle.std.proofs.Math.ListN.{drop_of_length-le}
use Rattle.std.proofs.lemmas.List.{append-nil, length-append, length-set, nil_from_length, set-append_left, set_past}
use Rattle.std.proofs.lemmas.Option.{slice_get_past}
use Rattle.term_core.specs.Tree.{Tree, children, with_children, list_term}
use Rattle.term_changes.specs.Standing.{Standing, standing_tree, standing_children, CanHold, with_standing}
use Rattle.term_changes.proofs.NodeLemmas.{with_children-with_children}
use Rattle.term_changes.proofs.StandingLemmas.{length-map_tree}
use Rattle.term_changes.proofs.FollowLemmas.{followers_can_stand, trees_of_children}
use Rattle.strategy_meaning.specs.Meaning.{rest_of, with_rest}
use Rattle.strategy_machine.specs.Leading.{node_now, parts_now, all_parts, node_with, PartsStand}
use Rattle.strategy_machine.specs.inside.Filling.{over, Fills}
use Rattle.strategy_machine.proofs.LookupLemmas.{get-outer}
use Rattle.strategy_machine.proofs.NodeLeads.{tree_now, trees_now}

pub parts_over : (p : Standing) (qs : List Standing) → parts_now p (all_parts p qs) ≡ over qs (standing_children p)
parts_over p [] = refl
parts_over p (q ∷ qs) = refl

-- the number of children
pub count_is : (p : Standing) → length (standing_children p) ≡ length (children (standing_tree p))
count_is p = sym (length-map_tree (standing_children p)) ∙ ap length (trees_of_children p)

dropped : {A : Type 0} (xs : List A) (n : ℕ) → length xs ≤ n → drop n xs ≡ []
dropped xs n le = drop_of_length-le xs le

over_none : (qs : List Standing) → over qs [] ≡ qs
over_none qs = ap (λ (l : List Standing). qs ++ l) (dropped {A = Standing} [] (length qs) (omega arith)) ∙ append-nil qs

-- ---- one of them

get_after : (qs cs : List Standing) (i : ℕ) → length qs ≤ i → slice_get (over qs cs) i ≡ slice_get cs i
get_after [] cs i le = refl
get_after (q ∷ qs) [] i le = ap (λ l. slice_get l i) (over_none (q ∷ qs)) ∙ slice_get_past (q ∷ qs) i le
get_after (q ∷ qs) (c ∷ cs) zero le = absurd (omega (arith, le))
get_after (q ∷ qs) (c ∷ cs) (suc i) le = get_after qs cs i (omega (arith, le))

pub child_in : (p : Standing) (qs : List Standing) (i : ℕ) → i < length qs
    → slice_get qs i ≡ slice_get (parts_now p (all_parts p qs)) i
child_in p qs i lt = sym (get-outer qs (drop (length qs) (standing_children p)) i lt)
    ∙ ap (λ l. slice_get l i) (sym (parts_over p qs))

pub child_after : (p : Standing) (qs : List Standing) (i : ℕ)
    → length qs ≤ i → slice_get (standing_children p) i ≡ slice_get (parts_now p (all_parts p qs)) i
child_after p qs i le = sym (get_after qs (standing_children p) i le) ∙ ap (λ l. slice_get l i) (sym (parts_over p qs))

-- ---- one of them set

set_in : (qs cs : List Standing) (i : ℕ) (q : Standing) → i < length qs
    → over (slice_set qs i q) cs ≡ slice_set (over qs cs) i q
set_in qs cs i q lt = ap (λ n. slice_set qs i q ++ drop n cs) (length-set qs i q)
    ∙ sym (set-append_left qs (drop (length qs) cs) i q lt)

set_next : (qs cs : List Standing) (q : Standing) → length qs < length cs
    → over (qs ++ q ∷ []) cs ≡ slice_set (over qs cs) (length qs) q
set_next [] [] q lt = absurd (omega (arith, lt))
set_next [] (c ∷ cs) q lt = refl
set_next (x ∷ qs) [] q lt = absurd (omega (arith, lt))
set_next (x ∷ qs) (c ∷ cs) q lt = ap (λ l. x ∷ l) (set_next qs cs q (omega (arith, lt)))

more_over : (qs cs : List Standing) (c : Standing) → slice_get cs (length qs) ≡ Some c
    → over (qs ++ c ∷ []) cs ≡ over qs cs
more_over [] [] c e = absurd (cc)
more_over [] (d ∷ cs) c e = let is : d ≡ c = cc in ap (λ x. x ∷ cs) (sym is)
more_over (x ∷ qs) [] c e = absurd (cc)
more_over (x ∷ qs) (d ∷ cs) c e = ap (λ l. x ∷ l) (more_over qs cs c e)

-- ---- the first n filled in

-- the first n filled in, partway
pub record Filling (cs qs : List Standing) (n : ℕ) (new : List Standing) : Type 0 where
  pub same : over new cs ≡ over qs cs
  pub most : length qs ≤ n → length new ≤ n

pub filling_none : (cs qs : List Standing) (n : ℕ) → Filling cs qs n qs
filling_none cs qs n = record { same = refl; most = λ le. le }

pub filling_more : (cs qs : List Standing) (n : ℕ) (old new : List Standing) (c : Standing) → length old
    < n → slice_get cs (length old) ≡ Some c → new ≡ old ++ c ∷ [] → Filling cs qs n old → Filling cs qs n new
filling_more cs qs n old new c lt e is f = record {
  same = ap (λ l. over l cs) is ∙ more_over old cs c e ∙ f.same;
  most = λ le. omega (arith, lt, ap (λ l. length l) is, length-append old (c ∷ []));
}

pub past_all : {A : Type 0} (cs : List A) (i : ℕ) → slice_get cs i ≡ None → length cs ≤ i
past_all [] i e = omega arith
past_all (c ∷ cs) zero e = absurd (cc)
past_all (c ∷ cs) (suc i) e = omega (arith, past_all cs i e)

pub filled_all : (cs qs : List Standing) (n : ℕ) (new : List Standing)
    → slice_get cs (length new) ≡ None → Filling cs qs n new → Fills cs qs n new
filled_all cs qs n new e f = record { same = f.same; most = f.most; least = inr (past_all cs (length new) e) }

pub filled : (cs qs : List Standing) (n : ℕ) (new : List Standing) → n ≤ length new → Filling cs qs n new
    → Fills cs qs n new
filled cs qs n new le f = record { same = f.same; most = f.most; least = inl le }

-- if no part is held, there are no children
all_over : (p : Standing) (new : List Standing)
    → (length new ≡ 0 → length (standing_children p) ≡ 0) → all_parts p new ≡ over new (standing_children p)
all_over p [] f = sym (nil_from_length (standing_children p) (f refl))
all_over p (q ∷ qs) f = refl

-- ---- the focus, settled

pub settled_in : (p : Standing) (qs : List Standing) (i : ℕ) (q : Standing) (new : List Standing) → i < length qs
    → new ≡ slice_set qs i q
    → all_parts p new ≡ slice_set (parts_now p (all_parts p qs)) i q
settled_in p qs i q new lt is =
    all_over p new (λ e. absurd (omega (arith, lt, e, ap (λ l. length l) is, length-set qs i q)))
    ∙ ap (λ l. over l (standing_children p)) is ∙ set_in qs (standing_children p) i q lt
    ∙ ap (λ l. slice_set l i q) (sym (parts_over p qs))

pub settled_next : (p : Standing) (qs : List Standing) (i : ℕ) (q : Standing) (mid new : List Standing)
    → Fills (standing_children p) qs i mid → length mid ≡ i → i < length (children (standing_tree p))
    → new ≡ mid ++ q ∷ []
    → all_parts p new ≡ slice_set (parts_now p (all_parts p qs)) i q
settled_next p qs i q mid new f e lt is =
    let cs = standing_children p in
    all_over p new (λ z. absurd (omega (arith, z, ap (λ l. length l) is, length-append mid (q ∷ []))))
    ∙ ap (λ l. over l cs) is ∙ set_next mid cs q (omega (arith, e, lt, count_is p))
    ∙ (λ j. slice_set (f.same j) (e j) q)
    ∙ ap (λ l. slice_set l i q) (sym (parts_over p qs))

length-over_most : (qs cs : List Standing) (i : ℕ) → length qs ≤ i → length cs ≤ i → length (over qs cs) ≤ i
length-over_most [] cs i le lc = lc
length-over_most (q ∷ qs) [] i le lc = omega (arith, le, ap (λ l. length l) (over_none (q ∷ qs)))
length-over_most (q ∷ qs) (c ∷ cs) zero le lc = absurd (omega (arith, le))
length-over_most (q ∷ qs) (c ∷ cs) (suc i) le lc =
    omega (arith, length-over_most qs cs i (omega (arith, le)) (omega (arith, lc)))

not_both : (n i m : ℕ) → (n ≡ i → m ≤ i) → n ≤ i → (i ≤ n) ⊎ (m ≤ n) → m ≤ i
not_both n i m f le (inl g) = f (omega (arith, le, g))
not_both n i m f le (inr g) = omega (arith, le, g)

none_left : (n i m : ℕ) → (n ≡ i → m ≤ i) → (i ≤ n) ⊎ (m ≤ n) → n ≤ i → n ≡ 0 → m ≡ 0
none_left n i m f (inl g) le z = let same : n ≡ i = omega (arith, le, g) in omega (arith, f same, same, z)
none_left n i m f (inr g) le z = omega (arith, g, z)

pub settled_past : (p : Standing) (qs : List Standing) (i : ℕ) (q : Standing) (new : List Standing)
    → length qs ≤ i → Fills (standing_children p) qs i new → (length new ≡ i → length (children (standing_tree p)) ≤ i)
    → all_parts p new ≡ slice_set (parts_now p (all_parts p qs)) i q
settled_past p qs i q new le f g =
    let cs = standing_children p in
    let most = f.most le in
    let past : length new ≡ i → length cs ≤ i = λ e. omega (arith, g e, count_is p) in
    all_over p new (none_left (length new) i (length cs) past f.least most)
    ∙ sym (set_past (over new cs) i q
    (length-over_most new cs i most (not_both (length new) i (length cs) past most f.least)))
    ∙ ap (λ l. slice_set l i q) (f.same ∙ sym (parts_over p qs))

pub when_changed : (v : Bool) (xs ys : List Standing) → v ≡ true → xs ≡ cond v xs ys
when_changed true xs ys e = refl
when_changed false xs ys e = absurd (cc)

-- ---- the finished node

all_filled : (cs qs new : List Standing) → Fills cs qs (length cs) new → new ≡ over qs cs
all_filled cs qs new f =
    let le : length cs ≤ length new = enough f.least in
    sym (ap (λ (l : List Standing). new ++ l) (dropped cs (length new) le) ∙ append-nil new) ∙ f.same
  where
    enough : (length cs ≤ length new) ⊎ (length cs ≤ length new) → length cs ≤ length new
    enough (inl g) = g
    enough (inr g) = g

pub finished_parts : (p : Standing) (qs new : List Standing) (n : ℕ) → n ≡ length (children (standing_tree p))
    → Fills (standing_children p) qs n new → new ≡ parts_now p (all_parts p qs)
finished_parts p qs new n e f =
    all_filled (standing_children p) qs new (subst (λ k. Fills (standing_children p) qs k new) (e ∙ sym (count_is p)) f)
    ∙ sym (parts_over p qs)

pub finished_can_hold : (p : Standing) (qs new : List Standing) → PartsStand p (all_parts p qs)
    → new ≡ parts_now p (all_parts p qs) → CanHold p new
finished_can_hold p qs new h e =
    subst (CanHold p) (sym e) (followers_can_stand p (parts_now p (all_parts p qs)) h.follow)

pub finished_is : (p : Standing) (qs new : List Standing) (b : Bool)
    → b ≡ (length qs == 0) → b ≡ false → new ≡ parts_now p (all_parts p qs) → with_standing p new ≡ node_with p qs
finished_is p [] new b e f is = absurd (cc)
finished_is p (q ∷ qs) new b e f is = ap (with_standing p) is

pub unfinished_is : (p : Standing) (qs : List Standing) (b : Bool)
    → b ≡ (length qs == 0) → b ≡ true → p ≡ node_with p qs
unfinished_is p [] b e f = refl
unfinished_is p (q ∷ qs) b e f = absurd (omega (arith, eqb-true (length (q ∷ qs)) 0 (sym e ∙ f)))

-- ---- the rest of a list after its first elements

dropped_over : {A : Type 0} (f : Standing → A) (qs cs : List Standing) (n : ℕ)
    → length qs ≤ n → drop n (map f (over qs cs)) ≡ drop n (map f cs)
dropped_over f [] cs n le = refl
dropped_over f (q ∷ qs) [] zero le = absurd (omega (arith, le))
dropped_over {A = A} f (q ∷ qs) [] (suc n) le =
    ap (λ (l : List Standing). drop n (map f (qs ++ l))) (sym (dropped {A = Standing} [] (length qs) (omega arith)))
    ∙ dropped_over f qs [] n (omega (arith, le)) ∙ dropped {A = A} [] n (omega arith)
dropped_over f (q ∷ qs) (c ∷ cs) zero le = absurd (omega (arith, le))
dropped_over f (q ∷ qs) (c ∷ cs) (suc n) le = dropped_over f qs cs n (omega (arith, le))

pub rest_same : (p : Standing) (qs : List Standing) (n : ℕ) → PartsStand p (all_parts p qs)
    → length qs ≤ n → rest_of n (standing_tree p) ≡ rest_of n (standing_tree (node_with p qs))
rest_same p qs n h le =
    sym (ap (λ l. list_term (drop n l)) (trees_now p (all_parts p qs) h)
    ∙ ap (λ l. list_term (drop n (map standing_tree l))) (parts_over p qs)
    ∙ ap list_term (dropped_over standing_tree qs (standing_children p) n le)
    ∙ ap (λ l. list_term (drop n l)) (trees_of_children p))

pub rest_put : (p : Standing) (all : List Standing) (n : ℕ) (us : List Tree) → PartsStand p all
    → with_children (standing_tree p) (take n (map standing_tree (parts_now p all)) ++ us) ≡ with_rest n
    (standing_tree (node_now p all)) us
rest_put p all n us h =
    let vs = map standing_tree (parts_now p all) in
    sym (with_children-with_children (standing_tree p) vs (take n vs ++ us))
    ∙ (λ i. with_children (sym (tree_now p all h) i) (take n (sym (trees_now p all h) i) ++ us))
