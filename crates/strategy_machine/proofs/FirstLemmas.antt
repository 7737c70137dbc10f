-- The first element of a list, and the list of the rest.
use Rattle.std.proofs.Common.{◌≡◌, ◌≤◌, ℕ, ◌+◌, List, [], ◌∷◌, ◌++◌, length, map, take, drop, refl, sym, ap, ◌∙◌, subst, arith, Some, None, Bool, true, false, cond, not, ◌==◌, Bor, Vec, Global, slice_get, slice_set}
use Rattle.std.specs.declared.option.Option.{Option}
use Rattle.term_core.specs.Tree.{Tree, integer, branch, application, list, tuple, children}
use Rattle.term_paths.specs.Edits.{Edits}
use Rattle.term_changes.specs.Standing.{Standing, fresh, standing_tree, standing_children}
use Rattle.strategy_syntax.specs.Resolved.{ResolvedStrategy, tail_congruence, no_strategies, and_strategy}
use Rattle.strategy_meaning.specs.Scopes.{Scope}
use Rattle.strategy_meaning.specs.Matching.{elements}
use Rattle.strategy_meaning.specs.Answer.{Answer, done, and_then, at_root}
use Rattle.strategy_meaning.specs.Meaning.{World, run, form, on_child, rest_of, with_rest, on_rest, is_list_from}
use Rattle.strategy_machine.specs.Table.{scope_at}
use Rattle.term_match.specs.CellContents.{CellContents}
use Rattle.term_match.specs.Marks.{mark_of}
use Rattle.strategy_machine.specs.Leading.{parts_now, all_parts, node_with, PartsStand}
use Rattle.strategy_machine.specs.Trails.{Shows, path_of}
use Rattle.strategy_machine.specs.Frames.{Opens, Meets, put_back, walked, walk_parts, first_part, after_head, after_rest}
use Rattle.strategy_machine.specs.Turns.{State, HoldsIn}
use Rattle.strategy_machine.specs.inside.Taking.{FormIn}
use Rattle.strategy_machine.specs.declared.trail.Trail.{Trail}
use Rattle.strategy_machine.specs.declared.frames.Walk.{Walk}
use Rattle.strategy_machine.specs.declared.frames.Frame.{Frame}
use Rattle.strategy_machine.specs.declared.frames.Frame.TheVariants as frames
use Rattle.strategy_machine.specs.Hands.{Begin, Done, Failed}
use Rattle.strategy_machine.proofs.NodeLeads.{none_stand, child_has, node_tree}
use Rattle.strategy_machine.proofs.PartsLemmas.{rest_same}
use Rattle.strategy_machine.proofs.OpenLemmas.{and_then-done, opens_along, opens_new}
use Rattle.strategy_machine.proofs.TakeLemmas.{yes_is, some_is, none_is, puts, take_failed}
use Rattle.strategy_machine.proofs.ChildLemmas.{walk_at, below, on_there, on_none, no_part, child_inside, goes_up}
use Rattle.strategy_machine.proofs.GiveLemmas.{st, Cuts, cut_back, settled}

-- ---- the first element's turn comes

-- what has elements is a list
list_is : (t : Tree) → is_list_from 1 (elements t) ≡ true → elements t ≡ Some (children t)
list_is (integer z notes) e = absurd (cc)
list_is (branch (application f) kids notes) e = absurd (cc)
list_is (branch list kids notes) e = refl
list_is (branch tuple kids notes) e = absurd (cc)

-- the form over one strategy, by its line in the table
headed : (W : World) (E : Scope) (l : ℕ) (s1 s : ResolvedStrategy) (c : ℕ) (C : CellContents) (t : Tree)
    → is_list_from 1 (elements t) ≡ true
    → form W (run W) E l (tail_congruence (and_strategy s1 no_strategies) s) c C.bindings t
    ≡ and_then (on_child (run W E (l + 1) s1) 0 c C.bindings t) (on_rest (run W E l s) 1)
headed W E l s1 s c C t is =
    yes_is _ _ c is
    ∙ ap (λ a. and_then a (on_rest (run W E l s) 1)) (and_then-done (on_child (run W E (l + 1) s1) 0 c C.bindings t))

pub head_begins : (W : World) (sub : Standing) (whole : Answer) (S : State) (s1 s : Bor ResolvedStrategy) (n : ℕ)
    (p q : Standing) (parts : Vec Standing Global)
    → parts.items ≡ [] → is_list_from 1 (elements (standing_tree p)) ≡ true
    → slice_get (standing_children p) 0 ≡ Some q
    → FormIn W sub whole S (tail_congruence (and_strategy s1.now no_strategies) s.now) n p
    → HoldsIn W sub whole (below S (frames.Head s n (walk_at p parts 0 S))) (Begin s1 n q)
head_begins W sub whole S s1 s n p q parts none is e h =
    let E = scope_at S.scopes n in
    let act = run W E (S.level + 1) s1.now in
    let has = h.opens.leads.has in
    let st : PartsStand p (all_parts p parts.items) =
    subst (λ l. PartsStand p (all_parts p l)) (sym none) (none_stand p has) in
    let here : slice_get (parts_now p (all_parts p parts.items)) 0 ≡ Some q =
    ap (λ ps. slice_get (parts_now p (all_parts p ps)) 0) none ∙ e in
    let same : node_with p parts.items ≡ p = ap (λ l. node_with p l) none in
    let there : slice_get (children (standing_tree p)) 0 ≡ Some (standing_tree q) =
    node_tree p [] 0 q (none_stand p has) e in
    record {
      now = q;
      edits = h.edits;
      shows = h.shows;
      in_hand = (h.there, refl);
      opens = opens_new _ q h.edits (act S.steps S.cells.bindings (standing_tree q))
          (child_has p (all_parts p parts.items) 0 q st here) (
            h.there,
            child_inside S p parts 0 q h.edits has st here h.shows,
            record { none = none; first = refl; list = list_is (standing_tree p) is },
            subst (λ x.
                Opens (Meets W sub whole S.cells (mark_of S.cells) S.scopes S.level S.frames)
                (path_of S.frames) x h.edits
                (after_head W E s.now (walk_at p parts 0 S) (act S.steps S.cells.bindings (standing_tree q))))
                (sym same)
                (opens_along _ _ (headed W E S.level s1.now s.now S.steps S.cells (standing_tree p) is
                ∙ ap (λ a. and_then a (on_rest (run W E S.level s.now) 1))
                (on_there W E (S.level + 1) s1.now 0 S.steps S.cells.bindings (standing_tree p) (standing_tree q) there)
                ∙ ap (λ x. and_then (put_back 0 (standing_tree x) (act S.steps S.cells.bindings (standing_tree q)))
                (on_rest (run W E S.level s.now) 1)) (sym same))
                h.opens),
          );
    }

-- there is no element
pub head_over : (W : World) (sub : Standing) (whole : Answer) (S : State) (s1 s : Bor ResolvedStrategy) (n : ℕ)
    (p : Standing)
    → is_list_from 1 (elements (standing_tree p)) ≡ true → slice_get (standing_children p) 0 ≡ None
    → FormIn W sub whole S (tail_congruence (and_strategy s1.now no_strategies) s.now) n p
    → HoldsIn W sub whole S Failed
head_over W sub whole S s1 s n p is e h =
    let E = scope_at S.scopes n in
    take_failed W sub whole S _ n p (headed W E S.level s1.now s.now S.steps S.cells (standing_tree p) is
    ∙ ap (λ a. and_then a (on_rest (run W E S.level s.now) 1)) (on_none (run W E (S.level + 1) s1.now) 0 S.steps
    S.cells.bindings (standing_tree p) (no_part p [] 0 (none_stand p h.opens.leads.has) e))) h

-- ---- the first element is done

head_set : (cs : List Standing) (start p : Standing) → slice_get cs 0 ≡ Some start
    → (p ∷ []) ++ drop 1 cs ≡ slice_set cs 0 p
head_set [] start p e = absurd (cc)
head_set (c ∷ []) start p e = refl
head_set (c ∷ d ∷ cs) start p e = refl

first_settled : (v : Bool) (w : Walk) (first : Option Standing) (start p : Standing)
    → first ≡ cond v (Some p) None → w.parts.items ≡ [] → w.index ≡ 0
    → slice_get (parts_now w.node (walk_parts w)) w.index ≡ Some start
    → all_parts w.node (first_part first)
    ≡ cond v (slice_set (parts_now w.node (walk_parts w)) w.index p) (walk_parts w)
first_settled true w first start p fe none at e =
    ap (λ x. all_parts w.node (first_part x)) fe
    ∙ head_set (standing_children w.node) start p
    ((λ j. slice_get (parts_now w.node (all_parts w.node (sym none j))) (sym at j)) ∙ e)
    ∙ (λ j. slice_set (parts_now w.node (all_parts w.node (sym none j))) (sym at j) p)
first_settled false w first start p fe none at e = ap (λ x. all_parts w.node (first_part x)) fe
    ∙ ap (λ l. all_parts w.node l) (sym none)

first_short : (first : Option Standing) → length (first_part first) ≤ 1
first_short None = omega arith
first_short (Some p) = omega arith

pub give_head : (W : World) (sub : Standing) (whole : Answer) (C : CellContents) (es : List Scope) (t : Trail) (l c : ℕ)
    (fs : List Frame) (s : Bor ResolvedStrategy) (n : ℕ) (w : Walk) (first : Option Standing) (p q : Standing)
    → first ≡ cond (not (t.count == w.edits)) (Some p) None → q ≡ fresh (rest_of 1 (standing_tree w.node))
    → HoldsIn W sub whole (st C es t l c (frames.Head s n w ∷ fs)) (Done p)
    → HoldsIn W sub whole (st C es t w.level c (frames.After w.node first t.count ∷ fs)) (Begin s n q)
give_head W sub whole C es t l c fs s n w first p q fe qe h =
    let o = h.opens in
    let parts = first_part first in
    let k = settled W sub whole C es t l c fs (frames.Head s n w ∷ fs) w p (all_parts w.node parts) refl
    (first_settled (not (t.count == w.edits)) w first o.start p fe o.is.2.none o.is.2.first o.is.1.is) h o.is.1 in
    let act = run W (scope_at es n) w.level s.now in
    let up =
    goes_up W sub whole C (mark_of C) es w.level fs w o.base o.before h.edits p (all_parts w.node parts) C.bindings c
    (λ a. and_then a (on_rest act 1)) (on_rest act 1) (λ u x. refl) k o.is.3 in
    let same = rest_same w.node parts 1 k.stand (first_short first) in
    rw qe record {
      now = fresh (rest_of 1 (standing_tree w.node));
      edits = h.edits;
      shows = h.shows;
      in_hand = (o.is.0, refl);
      opens = opens_new _ (fresh (rest_of 1 (standing_tree w.node))) h.edits
          (act c C.bindings (rest_of 1 (standing_tree w.node))) tt (
            o.is.2.list,
            k.stand,
            ap fresh same,
            h.shows.count,
            opens_along _ _
                (ap (λ u. after_rest 1 (standing_tree (node_with w.node parts)) (act c C.bindings u)) (sym same)) up,
          );
    }

pub fail_head : (W : World) (sub : Standing) (whole : Answer) (C : CellContents) (es : List Scope) (t u : Trail)
    (l c : ℕ) (fs : List Frame) (s : Bor ResolvedStrategy) (n : ℕ) (w : Walk)
    → Cuts w.edits t u
    → HoldsIn W sub whole (st C es t l c (frames.Head s n w ∷ fs)) Failed
    → HoldsIn W sub whole (st C es u w.level c fs) Failed
fail_head W sub whole C es t u l c fs s n w cu h =
    let o = h.opens in record {
      now = walked w;
      edits = o.base;
      shows = cut_back h.edits o.base _ cu o.is.1.edits o.trail h.shows;
      in_hand = tt;
      opens = o.is.3;
    }

-- ---- the rest is done

first_alone : (qs : List Standing) (p : Standing) → slice_get qs 0 ≡ Some p
    → take 1 (map standing_tree qs) ≡ standing_tree p ∷ []
first_alone [] p e = absurd (cc)
first_alone (q ∷ []) p e = let is : q ≡ p = cc in ap (λ x. standing_tree x ∷ []) is
first_alone (q ∷ r ∷ qs) p e = let is : q ≡ p = cc in ap (λ x. standing_tree x ∷ []) is

-- the first element, in front of the rest
pub first_in_front : (node : Standing) (first : Option Standing) (p : Standing)
    → slice_get (parts_now node (all_parts node (first_part first))) 0 ≡ Some p
    → take 1 (map standing_tree (parts_now node (all_parts node (first_part first)))) ≡ standing_tree p ∷ []
first_in_front node first p e = first_alone (parts_now node (all_parts node (first_part first))) p e

-- what holds of them in a run
pub after_list : (W : World) (sub : Standing) (whole : Answer) (C : CellContents) (es : List Scope) (t : Trail)
    (l c : ℕ) (fs : List Frame) (node : Standing) (first : Option Standing) (k : ℕ) (p : Standing)
    → HoldsIn W sub whole (st C es t l c (frames.After node first k ∷ fs)) (Done p)
    → elements (standing_tree node) ≡ Some (children (standing_tree node))
after_list W sub whole C es t l c fs node first k p h = h.opens.is.0

pub after_stands : (W : World) (sub : Standing) (whole : Answer) (C : CellContents) (es : List Scope) (t : Trail)
    (l c : ℕ) (fs : List Frame) (node : Standing) (first : Option Standing) (k : ℕ) (p : Standing)
    → HoldsIn W sub whole (st C es t l c (frames.After node first k ∷ fs)) (Done p)
    → PartsStand node (all_parts node (first_part first))
after_stands W sub whole C es t l c fs node first k p h = h.opens.is.1

pub give_after : (W : World) (sub : Standing) (whole : Answer) (C : CellContents) (es : List Scope) (t u v : Trail)
    (l c : ℕ) (fs : List Frame) (node : Standing) (first : Option Standing) (k : ℕ) (p q : Standing) (x : Tree)
    → Cuts k t u → ((T : Edits) → Shows u T → Shows v (T ++ record { path = path_of fs; new = x } ∷ []))
    → elements (standing_tree p) ≡ Some (children (standing_tree p))
    → x ≡ with_rest 1 (standing_tree (node_with node (first_part first))) (children (standing_tree p)) → q ≡ fresh x
    → HoldsIn W sub whole (st C es t l c (frames.After node first k ∷ fs)) (Done p)
    → HoldsIn W sub whole (st C es v l c fs) (Done q)
give_after W sub whole C es t u v l c fs node first k p q x cu sh e is qe h =
    let o = h.opens in
    let old = node_with node (first_part first) in
    puts W sub whole (st C es u l c fs) old q o.base x v qe
    (sh o.base (cut_back h.edits o.base _ cu o.is.3 o.trail h.shows))
    (opens_along _ _ (some_is (elements (standing_tree p)) (children (standing_tree p)) c
    (λ us. done (with_rest 1 (standing_tree old) us) C.bindings c (at_root (with_rest 1 (standing_tree old) us))) e
    ∙ ap (λ y. done y C.bindings c (at_root y)) (sym is)) o.is.4)

pub after_fails : (W : World) (sub : Standing) (whole : Answer) (C : CellContents) (es : List Scope) (t u : Trail)
    (l c : ℕ) (fs : List Frame) (node : Standing) (first : Option Standing) (k : ℕ) (p : Standing)
    → Cuts k t u → elements (standing_tree p) ≡ None
    → HoldsIn W sub whole (st C es t l c (frames.After node first k ∷ fs)) (Done p)
    → HoldsIn W sub whole (st C es u l c fs) Failed
after_fails W sub whole C es t u l c fs node first k p cu e h =
    let o = h.opens in
    let old = node_with node (first_part first) in record {
      now = old;
      edits = o.base;
      shows = cut_back h.edits o.base _ cu o.is.3 o.trail h.shows;
      in_hand = tt;
      opens = opens_along _ _ (none_is (elements (standing_tree p)) c (λ us. done (with_rest 1 (standing_tree old) us)
          C.bindings c (at_root (with_rest 1 (standing_tree old) us))) e) o.is.4;
    }

pub fail_after : (W : World) (sub : Standing) (whole : Answer) (C : CellContents) (es : List Scope) (t u : Trail)
    (l c : ℕ) (fs : List Frame) (node : Standing) (first : Option Standing) (k : ℕ)
    → Cuts k t u
    → HoldsIn W sub whole (st C es t l c (frames.After node first k ∷ fs)) Failed
    → HoldsIn W sub whole (st C es u l c fs) Failed
fail_after W sub whole C es t u l c fs node first k cu h =
    let o = h.opens in record {
      now = node_with node (first_part first);
      edits = o.base;
      shows = cut_back h.edits o.base _ cu o.is.3 o.trail h.shows;
      in_hand = tt;
      opens = o.is.4;
    }
