-- Strategies on children: one starts, and one is done.
use Rattle.std.proofs.Common.{◌≡◌, ℕ, ◌+◌, ◌-◌, suc, List, [], ◌∷◌, ◌++◌, length, refl, sym, ap, ◌∙◌, subst, arith, Some, None, Bool, true, false, cond, not, ◌==◌, Bor, Vec, Global, slice_get, slice_set}
use Rattle.std.specs.declared.option.Option.{Option}
use Rattle.std.proofs.lemmas.List.{length-append}
use Rattle.std.proofs.lemmas.Bool.{eqb-true, not-false}
use Rattle.std.proofs.lemmas.Option.{slice_get_past, slice_get_within}
use Rattle.term_core.specs.Tree.{Tree, children, with_child}
use Rattle.term_paths.specs.Edits.{Edits, prefixed}
use Rattle.term_paths.proofs.PathLemmas.{with_child-same}
use Rattle.term_changes.specs.Standing.{Standing, standing_tree}
use Rattle.strategy_syntax.specs.Resolved.{ResolvedStrategy}
use Rattle.strategy_meaning.specs.Scopes.{Scope}
use Rattle.strategy_meaning.specs.Matching.{Bindings}
use Rattle.strategy_meaning.specs.Answer.{Answer, done, failed, Act, either, if_done, with_edits, and_then}
use Rattle.strategy_meaning.specs.Meaning.{World, run, with_some, on_child, each, leftmost, those_done}
use Rattle.strategy_machine.specs.Table.{scope_at}
use Rattle.term_match.specs.CellContents.{CellContents}
use Rattle.term_match.specs.Marks.{kept, mark_of}
use Rattle.term_match.specs.declared.cells.Mark.{Mark}
use Rattle.strategy_machine.specs.Leading.{Leads, Has, node_now, parts_now, all_parts, node_with, PartsStand}
use Rattle.strategy_machine.specs.Trails.{Shows, path_of}
use Rattle.strategy_machine.specs.Frames.{Opens, Meets, Inside, acts_list, put_back, walked, walk_parts, after_leftmost, after_those}
use Rattle.strategy_machine.specs.Turns.{State, HoldsIn}
use Rattle.strategy_machine.specs.declared.trail.Trail.{Trail}
use Rattle.strategy_machine.specs.declared.frames.Acts.{Acts}
use Rattle.strategy_machine.specs.declared.frames.Walk.{Walk}
use Rattle.strategy_machine.specs.declared.frames.Frame.{Frame}
use Rattle.strategy_machine.specs.declared.frames.Frame.TheVariants as frames
use Rattle.strategy_machine.specs.Hands.{Begin, Done, Failed, Each, Leftmost, Those}
use Rattle.strategy_machine.proofs.LeadLemmas.{leads_nothing, leads_same}
use Rattle.strategy_machine.proofs.NodeLeads.{none_stand, child_has, node_has, node_tree, node_count, part_count, node_written, leads_child}
use Rattle.strategy_machine.proofs.PartsLemmas.{past_all}
use Rattle.strategy_machine.proofs.OpenLemmas.{with_edits-done, prefixed-prefixed, opens_along, opens_on, opens_new, before_self}

-- ---- a child's turn comes

-- the child, in the node so far
pub on_there : (W : World) (E : Scope) (l : ℕ) (s : ResolvedStrategy) (i c : ℕ) (B : Bindings) (t u : Tree)
    → slice_get (children t) i ≡ Some u
    → on_child (run W E l s) i c B t ≡ put_back i t (run W E l s c B u)
on_there W E l s i c B t u e =
    ap (λ (o : Option Tree).
    with_some o c (λ v. if_done (run W E l s c B v) (λ x C b d. done (with_child t i x) C b (prefixed (i ∷ []) d)))) e

pub on_none : (act : Act) (i c : ℕ) (B : Bindings) (t : Tree)
    → slice_get (children t) i ≡ None → on_child act i c B t ≡ failed c
on_none act i c B t e =
    ap (λ (o : Option Tree).
    with_some o c (λ v. if_done (act c B v) (λ x C b d. done (with_child t i x) C b (prefixed (i ∷ []) d)))) e

pub no_part : (p : Standing) (parts : List Standing) (i : ℕ) → PartsStand p parts
    → slice_get (parts_now p parts) i ≡ None
    → slice_get (children (standing_tree (node_now p parts))) i ≡ None
no_part p parts i st e = slice_get_past (children (standing_tree (node_now p parts))) i
    (omega (arith, past_all (parts_now p parts) i e, node_count p parts st, part_count p parts st))

-- a walk over a node, at child i
abbrev pub walk_at : Standing → Vec Standing Global → ℕ → State → Walk
walk_at p parts i S = record { node = p; parts = parts; index = i; level = S.level; edits = S.trail.count }

abbrev pub below : State → Frame → State
below S f = record {
  cells = S.cells;
  scopes = S.scopes;
  trail = S.trail;
  level = S.level + 1;
  frames = f ∷ S.frames;
  steps = S.steps;
}

pub child_inside : (S : State) (p : Standing) (parts : Vec Standing Global) (i : ℕ) (q : Standing) (T : Edits) → Has p
    → PartsStand p (all_parts p parts.items)
    → slice_get (parts_now p (all_parts p parts.items)) i ≡ Some q → Shows S.trail T
    → Inside (S.level + 1) (walk_at p parts i S) q T
child_inside S p parts i q T h st e sh = record { level = refl; has = h; stand = st; is = e; edits = sh.count }

pub each_begins : (W : World) (sub : Standing) (whole : Answer) (S : State) (acts others : Acts)
    (s : Bor ResolvedStrategy) (n i k : ℕ) (p q : Standing) (parts : Vec Standing Global)
    → k ≡ length (children (standing_tree p)) - i → acts_list acts k ≡ s.now ∷ acts_list others (k - 1)
    → slice_get (parts_now p (all_parts p parts.items)) i ≡ Some q
    → HoldsIn W sub whole S (Each acts n p i parts)
    → HoldsIn W sub whole (below S (frames.Each others n (walk_at p parts i S))) (Begin s n q)
each_begins W sub whole S acts others s n i k p q parts ke ae e h =
    let st = h.in_hand.2 in
    let E = scope_at S.scopes n in
    let t = standing_tree (node_with p parts.items) in
    let a = run W E (S.level + 1) s.now S.steps S.cells.bindings (standing_tree q) in
    let left : k - 1 ≡ length (children (standing_tree p)) - (i + 1) = omega (arith, ke) in
    record {
      now = q;
      edits = h.edits;
      shows = h.shows;
      in_hand = (h.in_hand.0, refl);
      opens = opens_new _ q h.edits a (child_has p (all_parts p parts.items) i q st e) (
        h.in_hand.0,
        child_inside S p parts i q h.edits h.in_hand.1 st e h.shows,
        opens_along _ _
            (ap (λ (j : ℕ). each (run W E (S.level + 1)) (acts_list acts j) i S.steps S.cells.bindings t) (sym ke)
            ∙ ap (λ (l : List ResolvedStrategy). each (run W E (S.level + 1)) l i S.steps S.cells.bindings t) ae
            ∙ (λ j. and_then (on_there W E (S.level + 1) s.now i S.steps S.cells.bindings t (standing_tree q)
            (node_tree p (all_parts p parts.items) i q st e) j)
            (each (run W E (S.level + 1)) (acts_list others (left j)) (i + 1))))
            (subst (λ x.
            Opens (Meets W sub whole S.cells (mark_of S.cells) S.scopes S.level S.frames) (path_of S.frames) x h.edits
            (each (run W E (S.level + 1)) (acts_list acts (length (children (standing_tree p)) - i)) i S.steps
            S.cells.bindings t)) h.in_hand.3 h.opens),
      );
    }

-- no child is left
pub each_over : (W : World) (sub : Standing) (whole : Answer) (S : State) (acts : Acts) (n i k : ℕ) (p q : Standing)
    (parts : Vec Standing Global)
    → k ≡ length (children (standing_tree p)) - i → acts_list acts k ≡ [] → q ≡ node_with p parts.items
    → HoldsIn W sub whole S (Each acts n p i parts) → HoldsIn W sub whole S (Done q)
each_over W sub whole S acts n i k p q parts ke ae e h =
    let E = scope_at S.scopes n in
    let t = standing_tree (node_with p parts.items) in
    record {
      now = q;
      edits = h.edits;
      shows = h.shows;
      in_hand = refl;
      opens = opens_along _ _
          (ap (λ (j : ℕ). each (run W E (S.level + 1)) (acts_list acts j) i S.steps S.cells.bindings t) (sym ke)
          ∙ ap (λ (l : List ResolvedStrategy). each (run W E (S.level + 1)) l i S.steps S.cells.bindings t) ae
          ∙ ap (λ x. done (standing_tree x) S.cells.bindings S.steps []) (sym e))
          (subst (λ x. Opens (Meets W sub whole S.cells (mark_of S.cells) S.scopes S.level S.frames) (path_of S.frames)
          x h.edits (each (run W E (S.level + 1)) (acts_list acts (length (children (standing_tree p)) - i)) i S.steps
          S.cells.bindings t)) (h.in_hand.3 ∙ sym e) h.opens);
    }

-- there is no such child
pub each_fails : (W : World) (sub : Standing) (whole : Answer) (S : State) (acts others : Acts)
    (s : Bor ResolvedStrategy) (n i k : ℕ) (p : Standing) (parts : Vec Standing Global)
    → k ≡ length (children (standing_tree p)) - i → acts_list acts k ≡ s.now ∷ acts_list others (k - 1)
    → slice_get (parts_now p (all_parts p parts.items)) i ≡ None
    → HoldsIn W sub whole S (Each acts n p i parts) → HoldsIn W sub whole S Failed
each_fails W sub whole S acts others s n i k p parts ke ae e h =
    let E = scope_at S.scopes n in
    let t = standing_tree (node_with p parts.items) in
    record {
      now = h.now;
      edits = h.edits;
      shows = h.shows;
      in_hand = tt;
      opens = opens_along _ _
          (ap (λ (j : ℕ). each (run W E (S.level + 1)) (acts_list acts j) i S.steps S.cells.bindings t) (sym ke)
          ∙ ap (λ (l : List ResolvedStrategy). each (run W E (S.level + 1)) l i S.steps S.cells.bindings t) ae
          ∙ ap (λ x. and_then x (each (run W E (S.level + 1)) (acts_list others (k - 1)) (i + 1))) (on_none (run W E
          (S.level + 1) s.now) i S.steps S.cells.bindings t (no_part p (all_parts p parts.items) i h.in_hand.2 e)))
          h.opens;
    }

-- how many children are left, if there is none at i and if there is one
pub none_left : (p : Standing) (parts : List Standing) (i : ℕ) → PartsStand p parts
    → slice_get (parts_now p parts) i ≡ None → length (children (standing_tree p)) - i ≡ 0
none_left p parts i st e = omega (arith, past_all (parts_now p parts) i e, part_count p parts st)

one_left : {A : Type 0} (us : List A) (i : ℕ) (u : A) → slice_get us i ≡ Some u
    → length us - i ≡ suc (length us - (i + 1))
one_left us i u e = omega (arith, slice_get_within us i u e)

pub leftmost_begins : (W : World) (sub : Standing) (whole : Answer) (S : State) (s : Bor ResolvedStrategy) (n i : ℕ)
    (p q : Standing) (parts : Vec Standing Global)
    → parts.items ≡ [] → kept S.cells (mark_of S.cells) ≡ S.cells.bindings
    → slice_get (parts_now p []) i ≡ Some q
    → HoldsIn W sub whole S (Leftmost s n p i)
    → HoldsIn W sub whole (below S (frames.Leftmost s n (walk_at p parts i S) (mark_of S.cells))) (Begin s n q)
leftmost_begins W sub whole S s n i p q parts none k e h =
    let E = scope_at S.scopes n in
    let act = run W E (S.level + 1) s.now in
    let has = h.in_hand.1 in
    let st : PartsStand p (all_parts p parts.items) =
    subst (λ l. PartsStand p (all_parts p l)) (sym none) (none_stand p has) in
    let here : slice_get (parts_now p (all_parts p parts.items)) i ≡ Some q =
    ap (λ ps. slice_get (parts_now p (all_parts p ps)) i) none ∙ e in
    let same : node_with p parts.items ≡ p = ap (λ l. node_with p l) none in
    let there : slice_get (children (standing_tree p)) i ≡ Some (standing_tree q) =
    node_tree p [] i q (none_stand p has) e in
    record {
      now = q;
      edits = h.edits;
      shows = h.shows;
      in_hand = (h.in_hand.0, refl);
      opens = opens_new _ q h.edits (act S.steps S.cells.bindings (standing_tree q))
          (child_has p (all_parts p parts.items) i q st here) (
            h.in_hand.0,
            child_inside S p parts i q h.edits has st here h.shows,
            before_self (mark_of S.cells),
            none,
            subst (λ x.
                Opens (Meets W sub whole S.cells (mark_of S.cells) S.scopes S.level S.frames)
                (path_of S.frames) x h.edits
                (after_leftmost W E s.now (walk_at p parts i S) S.cells (mark_of S.cells)
                (act S.steps S.cells.bindings (standing_tree q)))) (h.in_hand.2 ∙ sym same)
                (opens_along _ _ (ap (λ (j : ℕ). leftmost act j i S.steps S.cells.bindings (standing_tree p))
                (one_left (children (standing_tree p)) i (standing_tree q) there)
                ∙ (λ j. either (on_there W E (S.level + 1) s.now i S.steps S.cells.bindings (standing_tree p)
                (standing_tree q) there j) done
                (λ b.
                leftmost act (length (children (standing_tree p)) - (i + 1)) (i + 1) b ((sym k) j) (standing_tree p)))
                ∙ ap (λ x. either (put_back i (standing_tree x) (act S.steps S.cells.bindings (standing_tree q))) done
                (λ b. leftmost act (length (children (standing_tree p)) - (i + 1)) (i + 1) b
                (kept S.cells (mark_of S.cells)) (standing_tree x))) (sym same))
                h.opens),
          );
    }

pub leftmost_over : (W : World) (sub : Standing) (whole : Answer) (S : State) (s : Bor ResolvedStrategy) (n i : ℕ)
    (p : Standing)
    → slice_get (parts_now p []) i ≡ None
    → HoldsIn W sub whole S (Leftmost s n p i) → HoldsIn W sub whole S Failed
leftmost_over W sub whole S s n i p e h =
    let act = run W (scope_at S.scopes n) (S.level + 1) s.now in
    record {
      now = h.now;
      edits = h.edits;
      shows = h.shows;
      in_hand = tt;
      opens = opens_along _ _ (ap (λ (j : ℕ). leftmost act j i S.steps S.cells.bindings (standing_tree p))
          (none_left p [] i (none_stand p h.in_hand.1) e)) h.opens;
    }

pub those_begin : (W : World) (sub : Standing) (whole : Answer) (S : State) (s : Bor ResolvedStrategy) (n i : ℕ)
    (p q : Standing) (any : Bool) (parts : Vec Standing Global)
    → kept S.cells (mark_of S.cells) ≡ S.cells.bindings
    → slice_get (parts_now p (all_parts p parts.items)) i ≡ Some q
    → HoldsIn W sub whole S (Those s n p i any parts)
    → HoldsIn W sub whole (below S (frames.Those s n (walk_at p parts i S) (mark_of S.cells) any)) (Begin s n q)
those_begin W sub whole S s n i p q any parts k e h =
    let E = scope_at S.scopes n in
    let act = run W E (S.level + 1) s.now in
    let has = h.in_hand.1 in
    let st = h.in_hand.2 in
    let t = standing_tree (node_with p parts.items) in
    let there : slice_get (children t) i ≡ Some (standing_tree q) = node_tree p (all_parts p parts.items) i q st e in
    let left : length (children (standing_tree p)) - i ≡ suc (length (children (standing_tree p)) - (i + 1)) =
    omega (arith, slice_get_within (children t) i (standing_tree q) there, node_count p (all_parts p parts.items) st) in
    record {
      now = q;
      edits = h.edits;
      shows = h.shows;
      in_hand = (h.in_hand.0, refl);
      opens = opens_new _ q h.edits (act S.steps S.cells.bindings (standing_tree q))
          (child_has p (all_parts p parts.items) i q st e) (
            h.in_hand.0,
            child_inside S p parts i q h.edits has st e h.shows,
            before_self (mark_of S.cells),
            subst (λ x.
                Opens (Meets W sub whole S.cells (mark_of S.cells) S.scopes S.level S.frames)
                (path_of S.frames) x h.edits
                (after_those W E s.now (walk_at p parts i S) S.cells (mark_of S.cells) any
                (act S.steps S.cells.bindings (standing_tree q)))) h.in_hand.3
                (opens_along _ _ (ap (λ (j : ℕ). those_done act j any i S.steps S.cells.bindings t) left
                ∙ (λ j. either (on_there W E (S.level + 1) s.now i S.steps S.cells.bindings t (standing_tree q) there j)
                (λ u B b d.
                with_edits d (those_done act (length (children (standing_tree p)) - (i + 1)) true (i + 1) b B u))
                (λ b. those_done act (length (children (standing_tree p)) - (i + 1)) any (i + 1) b ((sym k) j) t)))
                h.opens),
          );
    }

pub those_over : (W : World) (sub : Standing) (whole : Answer) (S : State) (s : Bor ResolvedStrategy) (n i : ℕ)
    (p q : Standing) (any : Bool) (parts : Vec Standing Global)
    → slice_get (parts_now p (all_parts p parts.items)) i ≡ None → any ≡ true → q ≡ node_with p parts.items
    → HoldsIn W sub whole S (Those s n p i any parts) → HoldsIn W sub whole S (Done q)
those_over W sub whole S s n i p q any parts e a is h =
    let act = run W (scope_at S.scopes n) (S.level + 1) s.now in
    let t = standing_tree (node_with p parts.items) in
    record {
      now = q;
      edits = h.edits;
      shows = h.shows;
      in_hand = refl;
      opens = subst (λ x. Opens (Meets W sub whole S.cells (mark_of S.cells) S.scopes S.level S.frames)
          (path_of S.frames) x h.edits (done (standing_tree q) S.cells.bindings S.steps [])) (h.in_hand.3 ∙ sym is)
          (opens_along _ _ ((λ j.
          those_done act (none_left p (all_parts p parts.items) i h.in_hand.2 e j) (a j) i S.steps S.cells.bindings t)
          ∙ ap (λ x. done (standing_tree x) S.cells.bindings S.steps []) (sym is)) h.opens);
    }

pub those_none : (W : World) (sub : Standing) (whole : Answer) (S : State) (s : Bor ResolvedStrategy) (n i : ℕ)
    (p : Standing) (any : Bool) (parts : Vec Standing Global)
    → slice_get (parts_now p (all_parts p parts.items)) i ≡ None → any ≡ false
    → HoldsIn W sub whole S (Those s n p i any parts) → HoldsIn W sub whole S Failed
those_none W sub whole S s n i p any parts e a h =
    let act = run W (scope_at S.scopes n) (S.level + 1) s.now in
    let t = standing_tree (node_with p parts.items) in
    record {
      now = h.now;
      edits = h.edits;
      shows = h.shows;
      in_hand = tt;
      opens = opens_along _ _ (λ j. those_done act (none_left p (all_parts p parts.items) i h.in_hand.2 e j) (a j) i
          S.steps S.cells.bindings t) h.opens;
    }

-- ---- a child is done

-- the node after that, and the edits that led to it from the node before
pub record Settled (w : Walk) (T : Edits) (base : Edits) (path : List ℕ) (d : Edits) (q : Standing)
    (parts : List Standing) : Type 0 where
  pub leads : Leads (walked w) (prefixed (w.index ∷ []) d) (node_now w.node parts)
  pub stand : PartsStand w.node parts
  pub tree : standing_tree (node_now w.node parts) ≡ with_child (standing_tree (walked w)) w.index (standing_tree q)
  pub trail : T ≡ base ++ prefixed path (prefixed (w.index ∷ []) d)

no_edits : (path : List ℕ) (T base d : Edits) → T ≡ base ++ prefixed path d → length T ≡ length base → d ≡ []
no_edits path T base [] e k = refl
no_edits path T base (x ∷ d) e k =
    absurd (omega (arith, k, ap (λ (l : Edits). length l) e, length-append base (prefixed path (x ∷ d))))

unmoved : (count before : ℕ) → not (count == before) ≡ false → count ≡ before
unmoved count before e = eqb-true count before (not-false (count == before) e)

settled_by : (changed : Bool) (l : ℕ) (w : Walk) (start q : Standing) (base d T : Edits) (path : List ℕ)
    (parts : List Standing)
    → (changed ≡ false → d ≡ []) → Inside l w start base → Leads start d q
    → parts ≡ cond changed (slice_set (parts_now w.node (walk_parts w)) w.index q) (walk_parts w)
    → T ≡ base ++ prefixed (path ++ w.index ∷ []) d → Settled w T base path d q parts
settled_by true l w start q base d T path parts f h k e t =
    let c = leads_child w.node (walk_parts w) parts w.index start q d h.has h.stand h.is k e in record {
      leads = c.0;
      stand = c.1;
      tree = ap (λ ps. standing_tree (node_now w.node ps)) e
          ∙ node_written w.node (walk_parts w) w.index start q h.stand h.is (subst (PartsStand w.node) e c.1);
      trail = t ∙ ap (λ (x : Edits). base ++ x) (sym (prefixed-prefixed path (w.index ∷ []) d));
    }
settled_by false l w start q base d T path parts f h k e t =
    let none = f refl in
    let same : standing_tree start ≡ standing_tree q = leads_same start q (subst (λ x. Leads start x q) none k) in
    record {
      leads = subst (λ x. Leads (walked w) (prefixed (w.index ∷ []) d) (node_now w.node x)) (sym e)
          (subst (λ x. Leads (walked w) (prefixed (w.index ∷ []) x) (walked w)) (sym none)
          (leads_nothing (walked w) (node_has w.node (walk_parts w) h.has h.stand)));
      stand = subst (PartsStand w.node) (sym e) h.stand;
      tree = ap (λ ps. standing_tree (node_now w.node ps)) e
          ∙ sym (with_child-same (standing_tree (walked w)) w.index (standing_tree start)
          (node_tree w.node (walk_parts w) w.index start h.stand h.is))
          ∙ ap (λ x. with_child (standing_tree (walked w)) w.index x) same;
      trail = t ∙ ap (λ (x : Edits). base ++ x) (sym (prefixed-prefixed path (w.index ∷ []) d));
    }

pub settled_here : (l : ℕ) (w : Walk) (start q : Standing) (base d T : Edits) (trail : Trail) (path : List ℕ)
    (parts : List Standing)
    → Shows trail T → Inside l w start base → Leads start d q
    → parts ≡ cond (not (trail.count == w.edits)) (slice_set (parts_now w.node (walk_parts w)) w.index q) (walk_parts w)
    → T ≡ base ++ prefixed (path ++ w.index ∷ []) d → Settled w T base path d q parts
settled_here l w start q base d T trail path parts sh h k e t =
    settled_by (not (trail.count == w.edits)) l w start q base d T path parts
    (λ same. no_edits (path ++ w.index ∷ []) T base d t (sym sh.count ∙ unmoved trail.count w.edits same ∙ h.edits)) h k
    e t

-- the node with its finished child continues
pub goes_up : (W : World) (sub : Standing) (whole : Answer) (C : CellContents) (top : Mark) (es : List Scope) (l : ℕ)
    (fs : List Frame) (w : Walk) (base d T : Edits) (q : Standing) (parts : List Standing) (B : Bindings) (c : ℕ)
    (K : Answer → Answer) (k : ℕ → Bindings → Tree → Answer)
    → ((t : Tree) (e : Edits) → K (done t B c e) ≡ with_edits e (k c B t))
    → Settled w T base (path_of fs) d q parts
    → Opens (Meets W sub whole C top es l fs) (path_of fs) (walked w) base
    (K (put_back w.index (standing_tree (walked w)) (with_edits d (done (standing_tree q) B c []))))
    → Opens (Meets W sub whole C top es l fs) (path_of fs) (node_now w.node parts) T
    (k c B (standing_tree (node_now w.node parts)))
goes_up W sub whole C top es l fs w base d T q parts B c K k law s o =
    opens_on (path_of fs) (walked w) (node_now w.node parts) base T (prefixed (w.index ∷ []) d)
    (k c B (standing_tree (node_now w.node parts))) s.leads s.trail
    (opens_along _ _
    (ap (λ (a : Answer). K (put_back w.index (standing_tree (walked w)) a)) (with_edits-done d (standing_tree q) B c)
    ∙ law (with_child (standing_tree (walked w)) w.index (standing_tree q)) (prefixed (w.index ∷ []) d)
    ∙ ap (λ (t : Tree). with_edits (prefixed (w.index ∷ []) d) (k c B t)) (sym s.tree)) o)
