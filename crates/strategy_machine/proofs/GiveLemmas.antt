-- What an answer leads to when it reaches the innermost frame.
use Rattle.std.proofs.Common.{◌≡◌, ℕ, zero, suc, ◌+◌, ◌-◌, List, [], ◌∷◌, ◌++◌, length, take, refl, sym, ap, ◌∙◌, subst, arith, Some, None, Bool, true, false, cond, not, ◌==◌, Bor, Vec, Global, slice_get, slice_set}
use Rattle.std.proofs.lemmas.List.{append-nil}
use Rattle.std.proofs.lemmas.Option.{slice_get_within}
use Rattle.term_core.specs.Tree.{Tree, children}
use Rattle.term_paths.specs.Edits.{Edits, prefixed}
use Rattle.term_changes.specs.Standing.{Standing, fresh, standing_tree, standing_children, CanHold, with_standing}
use Rattle.term_changes.proofs.FollowLemmas.{followers_can_stand}
use Rattle.strategy_syntax.specs.Resolved.{ResolvedStrategy}
use Rattle.strategy_meaning.specs.Scopes.{Scope}
use Rattle.strategy_meaning.specs.Matching.{Bindings, elements}
use Rattle.strategy_meaning.specs.Answer.{Answer, done, failed, either, with_edits, and_then, at_root}
use Rattle.strategy_meaning.specs.Meaning.{World, run, each, leftmost, those_done, rest_of, with_rest, on_rest}
use Rattle.strategy_machine.specs.Table.{scope_at}
use Rattle.term_match.specs.CellContents.{CellContents}
use Rattle.term_match.specs.Marks.{kept, mark_of, Before, Stays}
use Rattle.term_match.specs.declared.cells.Mark.{Mark}
use Rattle.strategy_machine.specs.Leading.{Leads, Has, node_now, parts_now, all_parts, node_with, PartsStand}
use Rattle.strategy_machine.specs.Trails.{Shows, path_of}
use Rattle.strategy_machine.specs.Frames.{Opens, Meets, Inside, acts_list, walked, walk_parts, left_behind}
use Rattle.strategy_machine.specs.inside.Walks.{StepsOn, GoesOn, with_acts}
use Rattle.strategy_machine.specs.Turns.{State, HoldsIn, IsDone}
use Rattle.strategy_machine.specs.declared.trail.Trail.{Trail}
use Rattle.strategy_machine.specs.declared.frames.Acts.{Acts}
use Rattle.strategy_machine.specs.declared.frames.Walk.{Walk}
use Rattle.strategy_machine.specs.declared.frames.Frame.{Frame}
use Rattle.strategy_machine.specs.declared.frames.Frame.TheVariants as frames
use Rattle.strategy_machine.specs.Hands.{Begin, Done, Failed, Each, Those}
use Rattle.strategy_machine.proofs.OpenLemmas.{with_edits-done, opens_along, opens_through, opens_on, opens_new, prefixed-nothing, stays_self, meets_kept, opens_kept}
use Rattle.strategy_machine.proofs.NodeLeads.{part_count}
use Rattle.strategy_machine.proofs.ChildLemmas.{Settled, settled_here, goes_up, each_begins}
use Rattle.strategy_machine.proofs.TakeLemmas.{puts, some_is, none_is}

abbrev pub st : CellContents → List Scope → Trail → ℕ → ℕ → List Frame → State
st C es t l c fs = record { cells = C; scopes = es; trail = t; level = l; frames = fs; steps = c }

-- the trail is cut to this many edits
abbrev pub Cuts : ℕ → Trail → Trail → Type 0
Cuts k old new = (T D : Edits) → k ≡ length T → Shows old (T ++ D) → Shows new T

pub cut_back : {k : ℕ} {old new : Trail} (T base d : Edits) → Cuts k old new → k ≡ length base
    → T ≡ base ++ d → Shows old T → Shows new base
cut_back {old = old} T base d c e is sh = c base d e (subst (Shows old) is sh)

-- ---- a part is done

-- edits followed by a success
given : (e : Edits) (t : Tree) (B : Bindings) (c : ℕ)
    (act : ℕ → Bindings → Tree → Answer) → and_then (with_edits e (done t B c [])) act ≡ with_edits e (act c B t)
given e t B c act = ap (λ (x : Edits). with_edits x (act c B t)) (append-nil e)

pub give_then : (W : World) (sub : Standing) (whole : Answer) (C : CellContents) (es : List Scope) (t : Trail) (l c : ℕ)
    (fs : List Frame) (s : Bor ResolvedStrategy) (n : ℕ) (p : Standing)
    → HoldsIn W sub whole (st C es t l c (frames.Then s n ∷ fs)) (Done p)
    → HoldsIn W sub whole (st C es t l c fs) (Begin s n p)
give_then W sub whole C es t l c fs s n p h = record {
  now = h.now;
  edits = h.edits;
  shows = h.shows;
  in_hand = (h.opens.is.0, h.in_hand);
  opens = opens_through _ _ (λ start base e r. subst (Meets W sub whole C (mark_of C) es l fs start base)
      (given e (standing_tree p) C.bindings c (run W (scope_at es n) l s.now)) r.1) h.opens;
}

pub give_choice : (W : World) (sub : Standing) (whole : Answer) (C : CellContents) (es : List Scope) (t : Trail)
    (l c : ℕ) (fs : List Frame) (s2 s3 : Bor ResolvedStrategy) (n : ℕ) (saved p : Standing) (k : ℕ) (m : Mark)
    → HoldsIn W sub whole (st C es t l c (frames.Choose s2 s3 n saved k m ∷ fs)) (Done p)
    → HoldsIn W sub whole (st C es t l c fs) (Begin s2 n p)
give_choice W sub whole C es t l c fs s2 s3 n saved p k m h =
    let o = h.opens in
    let next = run W (scope_at es n) l s2.now c C.bindings (standing_tree p) in
    record {
      now = p;
      edits = h.edits;
      shows = h.shows;
      in_hand = (o.is.0, refl);
      opens = opens_kept W sub whole C C m (mark_of C) es l fs (path_of fs) p h.edits next o.is.3 (stays_self m C)
          (opens_on (path_of fs) saved p o.base h.edits o.before next
          (subst (λ x. Leads saved o.before x) h.in_hand (subst (λ x. Leads x o.before h.now) o.is.1 o.leads)) o.trail
          (opens_along _ _ (given o.before (standing_tree p) C.bindings c (run W (scope_at es n) l s2.now)) o.is.4));
    }

pub give_test : (W : World) (sub : Standing) (whole : Answer) (C : CellContents) (es : List Scope) (t u : Trail)
    (l c : ℕ) (fs : List Frame) (saved p : Standing) (k : ℕ)
    → Cuts k t u
    → HoldsIn W sub whole (st C es t l c (frames.Restore saved k ∷ fs)) (Done p)
    → HoldsIn W sub whole (st C es u l c fs) (Done saved)
give_test W sub whole C es t u l c fs saved p k cu h =
    let o = h.opens in record {
      now = saved;
      edits = o.base;
      shows = cut_back h.edits o.base _ cu o.is.1 o.trail h.shows;
      in_hand = refl;
      opens = o.is.2;
    }

pub settled : (W : World) (sub : Standing) (whole : Answer) (C : CellContents) (es : List Scope) (t : Trail) (l c : ℕ)
    (fs gs : List Frame) (w : Walk) (p : Standing) (parts : List Standing)
    → path_of gs ≡ path_of fs ++ w.index ∷ []
    → parts ≡ cond (not (t.count == w.edits)) (slice_set (parts_now w.node (walk_parts w)) w.index p) (walk_parts w)
    → (h : HoldsIn W sub whole (st C es t l c gs) (Done p)) → Inside l w h.opens.start h.opens.base
    → Settled w h.edits h.opens.base (path_of fs) h.opens.before p parts
settled W sub whole C es t l c fs gs w p parts pe e h k =
    settled_here l w h.opens.start p h.opens.base h.opens.before h.edits t (path_of fs) parts h.shows k
    (subst (λ x. Leads h.opens.start h.opens.before x) h.in_hand h.opens.leads) e
    (h.opens.trail ∙ ap (λ (x : List ℕ). h.opens.base ++ prefixed x h.opens.before) pe)

pub give_each : (W : World) (sub : Standing) (whole : Answer) (C : CellContents) (es : List Scope) (t : Trail) (l c : ℕ)
    (fs : List Frame) (acts : Acts) (n i : ℕ) (w : Walk) (p : Standing) (parts : Vec Standing Global)
    → i ≡ w.index + 1
    → all_parts w.node parts.items
    ≡ cond (not (t.count == w.edits)) (slice_set (parts_now w.node (walk_parts w)) w.index p) (walk_parts w)
    → HoldsIn W sub whole (st C es t l c (frames.Each acts n w ∷ fs)) (Done p)
    → HoldsIn W sub whole (st C es t w.level c fs) (Each acts n w.node i parts)
give_each W sub whole C es t l c fs acts n i w p parts ie e h =
    let o = h.opens in
    let k =
    settled W sub whole C es t l c fs (frames.Each acts n w ∷ fs) w p (all_parts w.node parts.items) refl e h o.is.1 in
    rw ie record {
      now = node_with w.node parts.items;
      edits = h.edits;
      shows = h.shows;
      in_hand = (o.is.0, o.is.1.has, k.stand, refl);
      opens = goes_up W sub whole C (mark_of C) es w.level fs w o.base o.before h.edits p (all_parts w.node parts.items)
          C.bindings c
          (λ a. and_then a (each (run W (scope_at es n) (w.level + 1)) (acts_list acts (left_behind w)) (w.index + 1)))
          (each (run W (scope_at es n) (w.level + 1)) (acts_list acts (left_behind w)) (w.index + 1)) (λ u x. refl) k
          o.is.2;
    }

-- the walk moves on in its frame
pub steps_on : (W : World) (sub : Standing) (whole : Answer) (C : CellContents) (es : List Scope) (t : Trail) (l c : ℕ)
    (fs : List Frame) (acts others : Acts) (n : ℕ) (w v : Walk) (s : Bor ResolvedStrategy) (p q : Standing)
    → ((k : ℕ) → acts_list acts (suc k) ≡ s.now ∷ acts_list others k)
    → StepsOn w p t.count v q
    → HoldsIn W sub whole (st C es t l c (frames.Each acts n w ∷ fs)) (Done p)
    → HoldsIn W sub whole (st C es t l c (frames.Each others n v ∷ fs)) (Begin s n q)
steps_on W sub whole C es t l c fs acts others n w v s p q a k h =
    let up = give_each W sub whole C es t l c fs acts n v.index w p v.parts k.index k.parts h in
    let many : ℕ = length (children (standing_tree w.node)) - v.index in
    let left : many ≡ suc (many - 1) =
    omega (
      arith,
      slice_get_within (parts_now w.node (all_parts w.node v.parts.items)) v.index q k.child,
      part_count w.node (all_parts w.node v.parts.items) up.in_hand.2,
    ) in
    subst (λ (S : State). HoldsIn W sub whole S (Begin s n q))
    (λ i. st C es t (sym h.opens.is.1.level i) c (frames.Each others n
    (record { node = sym k.node i; parts = v.parts; index = v.index; level = sym k.level i; edits = sym k.edits i })
    ∷ fs))
    (each_begins W sub whole (st C es t w.level c fs) acts others s n v.index many w.node q v.parts refl
    (ap (acts_list acts) left ∙ a (many - 1)) k.child up)

-- so does the frame
pub goes_on : (W : World) (sub : Standing) (whole : Answer) (C : CellContents) (es : List Scope) (t : Trail) (l c : ℕ)
    (fs : List Frame) (f g : Frame) (s : Bor ResolvedStrategy) (n : ℕ) (p q : Standing)
    → GoesOn f p t.count s n g q → HoldsIn W sub whole (st C es t l c (f ∷ fs)) (Done p)
    → HoldsIn W sub whole (st C es t l c (g ∷ fs)) (Begin s n q)
goes_on W sub whole C es t l c fs (frames.Each acts m w) g s n p q (others, h, next, walks, is) x =
    subst (λ (k : ℕ). HoldsIn W sub whole (st C es t l c (g ∷ fs)) (Begin s k q)) (sym next.0)
    (subst (λ (y : Frame). HoldsIn W sub whole (st C es t l c (y ∷ fs)) (Begin s m q))
    (sym (is ∙ ap (λ (y : Frame). with_acts y others) walks.1))
    (steps_on W sub whole C es t l c fs acts others m w walks.0 s p q next.1 walks.2 x))
goes_on W sub whole C es t l c fs f g s n p q k x = absurd k.2

-- ---- the child of a walk that holds no parts

node_set : (p : Standing) (cs : List Standing) (i : ℕ) (q start : Standing) → slice_get cs i ≡ Some start
    → with_standing p (slice_set cs i q) ≡ node_now p (slice_set cs i q)
node_set p [] i q start e = absurd (cc)
node_set p (c ∷ cs) zero q start e = refl
node_set p (c ∷ cs) (suc i) q start e = refl

parts_set : (p : Standing) (cs : List Standing) (i : ℕ) (q start : Standing) → slice_get cs i ≡ Some start
    → parts_now p (slice_set cs i q) ≡ slice_set cs i q
parts_set p [] i q start e = absurd (cc)
parts_set p (c ∷ cs) zero q start e = refl
parts_set p (c ∷ cs) (suc i) q start e = refl

-- all of its children are as they were
no_parts : (w : Walk) → w.parts.items ≡ [] → walk_parts w ≡ []
no_parts w none = ap (all_parts w.node) none

child_there : (w : Walk) (start : Standing)
    → w.parts.items ≡ [] → slice_get (parts_now w.node (walk_parts w)) w.index ≡ Some start
    → slice_get (standing_children w.node) w.index ≡ Some start
child_there w start none e = ap (λ l. slice_get (parts_now w.node l) w.index) (sym (no_parts w none)) ∙ e

rises_to : (w : Walk) (start p : Standing) (b : Bool)
    → w.parts.items ≡ [] → slice_get (parts_now w.node (walk_parts w)) w.index ≡ Some start
    → cond b (with_standing w.node (slice_set (standing_children w.node) w.index p)) w.node
    ≡ node_now w.node (cond b (slice_set (parts_now w.node (walk_parts w)) w.index p) (walk_parts w))
rises_to w start p true none e =
    node_set w.node (standing_children w.node) w.index p start (child_there w start none e)
    ∙ ap (λ l. node_now w.node (slice_set (parts_now w.node l) w.index p)) (sym (no_parts w none))
rises_to w start p false none e = ap (node_now w.node) (sym (no_parts w none))

pub give_leftmost : (W : World) (sub : Standing) (whole : Answer) (C : CellContents) (es : List Scope) (t : Trail)
    (l c : ℕ) (fs : List Frame) (s : Bor ResolvedStrategy) (n : ℕ) (w : Walk) (m : Mark) (p q : Standing)
    → q ≡ cond (not (t.count == w.edits)) (with_standing w.node (slice_set (standing_children w.node) w.index p)) w.node
    → HoldsIn W sub whole (st C es t l c (frames.Leftmost s n w m ∷ fs)) (Done p)
    → HoldsIn W sub whole (st C es t w.level c fs) (Done q)
give_leftmost W sub whole C es t l c fs s n w m p q is h =
    let o = h.opens in
    let parts =
    cond (not (t.count == w.edits)) (slice_set (parts_now w.node (walk_parts w)) w.index p) (walk_parts w) in
    let k = settled W sub whole C es t l c fs (frames.Leftmost s n w m ∷ fs) w p parts refl refl h o.is.1 in
    let act = run W (scope_at es n) (w.level + 1) s.now in
    rw (is ∙ rises_to w o.start p (not (t.count == w.edits)) o.is.3 o.is.1.is) record {
      now = node_now w.node parts;
      edits = h.edits;
      shows = h.shows;
      in_hand = refl;
      opens = opens_kept W sub whole C C m (mark_of C) es w.level fs (path_of fs) (node_now w.node parts) h.edits _
          o.is.2 (stays_self m C)
          (goes_up W sub whole C m es w.level fs w o.base o.before h.edits p parts C.bindings c
          (λ a. either a done (λ b. leftmost act (left_behind w) (w.index + 1) b (kept C m) (standing_tree (walked w))))
          (λ b B u. done u B b []) (λ u x. sym (with_edits-done x u C.bindings c)) k o.is.4);
    }

-- the child can be put into the node
pub leftmost_can_hold : (W : World) (sub : Standing) (whole : Answer) (C : CellContents) (es : List Scope) (t : Trail)
    (l c : ℕ) (fs : List Frame) (s : Bor ResolvedStrategy) (n : ℕ) (w : Walk) (m : Mark) (p : Standing)
    → (t.count == w.edits) ≡ false
    → HoldsIn W sub whole (st C es t l c (frames.Leftmost s n w m ∷ fs)) (Done p)
    → CanHold w.node (slice_set (standing_children w.node) w.index p)
leftmost_can_hold W sub whole C es t l c fs s n w m p changed h =
    let o = h.opens in
    let cs = standing_children w.node in
    let parts = slice_set cs w.index p in
    let e : parts
    ≡ cond (not (t.count == w.edits)) (slice_set (parts_now w.node (walk_parts w)) w.index p) (walk_parts w) =
    ap (λ l. slice_set (parts_now w.node l) w.index p) (sym (no_parts w o.is.3))
    ∙ ap (λ b. cond (not b) (slice_set (parts_now w.node (walk_parts w)) w.index p) (walk_parts w)) (sym changed) in
    let k = settled W sub whole C es t l c fs (frames.Leftmost s n w m ∷ fs) w p parts refl e h o.is.1 in
    subst (CanHold w.node) (parts_set w.node cs w.index p o.start (child_there w o.start o.is.3 o.is.1.is))
    (followers_can_stand w.node (parts_now w.node parts) k.stand.follow)

pub give_those : (W : World) (sub : Standing) (whole : Answer) (C : CellContents) (es : List Scope) (t : Trail)
    (l c : ℕ) (fs : List Frame) (s : Bor ResolvedStrategy) (n i : ℕ) (w : Walk) (m : Mark) (any : Bool) (p : Standing)
    (parts : Vec Standing Global)
    → i ≡ w.index + 1
    → all_parts w.node parts.items
    ≡ cond (not (t.count == w.edits)) (slice_set (parts_now w.node (walk_parts w)) w.index p) (walk_parts w)
    → HoldsIn W sub whole (st C es t l c (frames.Those s n w m any ∷ fs)) (Done p)
    → HoldsIn W sub whole (st C es t w.level c fs) (Those s n w.node i true parts)
give_those W sub whole C es t l c fs s n i w m any p parts ie e h =
    let o = h.opens in
    let k = settled W sub whole C es t l c fs (frames.Those s n w m any ∷ fs) w p (all_parts w.node parts.items) refl e
    h o.is.1 in
    let act = run W (scope_at es n) (w.level + 1) s.now in
    rw ie record {
      now = node_with w.node parts.items;
      edits = h.edits;
      shows = h.shows;
      in_hand = (o.is.0, o.is.1.has, k.stand, refl);
      opens = opens_kept W sub whole C C m (mark_of C) es w.level fs (path_of fs) (node_with w.node parts.items) h.edits
          _ o.is.2 (stays_self m C)
          (goes_up W sub whole C m es w.level fs w o.base o.before h.edits p (all_parts w.node parts.items) C.bindings c
          (λ a. either a (λ u B b x. with_edits x (those_done act (left_behind w) true (w.index + 1) b B u))
          (λ b. those_done act (left_behind w) any (w.index + 1) b (kept C m) (standing_tree (walked w))))
          (those_done act (left_behind w) true (w.index + 1)) (λ u x. refl) k o.is.3);
    }

pub give_tail : (W : World) (sub : Standing) (whole : Answer) (C : CellContents) (es : List Scope) (t : Trail) (l c : ℕ)
    (fs : List Frame) (s : Bor ResolvedStrategy) (n k : ℕ) (node q : Standing) (ps : Vec Standing Global)
    → PartsStand node (all_parts node ps.items) → q ≡ fresh (rest_of k (standing_tree (node_with node ps.items)))
    → HoldsIn W sub whole (st C es t l c (frames.Tail s n k ∷ fs)) (Done (node_with node ps.items))
    → HoldsIn W sub whole (st C es t l c (frames.Rest node ps k t.count ∷ fs)) (Begin s n q)
give_tail W sub whole C es t l c fs s n k node q ps stand e h =
    let p = node_with node ps.items in
    let act = run W (scope_at es n) l s.now in
    let o = opens_through {S = Meets W sub whole C (mark_of C) es l fs} _ (on_rest act k c C.bindings (standing_tree p))
    (λ start base x r. subst (Meets W sub whole C (mark_of C) es l fs start base)
    (given x (standing_tree p) C.bindings c (on_rest act k)) r.1) h.opens in
    rw e record {
      now = fresh (rest_of k (standing_tree p));
      edits = h.edits;
      shows = h.shows;
      in_hand = (h.opens.is.0, refl);
      opens = opens_new _ (fresh (rest_of k (standing_tree p))) h.edits
          (act c C.bindings (rest_of k (standing_tree p))) tt (
            stand,
            refl,
            h.shows.count,
            subst (λ x. Opens (Meets W sub whole C (mark_of C) es l fs) (path_of fs) x h.edits
                (on_rest act k c C.bindings (standing_tree p))) h.in_hand o,
          );
    }

pub give_rest : (W : World) (sub : Standing) (whole : Answer) (C : CellContents) (es : List Scope) (t u v : Trail)
    (l c : ℕ) (fs : List Frame) (node : Standing) (ps : Vec Standing Global) (n k : ℕ) (p q : Standing) (x : Tree)
    → Cuts k t u → ((T : Edits) → Shows u T → Shows v (T ++ record { path = path_of fs; new = x } ∷ []))
    → elements (standing_tree p) ≡ Some (children (standing_tree p))
    → x ≡ with_rest n (standing_tree (node_with node ps.items)) (children (standing_tree p)) → q ≡ fresh x
    → HoldsIn W sub whole (st C es t l c (frames.Rest node ps n k ∷ fs)) (Done p)
    → HoldsIn W sub whole (st C es v l c fs) (Done q)
give_rest W sub whole C es t u v l c fs node ps n k p q x cu sh e is qe h =
    let o = h.opens in
    let old = node_with node ps.items in
    puts W sub whole (st C es u l c fs) old q o.base x v qe
    (sh o.base (cut_back h.edits o.base _ cu o.is.2 o.trail h.shows))
    (opens_along _ _ (some_is (elements (standing_tree p)) (children (standing_tree p)) c
    (λ us. done (with_rest n (standing_tree old) us) C.bindings c (at_root (with_rest n (standing_tree old) us))) e
    ∙ ap (λ y. done y C.bindings c (at_root y)) (sym is)) o.is.3)

-- the part can be put into the node
pub rest_stands : (W : World) (sub : Standing) (whole : Answer) (C : CellContents) (es : List Scope) (t : Trail)
    (l c : ℕ) (fs : List Frame) (node : Standing) (ps : Vec Standing Global) (n k : ℕ) (p : Standing)
    → HoldsIn W sub whole (st C es t l c (frames.Rest node ps n k ∷ fs)) (Done p)
    → PartsStand node (all_parts node ps.items)
rest_stands W sub whole C es t l c fs node ps n k p h = h.opens.is.0

pub rest_fails : (W : World) (sub : Standing) (whole : Answer) (C : CellContents) (es : List Scope) (t u : Trail)
    (l c : ℕ) (fs : List Frame) (node : Standing) (ps : Vec Standing Global) (n k : ℕ) (p : Standing)
    → Cuts k t u → elements (standing_tree p) ≡ None
    → HoldsIn W sub whole (st C es t l c (frames.Rest node ps n k ∷ fs)) (Done p)
    → HoldsIn W sub whole (st C es u l c fs) Failed
rest_fails W sub whole C es t u l c fs node ps n k p cu e h =
    let o = h.opens in
    let old = node_with node ps.items in record {
      now = old;
      edits = o.base;
      shows = cut_back h.edits o.base _ cu o.is.2 o.trail h.shows;
      in_hand = tt;
      opens = opens_along _ _ (none_is (elements (standing_tree p)) c (λ us. done (with_rest n (standing_tree old) us)
          C.bindings c (at_root (with_rest n (standing_tree old) us))) e) o.is.3;
    }

pub give_leave : (W : World) (sub : Standing) (whole : Answer) (C : CellContents) (es fewer : List Scope) (t : Trail)
    (l c : ℕ) (fs : List Frame) (n : ℕ) (p : Standing)
    → fewer ≡ take n es
    → HoldsIn W sub whole (st C es t l c (frames.Leave n ∷ fs)) (Done p)
    → HoldsIn W sub whole (st C fewer t l c fs) (Done p)
give_leave W sub whole C es fewer t l c fs n p e h = rw e record {
  now = h.now;
  edits = h.edits;
  shows = h.shows;
  in_hand = h.in_hand;
  opens = opens_through _ _ (λ start base x r. r.1) h.opens;
}

pub give_cut : (W : World) (sub : Standing) (whole : Answer) (C D : CellContents) (es fewer : List Scope) (t : Trail)
    (l c : ℕ) (fs : List Frame) (n k : ℕ) (p : Standing)
    → fewer ≡ take k es → D.bindings ≡ take n C.bindings
    → Before (record { count = n; filled = length C.filled }) (mark_of D)
    → Stays (record { count = n; filled = length C.filled }) C D
    → HoldsIn W sub whole (st C es t l c (frames.Cut n k ∷ fs)) (Done p)
    → HoldsIn W sub whole (st D fewer t l c fs) (Done p)
give_cut W sub whole C D es fewer t l c fs n k p e de b sy h = rw e record {
  now = h.now;
  edits = h.edits;
  shows = h.shows;
  in_hand = h.in_hand;
  opens = opens_through _ _ (λ start base x r. subst (Meets W sub whole D (mark_of D) (take k es) l fs start base)
      (ap (λ (B : Bindings). done (standing_tree p) B c (x ++ [])) (sym de))
      (meets_kept W sub whole C D (record { count = n; filled = length C.filled }) (mark_of D) (take k es) l fs start
      base _ b sy r.2)) h.opens;
}

-- a finished focus has the places of its change
pub in_hand_has : (W : World) (sub : Standing) (whole : Answer) (S : State) (p : Standing)
    → HoldsIn W sub whole S (Done p) → Has p
in_hand_has W sub whole S p h = subst Has h.in_hand h.opens.leads.has

-- no frame is left
pub done_whole : (W : World) (sub : Standing) (whole : Answer) (C : CellContents) (es : List Scope) (t : Trail)
    (l c : ℕ) (p : Standing)
    → HoldsIn W sub whole (st C es t l c []) (Done p) → IsDone sub whole (st C es t l c []) p
done_whole W sub whole C es t l c p h =
    let o = h.opens in
    let trail : h.edits ≡ o.before = o.trail ∙ ap (λ (x : Edits). x ++ prefixed [] o.before) o.is.1
    ∙ prefixed-nothing o.before in
    record {
      edits = o.before;
      leads = subst (λ x. Leads sub o.before x) h.in_hand (subst (λ x. Leads x o.before h.now) o.is.0 o.leads);
      shows = subst (Shows t) trail h.shows;
      bindings = C.bindings;
      is = sym o.is.2 ∙ with_edits-done o.before (standing_tree p) C.bindings c;
    }

pub failed_whole : (W : World) (sub : Standing) (whole : Answer) (C : CellContents) (es : List Scope)
    (t : Trail) (l c : ℕ)
    → HoldsIn W sub whole (st C es t l c []) Failed → whole ≡ failed c
failed_whole W sub whole C es t l c h = sym h.opens.is.2
