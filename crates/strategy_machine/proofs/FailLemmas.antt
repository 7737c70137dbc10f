-- What a failure leads to when it reaches the innermost frame.
use Rattle.std.proofs.Common.{◌≡◌, ℕ, ◌+◌, List, ◌∷◌, length, take, refl, sym, ap, ◌∙◌, subst, Some, None, Bool, Bor, Vec, Global, slice_get}
use Rattle.term_changes.specs.Standing.{Standing, standing_tree}
use Rattle.strategy_syntax.specs.Resolved.{ResolvedStrategy}
use Rattle.strategy_meaning.specs.Scopes.{Scope}
use Rattle.strategy_meaning.specs.Matching.{Bindings}
use Rattle.strategy_meaning.specs.Answer.{Answer}
use Rattle.strategy_meaning.specs.Meaning.{World, run, leftmost, those_done}
use Rattle.strategy_machine.specs.Table.{scope_at}
use Rattle.term_match.specs.CellContents.{CellContents}
use Rattle.term_match.specs.Marks.{kept, mark_of, Before, Stays}
use Rattle.term_match.specs.declared.cells.Mark.{Mark}
use Rattle.strategy_machine.specs.Leading.{node_with, parts_now, all_parts}
use Rattle.strategy_machine.specs.Trails.{path_of}
use Rattle.strategy_machine.specs.Frames.{left_behind, walked, walk_parts}
use Rattle.strategy_machine.specs.inside.Walks.{passed, next_part}
use Rattle.strategy_machine.specs.Turns.{State, HoldsIn}
use Rattle.strategy_machine.specs.declared.trail.Trail.{Trail}
use Rattle.strategy_machine.specs.declared.frames.Acts.{Acts}
use Rattle.strategy_machine.specs.declared.frames.Walk.{Walk}
use Rattle.strategy_machine.specs.declared.frames.Frame.{Frame}
use Rattle.strategy_machine.specs.declared.frames.Frame.TheVariants as frames
use Rattle.strategy_machine.specs.Hands.{Begin, Failed, Leftmost, Those}
use Rattle.strategy_machine.proofs.OpenLemmas.{opens_along, opens_through, before_self, stays_self, meets_kept, opens_kept}
use Rattle.strategy_machine.proofs.ChildLemmas.{none_left, leftmost_begins, those_begin}
use Rattle.strategy_machine.proofs.GiveLemmas.{st, Cuts, cut_back}

pub fail_then : (W : World) (sub : Standing) (whole : Answer) (C : CellContents) (es : List Scope) (t : Trail) (l c : ℕ)
    (fs : List Frame) (s : Bor ResolvedStrategy) (n : ℕ)
    → HoldsIn W sub whole (st C es t l c (frames.Then s n ∷ fs)) Failed → HoldsIn W sub whole (st C es t l c fs) Failed
fail_then W sub whole C es t l c fs s n h = record {
  now = h.now;
  edits = h.edits;
  shows = h.shows;
  in_hand = tt;
  opens = opens_through _ _ (λ start base e r. r.1) h.opens;
}

pub fail_tail : (W : World) (sub : Standing) (whole : Answer) (C : CellContents) (es : List Scope) (t : Trail) (l c : ℕ)
    (fs : List Frame) (s : Bor ResolvedStrategy) (n k : ℕ)
    → HoldsIn W sub whole (st C es t l c (frames.Tail s n k ∷ fs)) Failed
    → HoldsIn W sub whole (st C es t l c fs) Failed
fail_tail W sub whole C es t l c fs s n k h = record {
  now = h.now;
  edits = h.edits;
  shows = h.shows;
  in_hand = tt;
  opens = opens_through _ _ (λ start base e r. r.1) h.opens;
}

-- the cells are those of the mark
marked : (m : Mark) (D : CellContents) → mark_of D ≡ m → Before m (mark_of D)
marked m D e = subst (λ x. Before m x) (sym e) (before_self m)

pub fail_choice : (W : World) (sub : Standing) (whole : Answer) (C D : CellContents) (es : List Scope) (t u : Trail)
    (l c : ℕ) (fs : List Frame) (s2 s3 : Bor ResolvedStrategy) (n : ℕ) (saved : Standing) (k : ℕ) (m : Mark)
    → Cuts k t u → D.bindings ≡ kept C m → mark_of D ≡ m → Stays m C D
    → HoldsIn W sub whole (st C es t l c (frames.Choose s2 s3 n saved k m ∷ fs)) Failed
    → HoldsIn W sub whole (st D es u l c fs) (Begin s3 n saved)
fail_choice W sub whole C D es t u l c fs s2 s3 n saved k m cu de me sy h =
    let o = h.opens in record {
      now = saved;
      edits = o.base;
      shows = cut_back h.edits o.base _ cu o.is.2 o.trail h.shows;
      in_hand = (o.is.0, refl);
      opens = opens_along _ _ (ap (λ (B : Bindings). run W (scope_at es n) l s3.now c B (standing_tree saved)) (sym de))
          (opens_kept W sub whole C D m (mark_of D) es l fs (path_of fs) saved o.base _ (marked m D me) sy o.is.4);
    }

pub fail_test : (W : World) (sub : Standing) (whole : Answer) (C : CellContents) (es : List Scope) (t u : Trail)
    (l c : ℕ) (fs : List Frame) (saved : Standing) (k : ℕ)
    → Cuts k t u
    → HoldsIn W sub whole (st C es t l c (frames.Restore saved k ∷ fs)) Failed
    → HoldsIn W sub whole (st C es u l c fs) Failed
fail_test W sub whole C es t u l c fs saved k cu h =
    let o = h.opens in record {
      now = saved;
      edits = o.base;
      shows = cut_back h.edits o.base _ cu o.is.1 o.trail h.shows;
      in_hand = tt;
      opens = o.is.2;
    }

pub fail_each : (W : World) (sub : Standing) (whole : Answer) (C : CellContents) (es : List Scope) (t u : Trail)
    (l c : ℕ) (fs : List Frame) (acts : Acts) (n : ℕ) (w : Walk)
    → Cuts w.edits t u
    → HoldsIn W sub whole (st C es t l c (frames.Each acts n w ∷ fs)) Failed
    → HoldsIn W sub whole (st C es u w.level c fs) Failed
fail_each W sub whole C es t u l c fs acts n w cu h =
    let o = h.opens in record {
      now = walked w;
      edits = o.base;
      shows = cut_back h.edits o.base _ cu o.is.1.edits o.trail h.shows;
      in_hand = tt;
      opens = o.is.2;
    }

pub fail_leftmost : (W : World) (sub : Standing) (whole : Answer) (C D : CellContents) (es : List Scope) (t u : Trail)
    (l c : ℕ) (fs : List Frame) (s : Bor ResolvedStrategy) (n i : ℕ) (w : Walk) (m : Mark)
    → i ≡ w.index + 1 → Cuts w.edits t u → D.bindings ≡ kept C m → mark_of D ≡ m → Stays m C D
    → HoldsIn W sub whole (st C es t l c (frames.Leftmost s n w m ∷ fs)) Failed
    → HoldsIn W sub whole (st D es u w.level c fs) (Leftmost s n w.node i)
fail_leftmost W sub whole C D es t u l c fs s n i w m ie cu de me sy h =
    let o = h.opens in
    let same : walked w ≡ w.node = ap (node_with w.node) o.is.3 in
    let act = run W (scope_at es n) (w.level + 1) s.now in
    rw ie record {
      now = walked w;
      edits = o.base;
      shows = cut_back h.edits o.base _ cu o.is.1.edits o.trail h.shows;
      in_hand = (o.is.0, o.is.1.has, same);
      opens = opens_along _ _ (λ j. leftmost act (left_behind w) (w.index + 1) c ((sym de) j) (standing_tree (same j)))
          (opens_kept W sub whole C D m (mark_of D) es w.level fs (path_of fs) (walked w) o.base _ (marked m D me)
          sy o.is.4);
    }

pub fail_those : (W : World) (sub : Standing) (whole : Answer) (C D : CellContents) (es : List Scope) (t u : Trail)
    (l c : ℕ) (fs : List Frame) (s : Bor ResolvedStrategy) (n i : ℕ) (w : Walk) (m : Mark) (any : Bool)
    → i ≡ w.index + 1 → Cuts w.edits t u → D.bindings ≡ kept C m → mark_of D ≡ m → Stays m C D
    → HoldsIn W sub whole (st C es t l c (frames.Those s n w m any ∷ fs)) Failed
    → HoldsIn W sub whole (st D es u w.level c fs) (Those s n w.node i any w.parts)
fail_those W sub whole C D es t u l c fs s n i w m any ie cu de me sy h =
    let o = h.opens in
    let act = run W (scope_at es n) (w.level + 1) s.now in
    rw ie record {
      now = walked w;
      edits = o.base;
      shows = cut_back h.edits o.base _ cu o.is.1.edits o.trail h.shows;
      in_hand = (o.is.0, o.is.1.has, o.is.1.stand, refl);
      opens = opens_along _ _
          (λ j. those_done act (left_behind w) any (w.index + 1) c ((sym de) j) (standing_tree (walked w)))
          (opens_kept W sub whole C D m (mark_of D) es w.level fs (path_of fs) (walked w) o.base _ (marked m D me)
          sy o.is.3);
    }

-- ---- the next child's turn comes in the same frame

all_kept : (C D : CellContents) (m : Mark) → D.bindings ≡ kept C m → mark_of D ≡ m → Stays m C D
    → kept D (mark_of D) ≡ D.bindings
all_kept C D m de me sy = ap (kept D) me ∙ sy m (before_self m) ∙ sym de

pub leftmost_passes : (W : World) (sub : Standing) (whole : Answer) (C D : CellContents) (es : List Scope) (t u : Trail)
    (l c : ℕ) (fs : List Frame) (s : Bor ResolvedStrategy) (n : ℕ) (w : Walk) (m : Mark) (q : Standing)
    → next_part w ≡ Some q → Cuts w.edits t u → D.bindings ≡ kept C m → mark_of D ≡ m → Stays m C D
    → HoldsIn W sub whole (st C es t l c (frames.Leftmost s n w m ∷ fs)) Failed
    → HoldsIn W sub whole (st D es u l c (frames.Leftmost s n (passed w) m ∷ fs)) (Begin s n q)
leftmost_passes W sub whole C D es t u l c fs s n w m q e cu de me sy h =
    let o = h.opens in
    let none = o.is.3 in
    let count : u.count ≡ w.edits = (cut_back h.edits o.base _ cu o.is.1.edits o.trail h.shows).count
    ∙ sym o.is.1.edits in
    subst (λ (S : State). HoldsIn W sub whole S (Begin s n q))
    (λ i. st D es u (sym o.is.1.level i) c (frames.Leftmost s n
    (record { node = w.node; parts = w.parts; index = w.index + 1; level = w.level; edits = count i }) (me i) ∷ fs))
    (leftmost_begins W sub whole (st D es u w.level c fs) s n (w.index + 1) w.node q w.parts none
    (all_kept C D m de me sy)
    (sym (ap (λ ps. slice_get (parts_now w.node (all_parts w.node ps)) (w.index + 1)) none) ∙ e)
    (fail_leftmost W sub whole C D es t u l c fs s n (w.index + 1) w m refl cu de me sy h))

-- no child is left
pub leftmost_ends : (W : World) (sub : Standing) (whole : Answer) (C : CellContents) (es : List Scope) (t u : Trail)
    (l c : ℕ) (fs : List Frame) (s : Bor ResolvedStrategy) (n : ℕ) (w : Walk) (m : Mark)
    → next_part w ≡ None → Cuts w.edits t u
    → HoldsIn W sub whole (st C es t l c (frames.Leftmost s n w m ∷ fs)) Failed
    → HoldsIn W sub whole (st C es u w.level c fs) Failed
leftmost_ends W sub whole C es t u l c fs s n w m e cu h =
    let o = h.opens in
    let act = run W (scope_at es n) (w.level + 1) s.now in
    record {
      now = walked w;
      edits = o.base;
      shows = cut_back h.edits o.base _ cu o.is.1.edits o.trail h.shows;
      in_hand = tt;
      opens = opens_along _ _ (ap (λ (k : ℕ). leftmost act k (w.index + 1) c (kept C m) (standing_tree (walked w)))
          (none_left w.node (walk_parts w) (w.index + 1) o.is.1.stand e))
          (opens_kept W sub whole C C m (mark_of C) es w.level fs (path_of fs) (walked w) o.base _ o.is.2
          (stays_self m C) o.is.4);
    }

pub those_pass : (W : World) (sub : Standing) (whole : Answer) (C D : CellContents) (es : List Scope) (t u : Trail)
    (l c : ℕ) (fs : List Frame) (s : Bor ResolvedStrategy) (n : ℕ) (w : Walk) (m : Mark) (any : Bool) (q : Standing)
    → next_part w ≡ Some q → Cuts w.edits t u → D.bindings ≡ kept C m → mark_of D ≡ m → Stays m C D
    → HoldsIn W sub whole (st C es t l c (frames.Those s n w m any ∷ fs)) Failed
    → HoldsIn W sub whole (st D es u l c (frames.Those s n (passed w) m any ∷ fs)) (Begin s n q)
those_pass W sub whole C D es t u l c fs s n w m any q e cu de me sy h =
    let o = h.opens in
    let count : u.count ≡ w.edits = (cut_back h.edits o.base _ cu o.is.1.edits o.trail h.shows).count
    ∙ sym o.is.1.edits in
    subst (λ (S : State). HoldsIn W sub whole S (Begin s n q))
    (λ i. st D es u (sym o.is.1.level i) c (frames.Those s n
    (record { node = w.node; parts = w.parts; index = w.index + 1; level = w.level; edits = count i }) (me i) any ∷ fs))
    (those_begin W sub whole (st D es u w.level c fs) s n (w.index + 1) w.node q any w.parts (all_kept C D m de me sy) e
    (fail_those W sub whole C D es t u l c fs s n (w.index + 1) w m any refl cu de me sy h))

-- ---- other frames

pub fail_rest : (W : World) (sub : Standing) (whole : Answer) (C : CellContents) (es : List Scope) (t u : Trail)
    (l c : ℕ) (fs : List Frame) (node : Standing) (ps : Vec Standing Global) (n k : ℕ)
    → Cuts k t u
    → HoldsIn W sub whole (st C es t l c (frames.Rest node ps n k ∷ fs)) Failed
    → HoldsIn W sub whole (st C es u l c fs) Failed
fail_rest W sub whole C es t u l c fs node ps n k cu h =
    let o = h.opens in record {
      now = node_with node ps.items;
      edits = o.base;
      shows = cut_back h.edits o.base _ cu o.is.2 o.trail h.shows;
      in_hand = tt;
      opens = o.is.3;
    }

pub fail_leave : (W : World) (sub : Standing) (whole : Answer) (C : CellContents) (es fewer : List Scope) (t : Trail)
    (l c : ℕ) (fs : List Frame) (n : ℕ)
    → fewer ≡ take n es
    → HoldsIn W sub whole (st C es t l c (frames.Leave n ∷ fs)) Failed
    → HoldsIn W sub whole (st C fewer t l c fs) Failed
fail_leave W sub whole C es fewer t l c fs n e h = rw e record {
  now = h.now;
  edits = h.edits;
  shows = h.shows;
  in_hand = tt;
  opens = opens_through _ _ (λ start base x r. r.1) h.opens;
}

pub fail_cut : (W : World) (sub : Standing) (whole : Answer) (C D : CellContents) (es fewer : List Scope) (t : Trail)
    (l c : ℕ) (fs : List Frame) (n k : ℕ)
    → fewer ≡ take k es
    → Before (record { count = n; filled = length C.filled }) (mark_of D)
    → Stays (record { count = n; filled = length C.filled }) C D
    → HoldsIn W sub whole (st C es t l c (frames.Cut n k ∷ fs)) Failed
    → HoldsIn W sub whole (st D fewer t l c fs) Failed
fail_cut W sub whole C D es fewer t l c fs n k e b sy h = rw e record {
  now = h.now;
  edits = h.edits;
  shows = h.shows;
  in_hand = tt;
  opens = opens_through _ _ (λ start base x r. meets_kept W sub whole C D
      (record { count = n; filled = length C.filled }) (mark_of D) (take k es) l fs start base _ b sy r.2) h.opens;
}
