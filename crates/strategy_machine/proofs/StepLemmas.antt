-- A walk over children that moves on in its frame, the innermost one.
use Rattle.std.proofs.Common.{ℕ, List, [], ◌∷◌, ◌++◌, reverse, sym, ap, ◌∙◌, ◌≡◌, subst, Some, None, Bool, Bor}
use Rattle.std.specs.declared.option.Option.{Option}
use Rattle.std.proofs.lemmas.List.{same_from_push}
use Rattle.term_changes.specs.Standing.{Standing}
use Rattle.strategy_syntax.specs.Resolved.{ResolvedStrategy}
use Rattle.strategy_meaning.specs.Answer.{Answer}
use Rattle.strategy_meaning.specs.Meaning.{World}
use Rattle.strategy_machine.specs.Table.{scopes}
use Rattle.strategy_machine.specs.inside.Walks.{LastGoesOn, passed, next_part, LastStepsOver}
use Rattle.strategy_machine.specs.Turns.{state_of, HoldsIn, Holds}
use Rattle.strategy_machine.specs.declared.machine.Machine.{Machine}
use Rattle.strategy_machine.specs.declared.trail.Trail.{Trail}
use Rattle.strategy_machine.specs.declared.frames.Walk.{Walk}
use Rattle.strategy_machine.specs.declared.frames.Frame.{Frame}
use Rattle.strategy_machine.specs.declared.frames.Frame.TheVariants as frames
use Rattle.strategy_machine.specs.declared.stack.Slot.{Slot}
use Rattle.strategy_machine.specs.declared.stack.Slot.TheVariants as slots
use Rattle.strategy_machine.specs.inside.Slots.{with_walk}
use Rattle.term_match.specs.CellContents.{CellContents}
use Rattle.term_match.specs.Marks.{kept, mark_of, Before, Stays}
use Rattle.term_match.specs.declared.cells.Mark.{Mark}
use Rattle.strategy_machine.specs.Hands.{Begin, Done, Failed}
use Rattle.strategy_machine.proofs.OpenLemmas.{pushed}
use Rattle.strategy_machine.proofs.TakeLemmas.{framed, with_frames}
use Rattle.strategy_machine.proofs.GiveLemmas.{st, Cuts, goes_on}
use Rattle.strategy_machine.proofs.FailLemmas.{leftmost_passes, leftmost_ends, those_pass}
use Rattle.strategy_machine.proofs.WalkLemmas.{popped}

pub frame_goes_on : (W : World) (sub : Standing) (whole : Answer) (m : Machine) (s : Bor ResolvedStrategy) (n : ℕ)
    (q : Standing) (new : List Frame) → LastGoesOn m.frames m.part m.trail.count s n new q
    → Holds W sub whole m (Done m.part) → HoldsIn W sub whole (framed (state_of m) (reverse new)) (Begin s n q)
frame_goes_on W sub whole m s n q new k h =
    with_frames W sub whole (state_of m) (Begin s n q) (k.2 ∷ reverse k.0) (reverse new) (pushed k.0 new k.2 k.4)
    (goes_on W sub whole m.cells (scopes m.scopes) m.trail m.level m.steps (reverse k.0) k.1 k.2 s n m.part q k.5
    (with_frames W sub whole (state_of m) (Done m.part) (reverse m.frames) (k.1 ∷ reverse k.0)
    (sym (pushed k.0 m.frames k.1 k.3)) h))

pub frame_stays : (W : World) (sub : Standing) (whole : Answer) (m : Machine) (q : Standing) (new : List Frame)
    → new ≡ m.frames → q ≡ m.part
    → Holds W sub whole m (Done m.part) → HoldsIn W sub whole (framed (state_of m) (reverse new)) (Done q)
frame_stays W sub whole m q new d e h =
    with_frames W sub whole (state_of m) (Done q) (reverse m.frames) (reverse new) (ap reverse d)
    (subst (λ (p : Standing). HoldsIn W sub whole (state_of m) (Done p)) (sym e) h)

-- ---- after a failure

cuts_as : (j k : ℕ) (t u : Trail) → j ≡ k → Cuts j t u → Cuts k t u
cuts_as j k t u e c T D x = c T D (e ∙ x)

pub frame_passes : (W : World) (sub : Standing) (whole : Answer) (m : Machine) (s : Bor ResolvedStrategy) (n : ℕ)
    (mark : Mark) (q : Standing) (new : List Frame) (edits : ℕ) (D : CellContents) (u : Trail)
    → LastStepsOver (slots.Leftmost s n mark) m.frames m.part (Some edits) new q → Cuts edits m.trail u
    → D.bindings ≡ kept m.cells mark → mark_of D ≡ mark → Stays mark m.cells D
    → Holds W sub whole m Failed
    → HoldsIn W sub whole (st D (scopes m.scopes) u m.level m.steps (reverse new)) (Begin s n q)
frame_passes W sub whole m s n mark q new edits D u (front, w, v, e, d, found) cu de me sy h =
    with_frames W sub whole (st D (scopes m.scopes) u m.level m.steps (reverse new)) (Begin s n q)
    (frames.Leftmost s n (passed w) mark ∷ reverse front) (reverse new)
    (pushed front new (frames.Leftmost s n v mark) d
    ∙ ap (λ (x : Walk). frames.Leftmost s n x mark ∷ reverse front) found.1)
    (leftmost_passes W sub whole m.cells D (scopes m.scopes) m.trail u m.level m.steps (reverse front) s n w mark q
    found.2 (cuts_as edits w.edits m.trail u found.0 cu) de me sy
    (popped W sub whole m Failed front (frames.Leftmost s n w mark) e h))

pub frame_passes_some : (W : World) (sub : Standing) (whole : Answer) (m : Machine) (s : Bor ResolvedStrategy) (n : ℕ)
    (mark : Mark) (any : Bool) (q : Standing) (new : List Frame) (edits : ℕ) (D : CellContents) (u : Trail)
    → LastStepsOver (slots.Those s n mark any) m.frames m.part (Some edits) new q → Cuts edits m.trail u
    → D.bindings ≡ kept m.cells mark → mark_of D ≡ mark → Stays mark m.cells D
    → Holds W sub whole m Failed
    → HoldsIn W sub whole (st D (scopes m.scopes) u m.level m.steps (reverse new)) (Begin s n q)
frame_passes_some W sub whole m s n mark any q new edits D u (front, w, v, e, d, found) cu de me sy h =
    with_frames W sub whole (st D (scopes m.scopes) u m.level m.steps (reverse new)) (Begin s n q)
    (frames.Those s n (passed w) mark any ∷ reverse front) (reverse new)
    (pushed front new (frames.Those s n v mark any) d
    ∙ ap (λ (x : Walk). frames.Those s n x mark any ∷ reverse front) found.1)
    (those_pass W sub whole m.cells D (scopes m.scopes) m.trail u m.level m.steps (reverse front) s n w mark any q
    found.2 (cuts_as edits w.edits m.trail u found.0 cu) de me sy
    (popped W sub whole m Failed front (frames.Those s n w mark any) e h))

-- the cells' mark comes after that of the frame
pub passes_after : (W : World) (sub : Standing) (whole : Answer) (m : Machine) (s : Bor ResolvedStrategy) (n : ℕ)
    (mark : Mark) (q : Standing) (new : List Frame) (found : Option ℕ)
    → LastStepsOver (slots.Leftmost s n mark) m.frames m.part found new q → Holds W sub whole m Failed
    → Before mark (mark_of m.cells)
passes_after W sub whole m s n mark q new found (front, w, v, e, d, rest) h =
    (popped W sub whole m Failed front (frames.Leftmost s n w mark) e h).opens.is.2

pub passes_some_after : (W : World) (sub : Standing) (whole : Answer) (m : Machine) (s : Bor ResolvedStrategy) (n : ℕ)
    (mark : Mark) (any : Bool) (q : Standing) (new : List Frame) (found : Option ℕ)
    → LastStepsOver (slots.Those s n mark any) m.frames m.part found new q → Holds W sub whole m Failed
    → Before mark (mark_of m.cells)
passes_some_after W sub whole m s n mark any q new found (front, w, v, e, d, rest) h =
    (popped W sub whole m Failed front (frames.Those s n w mark any) e h).opens.is.2

-- without a next child, the frames stay
pub frames_stay : (x : Slot) (old new : List Frame) (p q : Standing) → LastStepsOver x old p None new q → new ≡ old
frames_stay x old new p q (front, w, v, e, d, found) = d ∙ ap (λ (y : Walk). front ++ with_walk x y) found.0 ∙ sym e

pub frame_ends : (W : World) (sub : Standing) (whole : Answer) (m : Machine) (s : Bor ResolvedStrategy) (n : ℕ)
    (mark : Mark) (q : Standing) (new rest : List Frame) (w : Walk) (u : Trail)
    → LastStepsOver (slots.Leftmost s n mark) m.frames m.part None new q
    → new ≡ rest ++ frames.Leftmost s n w mark ∷ [] → Cuts w.edits m.trail u
    → Holds W sub whole m Failed
    → HoldsIn W sub whole (st m.cells (scopes m.scopes) u w.level m.steps (reverse rest)) Failed
frame_ends W sub whole m s n mark q new rest w u (front, x, v, e, d, found) is cu h =
    let same : frames.Leftmost s n w mark ≡ frames.Leftmost s n v mark =
    (same_from_push rest front (frames.Leftmost s n w mark) (frames.Leftmost s n v mark) (sym is ∙ d)).1 in
    let last : w ≡ v = cc in
    leftmost_ends W sub whole m.cells (scopes m.scopes) m.trail u m.level m.steps (reverse rest) s n w mark
    (ap next_part (last ∙ found.0) ∙ found.2) cu
    (popped W sub whole m Failed rest (frames.Leftmost s n w mark)
    (e ∙ ap (λ (y : Walk). front ++ frames.Leftmost s n y mark ∷ []) (sym found.0) ∙ sym d ∙ is) h)
