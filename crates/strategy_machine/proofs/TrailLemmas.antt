-- The path through the frames, the outermost first, and trails.
use Rattle.std.proofs.Common.{◌≡◌, ◌<◌, ◌≤◌, ℕ, ◌+◌, List, [], ◌∷◌, ◌++◌, length, take, map, reverse, refl, sym, ap, ◌∙◌, arith, get_or, suc}
use Rattle.std.proofs.lemmas.List.{append-nil, append_assoc, nil_from_length, reverse-append, take_all, map-append}
use Rattle.std.proofs.Math.Seq.{take-suc}
use Rattle.term_paths.specs.Edits.{Edit, Edits, prefixed}
use Rattle.term_changes.specs.Entries.{Entry}
use Rattle.term_changes.specs.Putting.{entry_at, entries_at}
use Rattle.strategy_machine.specs.Trails.{path_of}
use Rattle.strategy_machine.specs.declared.stack.Start.{Start}
use Rattle.strategy_machine.specs.declared.stack.Front.{Front}
use Rattle.strategy_machine.specs.declared.stack.First.{First}
use Rattle.strategy_machine.specs.inside.Slots.{frames_of, Fits}
use Rattle.strategy_machine.proofs.SlotLemmas.{step_of, outermost}
use Rattle.strategy_machine.specs.declared.frames.Frame.{Frame}
use Rattle.strategy_machine.specs.declared.frames.Walk.{Walk}
use Rattle.strategy_machine.specs.declared.stack.Slot.{Slot}
use Rattle.strategy_machine.specs.declared.frames.Frame.TheVariants as frames

next : (i : ℕ) → i + 1 ≡ suc i
next i = omega arith

taken : {A : Type 0} (fs : List A) (i : ℕ) (f : A) → i < length fs → f ≡ get_or fs i f
    → take (i + 1) fs ≡ take i fs ++ f ∷ []
taken fs i f lt e = ap (λ k. take k fs) (next i) ∙ take-suc fs i f lt ∙ ap (λ x. take i fs ++ x ∷ []) (sym e)

path_step : (f : Frame) (fs : List Frame) → path_of (f ∷ fs) ≡ path_of fs ++ step_of f
path_step (frames.Each acts n w) fs = refl
path_step (frames.Leftmost s n w m) fs = refl
path_step (frames.Those s n w m any) fs = refl
path_step (frames.Head s n w) fs = refl
path_step f fs = sym (append-nil (path_of fs))

-- the outermost frame
path_end : (gs : List Frame) (f : Frame) → path_of (gs ++ f ∷ []) ≡ step_of f ++ path_of gs
path_end [] f = path_step f [] ∙ sym (append-nil (step_of f))
path_end (g ∷ gs) f =
    path_step g (gs ++ f ∷ []) ∙ ap (λ x. x ++ step_of g) (path_end gs f)
    ∙ append_assoc (step_of f) (path_of gs) (step_of g)
    ∙ ap (λ x. step_of f ++ x) (sym (path_step g gs))

path_front : (f : Frame) (fs : List Frame) → path_of (reverse (f ∷ fs)) ≡ step_of f ++ path_of (reverse fs)
path_front f fs = ap path_of (reverse-append (f ∷ []) fs) ∙ path_end (reverse fs) f

-- the path goes through the children that the walks are at
pub path_walks : (xs : List Slot) (ws : List Walk) (ss : List Start) (fs : List Front) (ks : List First)
    → Fits xs ws ss fs ks → path_of (reverse (frames_of xs ws ss fs ks)) ≡ map (λ w. w.index) ws
path_walks [] ws ss fs ks h = sym (ap (map (λ w. w.index)) (nil_from_length ws h.walks))
path_walks (x ∷ xs) ws ss fs ks h =
    let o = outermost x xs ws ss fs ks h in
    ap (λ (l : List Frame). path_of (reverse l)) o.is
    ∙ path_front o.frame (frames_of xs o.walks o.starts o.fronts o.firsts)
    ∙ ap (λ (l : List ℕ). step_of o.frame ++ l) (path_walks xs o.walks o.starts o.fronts o.firsts o.fits) ∙ sym o.steps

-- one more walk
pub path_more : (ws : List Walk) (i : ℕ) (w : Walk) (old new : List ℕ) → i < length ws → w ≡ get_or ws i w
    → old ≡ map (λ v. v.index) (take i ws) → new ≡ old ++ w.index ∷ [] → new ≡ map (λ v. v.index) (take (i + 1) ws)
path_more ws i w old new lt e o n =
    n ∙ ap (λ x. x ++ w.index ∷ []) o
    ∙ sym (map-append (λ v. v.index) (take i ws) (w ∷ [])) ∙ ap (map (λ v. v.index)) (sym (taken ws i w lt e))

pub path_whole : (ws : List Walk) (i : ℕ) (p : List ℕ) → length ws ≤ i → p ≡ map (λ v. v.index) (take i ws)
    → p ≡ map (λ v. v.index) ws
path_whole ws i p le e = e ∙ ap (map (λ v. v.index)) (take_all i ws le)

-- ---- edits as entries of a plan

prefixed-append : (p : List ℕ) (e d : Edits) → prefixed p (e ++ d) ≡ prefixed p e ++ prefixed p d
prefixed-append p [] d = refl
prefixed-append p (x ∷ e) d = ap (λ l. record { path = p ++ x.path; new = x.new } ∷ l) (prefixed-append p e d)

-- one more edit
pub planned_more : (slot : ℕ) (p : List ℕ) (es : Edits) (i : ℕ) (x : Edit) (old new : List Entry) → i < length es
    → x ≡ get_or es i x → old ≡ entries_at slot (prefixed p (take i es))
    → new ≡ old ++ entry_at slot (record { path = p ++ x.path; new = x.new })
    ∷ [] → new ≡ entries_at slot (prefixed p (take (i + 1) es))
planned_more slot p es i x old new lt e o n =
    let one : Edits = record { path = p ++ x.path; new = x.new } ∷ [] in
    n ∙ ap (λ l. l ++ entries_at slot one) o ∙ sym (map-append (entry_at slot) (prefixed p (take i es)) one)
    ∙ ap (entries_at slot) (sym (prefixed-append p (take i es) (x ∷ []))
    ∙ ap (prefixed p) (sym (ap (λ k. take k es) (next i) ∙ take-suc es i x lt ∙ ap (λ y. take i es ++ y ∷ []) (sym e))))

pub planned_whole : (slot : ℕ) (p : List ℕ) (es T : Edits) (i : ℕ) (plan : List Entry)
    → length es ≤ i → plan ≡ entries_at slot (prefixed p (take i es)) → es ≡ T → plan ≡ entries_at slot (prefixed p T)
planned_whole slot p es T i plan le e t = e ∙ ap (λ l. entries_at slot (prefixed p l)) (take_all i es le ∙ t)
