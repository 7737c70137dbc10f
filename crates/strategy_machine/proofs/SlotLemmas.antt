-- Slots beside the stacks of what is large: adding and taking off the innermost frame.
use Rattle.std.proofs.Common.{◌≡◌, ◌<◌, ℕ, ◌+◌, ◌-◌, suc, Bool, true, false, cond, List, [], ◌∷◌, ◌++◌, length, map, reverse, slice_get, slice_set, get_or, refl, sym, ap, ◌∙◌, subst, arith, Some, None, Bor}
use Rattle.std.specs.declared.option.Option.{Option}
use Rattle.std.proofs.lemmas.List.{append-nil, length-append, nil_from_length, same_from_push}
use Rattle.std.proofs.Math.Seq.{set-append_seam, get_or-append_seam}
use Rattle.strategy_machine.specs.declared.frames.Acts.{Acts}
use Rattle.strategy_syntax.specs.Resolved.{ResolvedStrategy}
use Rattle.strategy_machine.specs.declared.frames.Walk.{Walk}
use Rattle.strategy_machine.specs.declared.frames.Frame.{Frame}
use Rattle.strategy_machine.specs.declared.frames.Frame.TheVariants as frames
use Rattle.strategy_machine.specs.declared.stack.Slot.{Slot}
use Rattle.strategy_machine.specs.declared.stack.Slot.TheVariants.{Then, Choose, Restore, Each, Leftmost, Those, Tail, Rest, Head, After, Leave, Cut}
use Rattle.strategy_machine.specs.declared.stack.Start.{Start}
use Rattle.strategy_machine.specs.declared.stack.Front.{Front}
use Rattle.strategy_machine.specs.declared.stack.First.{First}
use Rattle.strategy_machine.proofs.OpenLemmas.{pushed}
use Rattle.strategy_machine.specs.inside.Slots.{has_walk, has_start, has_front, has_first, is_alone, frames_of, count, Fits, slot_of, EndsWith, EndsIn}

count-append : (p : Slot → Bool) (xs ys : List Slot) → count p (xs ++ ys) ≡ count p xs + count p ys
count-append p [] ys = omega arith
count-append p (x ∷ xs) ys = by _ _ _ (p x) (count-append p xs ys) where
  by : (k m n : ℕ) (b : Bool) → k ≡ m + n → cond b (suc k) k ≡ cond b (suc m) m + n
  by k m n true e = omega (arith, e)
  by k m n false e = e

-- ---- several slots after others

-- the child that a frame visits
abbrev pub step_of : Frame → List ℕ
step_of (frames.Each acts n w) = w.index ∷ []
step_of (frames.Leftmost s n w m) = w.index ∷ []
step_of (frames.Those s n w m any) = w.index ∷ []
step_of (frames.Head s n w) = w.index ∷ []
step_of f = []

-- The frame of the first slot, and what that slot leaves of each stack.
pub record Outermost (x : Slot) (xs : List Slot) (ws : List Walk) (ss : List Start) (fs : List Front)
    (ks : List First) : Type 0 where
  pub frame : Frame
  pub walks : List Walk
  pub starts : List Start
  pub fronts : List Front
  pub firsts : List First
  pub fits : Fits xs walks starts fronts firsts
  pub is : frames_of (x ∷ xs) ws ss fs ks ≡ frame ∷ frames_of xs walks starts fronts firsts
  pub before : (ys : List Slot) (vs : List Walk) (ts : List Start) (gs : List Front) (ls : List First)
      → frames_of ((x ∷ xs) ++ ys) (ws ++ vs) (ss ++ ts) (fs ++ gs) (ks ++ ls)
      ≡ frame ∷ frames_of (xs ++ ys) (walks ++ vs) (starts ++ ts) (fronts ++ gs) (firsts ++ ls)
  pub slot : slot_of frame ≡ x
  pub steps : map (λ w. w.index) ws ≡ step_of frame ++ map (λ w. w.index) walks

pub outermost : (x : Slot) (xs : List Slot) (ws : List Walk) (ss : List Start) (fs : List Front) (ks : List First)
    → Fits (x ∷ xs) ws ss fs ks → Outermost x xs ws ss fs ks
outermost (Then s n) xs ws ss fs ks h =
    record {
      frame = frames.Then s n;
      walks = ws;
      starts = ss;
      fronts = fs;
      firsts = ks;
      fits = record { walks = h.walks; starts = h.starts; fronts = h.fronts; firsts = h.firsts };
      is = refl;
      before = λ ys vs ts gs ls. refl;
      slot = refl;
      steps = refl;
    }
outermost (Choose s r n m) xs ws [] fs ks h = absurd (omega (arith, h.starts))
outermost (Choose s r n m) xs ws (p ∷ ss) fs ks h =
    record {
      frame = frames.Choose s r n p.part p.edits m;
      walks = ws;
      starts = ss;
      fronts = fs;
      firsts = ks;
      fits = record { walks = h.walks; starts = omega (arith, h.starts); fronts = h.fronts; firsts = h.firsts };
      is = refl;
      before = λ ys vs ts gs ls. refl;
      slot = refl;
      steps = refl;
    }
outermost Restore xs ws [] fs ks h = absurd (omega (arith, h.starts))
outermost Restore xs ws (p ∷ ss) fs ks h =
    record {
      frame = frames.Restore p.part p.edits;
      walks = ws;
      starts = ss;
      fronts = fs;
      firsts = ks;
      fits = record { walks = h.walks; starts = omega (arith, h.starts); fronts = h.fronts; firsts = h.firsts };
      is = refl;
      before = λ ys vs ts gs ls. refl;
      slot = refl;
      steps = refl;
    }
outermost (Each acts n) xs [] ss fs ks h = absurd (omega (arith, h.walks))
outermost (Each acts n) xs (w ∷ ws) ss fs ks h =
    record {
      frame = frames.Each acts n w;
      walks = ws;
      starts = ss;
      fronts = fs;
      firsts = ks;
      fits = record { walks = omega (arith, h.walks); starts = h.starts; fronts = h.fronts; firsts = h.firsts };
      is = refl;
      before = λ ys vs ts gs ls. refl;
      slot = refl;
      steps = refl;
    }
outermost (Leftmost s n m) xs [] ss fs ks h = absurd (omega (arith, h.walks))
outermost (Leftmost s n m) xs (w ∷ ws) ss fs ks h =
    record {
      frame = frames.Leftmost s n w m;
      walks = ws;
      starts = ss;
      fronts = fs;
      firsts = ks;
      fits = record { walks = omega (arith, h.walks); starts = h.starts; fronts = h.fronts; firsts = h.firsts };
      is = refl;
      before = λ ys vs ts gs ls. refl;
      slot = refl;
      steps = refl;
    }
outermost (Those s n m any) xs [] ss fs ks h = absurd (omega (arith, h.walks))
outermost (Those s n m any) xs (w ∷ ws) ss fs ks h =
    record {
      frame = frames.Those s n w m any;
      walks = ws;
      starts = ss;
      fronts = fs;
      firsts = ks;
      fits = record { walks = omega (arith, h.walks); starts = h.starts; fronts = h.fronts; firsts = h.firsts };
      is = refl;
      before = λ ys vs ts gs ls. refl;
      slot = refl;
      steps = refl;
    }
outermost (Tail s n k) xs ws ss fs ks h =
    record {
      frame = frames.Tail s n k;
      walks = ws;
      starts = ss;
      fronts = fs;
      firsts = ks;
      fits = record { walks = h.walks; starts = h.starts; fronts = h.fronts; firsts = h.firsts };
      is = refl;
      before = λ ys vs ts gs ls. refl;
      slot = refl;
      steps = refl;
    }
outermost (Rest n k) xs ws ss [] ks h = absurd (omega (arith, h.fronts))
outermost (Rest n k) xs ws ss (f ∷ fs) ks h =
    record {
      frame = frames.Rest f.node f.parts n k;
      walks = ws;
      starts = ss;
      fronts = fs;
      firsts = ks;
      fits = record { walks = h.walks; starts = h.starts; fronts = omega (arith, h.fronts); firsts = h.firsts };
      is = refl;
      before = λ ys vs ts gs ls. refl;
      slot = refl;
      steps = refl;
    }
outermost (Head s n) xs [] ss fs ks h = absurd (omega (arith, h.walks))
outermost (Head s n) xs (w ∷ ws) ss fs ks h =
    record {
      frame = frames.Head s n w;
      walks = ws;
      starts = ss;
      fronts = fs;
      firsts = ks;
      fits = record { walks = omega (arith, h.walks); starts = h.starts; fronts = h.fronts; firsts = h.firsts };
      is = refl;
      before = λ ys vs ts gs ls. refl;
      slot = refl;
      steps = refl;
    }
outermost (After k) xs ws ss fs [] h = absurd (omega (arith, h.firsts))
outermost (After k) xs ws ss fs (a ∷ ks) h =
    record {
      frame = frames.After a.node a.part k;
      walks = ws;
      starts = ss;
      fronts = fs;
      firsts = ks;
      fits = record { walks = h.walks; starts = h.starts; fronts = h.fronts; firsts = omega (arith, h.firsts) };
      is = refl;
      before = λ ys vs ts gs ls. refl;
      slot = refl;
      steps = refl;
    }
outermost (Leave n) xs ws ss fs ks h =
    record {
      frame = frames.Leave n;
      walks = ws;
      starts = ss;
      fronts = fs;
      firsts = ks;
      fits = record { walks = h.walks; starts = h.starts; fronts = h.fronts; firsts = h.firsts };
      is = refl;
      before = λ ys vs ts gs ls. refl;
      slot = refl;
      steps = refl;
    }
outermost (Cut n k) xs ws ss fs ks h =
    record {
      frame = frames.Cut n k;
      walks = ws;
      starts = ss;
      fronts = fs;
      firsts = ks;
      fits = record { walks = h.walks; starts = h.starts; fronts = h.fronts; firsts = h.firsts };
      is = refl;
      before = λ ys vs ts gs ls. refl;
      slot = refl;
      steps = refl;
    }

frames-append : (xs ys : List Slot) (ws vs : List Walk) (ss ts : List Start) (fs gs : List Front) (ks ls : List First)
    → Fits xs ws ss fs ks
    → frames_of (xs ++ ys) (ws ++ vs) (ss ++ ts) (fs ++ gs) (ks ++ ls) ≡ frames_of xs ws ss fs ks
    ++ frames_of ys vs ts gs ls
frames-append [] ys ws vs ss ts fs gs ks ls h =
    (λ i. frames_of ys (nil_from_length ws h.walks i ++ vs) (nil_from_length ss h.starts i ++ ts)
    (nil_from_length fs h.fronts i ++ gs) (nil_from_length ks h.firsts i ++ ls))
frames-append (x ∷ xs) ys ws vs ss ts fs gs ks ls h =
    let o = outermost x xs ws ss fs ks h in
    o.before ys vs ts gs ls
    ∙ ap (λ (l : List Frame). o.frame ∷ l) (frames-append xs ys o.walks vs o.starts ts o.fronts gs o.firsts ls o.fits)
    ∙ ap (λ (l : List Frame). l ++ frames_of ys vs ts gs ls) (sym o.is)

-- there are as many frames as slots
pub length-frames : (xs : List Slot) (ws : List Walk) (ss : List Start) (fs : List Front) (ks : List First)
    → Fits xs ws ss fs ks → length (frames_of xs ws ss fs ks) ≡ length xs
length-frames [] ws ss fs ks h = refl
length-frames (x ∷ xs) ws ss fs ks h =
    let o = outermost x xs ws ss fs ks h in
    ap (λ (l : List Frame). length l) o.is ∙ ap suc (length-frames xs o.walks o.starts o.fronts o.firsts o.fits)

-- the innermost slot is that of the innermost frame
pub slot_ends : (xs : List Slot) (x : Slot) (ws : List Walk) (ss : List Start) (fs : List Front) (ks : List First)
    → Fits (xs ++ x ∷ []) ws ss fs ks → EndsWith x (frames_of (xs ++ x ∷ []) ws ss fs ks)
slot_ends [] x ws ss fs ks h = let o = outermost x [] ws ss fs ks h in ([], o.frame, o.is, o.slot)
slot_ends (y ∷ xs) x ws ss fs ks h =
    let o = outermost y (xs ++ x ∷ []) ws ss fs ks h in
    let r = slot_ends xs x o.walks o.starts o.fronts o.firsts o.fits in
    (o.frame ∷ r.0, r.1, o.is ∙ ap (λ (l : List Frame). o.frame ∷ l) r.2, r.3)

counts-append : {A : Type 0} (p : Slot → Bool) (xs ys : List Slot) (cs bs : List A) → length cs ≡ count p xs
    → length bs ≡ count p ys → length (cs ++ bs) ≡ count p (xs ++ ys)
counts-append p xs ys cs bs e f = omega (arith, e, f, length-append cs bs, count-append p xs ys)

counts-front : {A : Type 0} (p : Slot → Bool) (xs ys : List Slot) (cs bs : List A)
    → length (cs ++ bs) ≡ count p (xs ++ ys) → length bs ≡ count p ys → length cs ≡ count p xs
counts-front p xs ys cs bs e f = omega (arith, e, f, length-append cs bs, count-append p xs ys)

-- ---- one slot

-- What is large is what the slot wants.
pub record One (x : Slot) (vs : List Walk) (ts : List Start) (gs : List Front) (ls : List First) : Type 0 where
  pub fits : Fits (x ∷ []) vs ts gs ls
  pub frame : Frame
  pub is : frames_of (x ∷ []) vs ts gs ls ≡ frame ∷ []
  pub slot : slot_of frame ≡ x

never : {A : Type 0} → false ≡ true → A
never e = absurd (cc)

one : (x : Slot) (vs : List Walk) (ts : List Start) (gs : List Front) (ls : List First) (f : Frame)
    → length vs ≡ count has_walk (x ∷ []) → length ts ≡ count has_start (x ∷ []) → length gs
    ≡ count has_front (x ∷ []) → length ls ≡ count has_first (x ∷ [])
    → frames_of (x ∷ []) vs ts gs ls ≡ f ∷ [] → slot_of f ≡ x → One x vs ts gs ls
one x vs ts gs ls f a b c d e s =
    record { fits = record { walks = a; starts = b; fronts = c; firsts = d }; frame = f; is = e; slot = s }

pub one_alone : (x : Slot) → is_alone x ≡ true → One x [] [] [] []
one_alone (Then s n) e = one _ [] [] [] [] (frames.Then s n) refl refl refl refl refl refl
one_alone (Tail s n k) e = one _ [] [] [] [] (frames.Tail s n k) refl refl refl refl refl refl
one_alone (Leave n) e = one _ [] [] [] [] (frames.Leave n) refl refl refl refl refl refl
one_alone (Cut n k) e = one _ [] [] [] [] (frames.Cut n k) refl refl refl refl refl refl
one_alone x e = never e

pub one_walk : (x : Slot) (w : Walk) → has_walk x ≡ true → One x (w ∷ []) [] [] []
one_walk (Each acts n) w e = one _ (w ∷ []) [] [] [] (frames.Each acts n w) refl refl refl refl refl refl
one_walk (Leftmost s n m) w e = one _ (w ∷ []) [] [] [] (frames.Leftmost s n w m) refl refl refl refl refl refl
one_walk (Those s n m any) w e = one _ (w ∷ []) [] [] [] (frames.Those s n w m any) refl refl refl refl refl refl
one_walk (Head s n) w e = one _ (w ∷ []) [] [] [] (frames.Head s n w) refl refl refl refl refl refl
one_walk x w e = never e

pub one_start : (x : Slot) (p : Start) → has_start x ≡ true → One x [] (p ∷ []) [] []
one_start (Choose s r n m) p e =
    one _ [] (p ∷ []) [] [] (frames.Choose s r n p.part p.edits m) refl refl refl refl refl refl
one_start Restore p e = one _ [] (p ∷ []) [] [] (frames.Restore p.part p.edits) refl refl refl refl refl refl
one_start x p e = never e

pub one_front : (x : Slot) (f : Front) → has_front x ≡ true → One x [] [] (f ∷ []) []
one_front (Rest n k) f e = one _ [] [] (f ∷ []) [] (frames.Rest f.node f.parts n k) refl refl refl refl refl refl
one_front x f e = never e

pub one_first : (x : Slot) (a : First) → has_first x ≡ true → One x [] [] [] (a ∷ [])
one_first (After k) a e = one _ [] [] [] (a ∷ []) (frames.After a.node a.part k) refl refl refl refl refl refl
one_first x a e = never e

-- ---- one slot after others

counts_on : {A : Type 0} (p : Slot → Bool) (xs zs : List Slot) (x : Slot) (cs us bs : List A)
    → zs ≡ xs ++ x ∷ [] → us ≡ cs ++ bs → length cs ≡ count p xs → length bs ≡ count p (x ∷ []) → length us ≡ count p zs
counts_on p xs zs x cs us bs e f h k = ap (λ l. length l) f ∙ counts-append p xs (x ∷ []) cs bs h k
    ∙ sym (ap (count p) e)

counts_back : {A : Type 0} (p : Slot → Bool) (xs zs : List Slot) (x : Slot) (cs us bs : List A)
    → zs ≡ xs ++ x ∷ [] → us ≡ cs ++ bs → length us ≡ count p zs → length bs ≡ count p (x ∷ []) → length cs ≡ count p xs
counts_back p xs zs x cs us bs e f h k =
    counts-front p xs (x ∷ []) cs bs (sym (ap (λ l. length l) f) ∙ h ∙ ap (count p) e) k

-- The second lists are the first ones with this slot, and what it wants, at the end.
pub record Longer (xs zs : List Slot) (x : Slot) (ws us vs : List Walk) (ss qs ts : List Start) (fs rs gs : List Front)
    (ks js ls : List First) : Type 0 where
  pub slots : zs ≡ xs ++ x ∷ []
  pub walks : us ≡ ws ++ vs
  pub starts : qs ≡ ss ++ ts
  pub fronts : rs ≡ fs ++ gs
  pub firsts : js ≡ ks ++ ls
  pub one : One x vs ts gs ls

pub longer_fits : {xs zs : List Slot} {x : Slot} {ws us vs : List Walk} {ss qs ts : List Start} {fs rs gs : List Front}
    {ks js ls : List First} → Longer xs zs x ws us vs ss qs ts fs rs gs ks js ls
    → Fits xs ws ss fs ks → Fits zs us qs rs js
longer_fits l h = record {
  walks = counts_on has_walk _ _ _ _ _ _ l.slots l.walks h.walks l.one.fits.walks;
  starts = counts_on has_start _ _ _ _ _ _ l.slots l.starts h.starts l.one.fits.starts;
  fronts = counts_on has_front _ _ _ _ _ _ l.slots l.fronts h.fronts l.one.fits.fronts;
  firsts = counts_on has_first _ _ _ _ _ _ l.slots l.firsts h.firsts l.one.fits.firsts;
}

pub shorter_fits : {xs zs : List Slot} {x : Slot} {ws us vs : List Walk} {ss qs ts : List Start} {fs rs gs : List Front}
    {ks js ls : List First} → Longer xs zs x ws us vs ss qs ts fs rs gs ks js ls
    → Fits zs us qs rs js → Fits xs ws ss fs ks
shorter_fits l h = record {
  walks = counts_back has_walk _ _ _ _ _ _ l.slots l.walks h.walks l.one.fits.walks;
  starts = counts_back has_start _ _ _ _ _ _ l.slots l.starts h.starts l.one.fits.starts;
  fronts = counts_back has_front _ _ _ _ _ _ l.slots l.fronts h.fronts l.one.fits.fronts;
  firsts = counts_back has_first _ _ _ _ _ _ l.slots l.firsts h.firsts l.one.fits.firsts;
}

pub longer_frames : {xs zs : List Slot} {x : Slot} {ws us vs : List Walk} {ss qs ts : List Start}
    {fs rs gs : List Front} {ks js ls : List First} → Longer xs zs x ws us vs ss qs ts fs rs gs ks js ls
    → Fits xs ws ss fs ks → frames_of zs us qs rs js ≡ frames_of xs ws ss fs ks ++ frames_of (x ∷ []) vs ts gs ls
longer_frames {xs = xs} {x = x} {ws = ws} {vs = vs} {ss = ss} {ts = ts} {fs = fs} {gs = gs} {ks = ks} {ls = ls} l h =
    (λ i. frames_of (l.slots i) (l.walks i) (l.starts i) (l.fronts i) (l.firsts i))
    ∙ frames-append xs (x ∷ []) ws vs ss ts fs gs ks ls h

pub longer_length : {xs zs : List Slot} {x : Slot} {ws us vs : List Walk} {ss qs ts : List Start}
    {fs rs gs : List Front} {ks js ls : List First} → Longer xs zs x ws us vs ss qs ts fs rs gs ks js ls
    → Fits xs ws ss fs ks → length (frames_of zs us qs rs js) ≡ length (frames_of xs ws ss fs ks) + 1
longer_length {xs = xs} {ws = ws} {ss = ss} {fs = fs} {ks = ks} l h =
    let e = ap (λ (r : List Frame). length r) (longer_frames l h ∙ ap (λ r. frames_of xs ws ss fs ks ++ r) l.one.is) in
    e ∙ length-append (frames_of xs ws ss fs ks) (l.one.frame ∷ [])

pub longer_ends : {xs zs : List Slot} {x : Slot} {ws us vs : List Walk} {ss qs ts : List Start} {fs rs gs : List Front}
    {ks js ls : List First} → Longer xs zs x ws us vs ss qs ts fs rs gs ks js ls
    → Fits xs ws ss fs ks → EndsWith x (frames_of zs us qs rs js)
longer_ends {xs = xs} {ws = ws} {ss = ss} {fs = fs} {ks = ks} l h = (
  frames_of xs ws ss fs ks,
  l.one.frame,
  longer_frames l h ∙ ap (λ r. frames_of xs ws ss fs ks ++ r) l.one.is,
  l.one.slot,
)

-- ---- the innermost frame

pub same_slot : (gs : List Frame) (x y : Slot) → EndsWith x gs → EndsWith y gs → x ≡ y
same_slot gs x y h k = sym h.3 ∙ ap slot_of (same_from_push h.0 k.0 h.1 k.1 (sym h.2 ∙ k.2)).1 ∙ k.3

pub split_last : {A : Type 0} (cs : List A) → 0 < length cs → (bs : List A) × (b : A) × (cs ≡ bs ++ b ∷ [])
split_last [] h = absurd (omega (arith, h))
split_last (c ∷ []) h = ([], c, refl)
split_last (c ∷ d ∷ cs) h = let r = split_last (d ∷ cs) (omega arith) in (c ∷ r.0, r.1, ap (λ l. c ∷ l) r.2)

-- it is the last one, if there is any
abbrev pub IsLastOf : {A : Type 0} → List A → Option A → Type 0
IsLastOf cs None = cs ≡ []
IsLastOf {A = A} cs (Some b) = (bs : List A) × (cs ≡ bs ++ b ∷ [])

pub last_of : {A : Type 0} (cs : List A) (o : Option A) → o ≡ slice_get cs (length cs - 1) → IsLastOf cs o
last_of {A = A} [] o e = let is : o ≡ None = e in subst (λ (r : Option A). IsLastOf [] r) (sym is) refl
last_of {A = A} (c ∷ cs) o e =
    let r = split_last (c ∷ cs) (omega arith) in
    let at : length (c ∷ cs) - 1 ≡ length r.0 =
    omega (arith, ap (λ (l : List A). length l) r.2, length-append r.0 (r.1 ∷ [])) in
    let is : o ≡ Some r.1 = e ∙ (λ i. slice_get (r.2 i) (at i)) ∙ get_end r.0 r.1 in
    subst (λ (s : Option A). IsLastOf (c ∷ cs) s) (sym is) (r.0, r.2)
  where
    get_end : {B : Type 0} (bs : List B) (b : B) → slice_get (bs ++ b ∷ []) (length bs) ≡ Some b
    get_end [] b = refl
    get_end (c ∷ bs) b = get_end bs b

some_left : (p : Slot → Bool) (xs : List Slot) (x : Slot) (n : ℕ) → p x ≡ true → n ≡ count p (xs ++ x ∷ []) → 0 < n
some_left p xs x n e h = omega (arith, h, count-append p xs (x ∷ []), ap (λ (b : Bool). cond b (suc 0) 0) e)

-- ---- adding a frame and taking it off

pub alone_more : (xs ys zs : List Slot) (x : Slot) (ws : List Walk) (ss : List Start) (fs : List Front)
    (ks : List First) → is_alone x ≡ true → zs ≡ ys ++ x ∷ [] → ys ≡ xs
    → Longer xs zs x ws ws [] ss ss [] fs fs [] ks ks []
alone_more xs ys zs x ws ss fs ks e z y =
    record {
      slots = z ∙ ap (λ l. l ++ x ∷ []) y;
      walks = sym (append-nil ws);
      starts = sym (append-nil ss);
      fronts = sym (append-nil fs);
      firsts = sym (append-nil ks);
      one = one_alone x e;
    }

pub walk_more : (xs ys zs : List Slot) (x : Slot) (ws vs us : List Walk) (w : Walk) (ss : List Start) (fs : List Front)
    (ks : List First) → has_walk x ≡ true → zs ≡ ys ++ x ∷ [] → ys ≡ xs → us ≡ vs ++ w ∷ [] → vs ≡ ws
    → Longer xs zs x ws us (w ∷ []) ss ss [] fs fs [] ks ks []
walk_more xs ys zs x ws vs us w ss fs ks e z y u v =
    record {
      slots = z ∙ ap (λ l. l ++ x ∷ []) y;
      walks = u ∙ ap (λ l. l ++ w ∷ []) v;
      starts = sym (append-nil ss);
      fronts = sym (append-nil fs);
      firsts = sym (append-nil ks);
      one = one_walk x w e;
    }

pub start_more : (xs ys zs : List Slot) (x : Slot) (ws : List Walk) (ss vs us : List Start) (p : Start)
    (fs : List Front) (ks : List First) → has_start x ≡ true → zs ≡ ys ++ x ∷ [] → ys ≡ xs → us ≡ vs ++ p ∷ [] → vs ≡ ss
    → Longer xs zs x ws ws [] ss us (p ∷ []) fs fs [] ks ks []
start_more xs ys zs x ws ss vs us p fs ks e z y u v =
    record {
      slots = z ∙ ap (λ l. l ++ x ∷ []) y;
      walks = sym (append-nil ws);
      starts = u ∙ ap (λ l. l ++ p ∷ []) v;
      fronts = sym (append-nil fs);
      firsts = sym (append-nil ks);
      one = one_start x p e;
    }

pub front_more : (xs ys zs : List Slot) (x : Slot) (ws : List Walk) (ss : List Start) (fs vs us : List Front)
    (f : Front) (ks : List First) → has_front x ≡ true → zs ≡ ys ++ x ∷ [] → ys ≡ xs → us ≡ vs ++ f ∷ [] → vs ≡ fs
    → Longer xs zs x ws ws [] ss ss [] fs us (f ∷ []) ks ks []
front_more xs ys zs x ws ss fs vs us f ks e z y u v =
    record {
      slots = z ∙ ap (λ l. l ++ x ∷ []) y;
      walks = sym (append-nil ws);
      starts = sym (append-nil ss);
      fronts = u ∙ ap (λ l. l ++ f ∷ []) v;
      firsts = sym (append-nil ks);
      one = one_front x f e;
    }

pub first_more : (xs ys zs : List Slot) (x : Slot) (ws : List Walk) (ss : List Start) (fs : List Front)
    (ks vs us : List First) (a : First) → has_first x ≡ true → zs ≡ ys ++ x ∷ [] → ys ≡ xs → us ≡ vs ++ a ∷ [] → vs ≡ ks
    → Longer xs zs x ws ws [] ss ss [] fs fs [] ks us (a ∷ [])
first_more xs ys zs x ws ss fs ks vs us a e z y u v =
    record {
      slots = z ∙ ap (λ l. l ++ x ∷ []) y;
      walks = sym (append-nil ws);
      starts = sym (append-nil ss);
      fronts = sym (append-nil fs);
      firsts = u ∙ ap (λ l. l ++ a ∷ []) v;
      one = one_first x a e;
    }

-- the frames after a slot was added
pub added : {xs zs : List Slot} {x : Slot} {ws us vs : List Walk} {ss qs ts : List Start} {fs rs gs : List Front}
    {ks js ls : List First} → Longer xs zs x ws us vs ss qs ts fs rs gs ks js ls
    → Fits xs ws ss fs ks → (all : List Frame)
    → frames_of xs ws ss fs ks ≡ all → frames_of zs us qs rs js ≡ all ++ frames_of (x ∷ []) vs ts gs ls
added {x = x} {vs = vs} {ts = ts} {gs = gs} {ls = ls} l h all e = longer_frames l h
    ∙ ap (λ r. r ++ frames_of (x ∷ []) vs ts gs ls) e

pub added_length : {xs zs : List Slot} {x : Slot} {ws us vs : List Walk} {ss qs ts : List Start} {fs rs gs : List Front}
    {ks js ls : List First} → Longer xs zs x ws us vs ss qs ts fs rs gs ks js ls
    → Fits xs ws ss fs ks → (all : List Frame)
    → frames_of xs ws ss fs ks ≡ all → length (frames_of zs us qs rs js) ≡ length all + 1
added_length l h all e = longer_length l h ∙ ap (λ (r : List Frame). length r + 1) e

-- the innermost slot is of the sort of the innermost frame
pub sort_ends : (p : Slot → Bool) (xs zs : List Slot) (x : Slot) (ws : List Walk) (ss : List Start) (fs : List Front)
    (ks : List First) (all : List Frame) → zs ≡ xs ++ x ∷ [] → Fits zs ws ss fs ks
    → frames_of zs ws ss fs ks ≡ all → EndsIn p all → p x ≡ true
sort_ends p xs zs x ws ss fs ks all z h e k =
    let ends = subst (λ gs. EndsWith x gs)
    ((λ i. frames_of (sym z i) ws ss fs ks) ∙ e) (slot_ends xs x ws ss fs ks (subst (λ ys. Fits ys ws ss fs ks) z h)) in
    ap p (same_slot all x k.0 ends k.1) ∙ k.2

pub sort_left : (p : Slot → Bool) (xs zs : List Slot) (x : Slot) (n : ℕ)
    → p x ≡ true → zs ≡ xs ++ x ∷ [] → n ≡ count p zs → 0 < n
sort_left p xs zs x n e z h = some_left p xs x n e (h ∙ ap (count p) z)

-- the frames before the innermost one was taken off
pub removed : {xs zs : List Slot} {x : Slot} {ws us vs : List Walk} {ss qs ts : List Start} {fs rs gs : List Front}
    {ks js ls : List First} → Longer xs zs x ws us vs ss qs ts fs rs gs ks js ls
    → Fits zs us qs rs js → (all : List Frame) → frames_of zs us qs rs js ≡ all → (y : Slot) → EndsWith y all
    → all ≡ frames_of xs ws ss fs ks ++ frames_of (y ∷ []) vs ts gs ls
removed {xs = xs} {x = x} {ws = ws} {vs = vs} {ss = ss} {ts = ts} {fs = fs} {gs = gs} {ks = ks} {ls = ls} l h
    all e y k =
    let f = shorter_fits l h in
    let is = same_slot all x y (subst (λ r. EndsWith x r) e (longer_ends l f)) k in
    sym e ∙ longer_frames l f ∙ (λ i. frames_of xs ws ss fs ks ++ frames_of (is i ∷ []) vs ts gs ls)

pub removed_length : {xs zs : List Slot} {x : Slot} {ws us vs : List Walk} {ss qs ts : List Start}
    {fs rs gs : List Front} {ks js ls : List First} → Longer xs zs x ws us vs ss qs ts fs rs gs ks js ls
    → Fits zs us qs rs js → (all : List Frame)
    → frames_of zs us qs rs js ≡ all → length (frames_of xs ws ss fs ks) + 1 ≡ length all
removed_length l h all e = sym (longer_length l (shorter_fits l h)) ∙ ap (λ (r : List Frame). length r) e

-- ---- a walk that moves on in the innermost frame

-- The innermost frame has this slot, which has a walk.
pub record LastWalk (zs : List Slot) (us : List Walk) (ss : List Start) (fs : List Front) (ks : List First)
    (x : Slot) : Type 0 where
  pub front : List Slot
  pub outer : List Walk
  pub walk : Walk
  pub slots : zs ≡ front ++ x ∷ []
  pub walks : us ≡ outer ++ walk ∷ []
  pub fits : Fits front outer ss fs ks

some_slot : (zs : List Slot) (us : List Walk) (ss : List Start) (fs : List Front) (ks : List First) (x : Slot)
    → EndsWith x (frames_of zs us ss fs ks) → 0 < length zs
some_slot [] us ss fs ks x h =
    absurd (omega (arith, ap (λ (l : List Frame). length l) h.2, length-append h.0 (h.1 ∷ [])))
some_slot (z ∷ zs) us ss fs ks x h = omega arith

pub last_walk : (zs : List Slot) (us : List Walk) (ss : List Start) (fs : List Front) (ks : List First)
    (all : List Frame) (x : Slot) → has_walk x ≡ true → Fits zs us ss fs ks → frames_of zs us ss fs ks ≡ all
    → EndsWith x all → LastWalk zs us ss fs ks x
last_walk zs us ss fs ks all x w h e k =
    let r = split_last zs (some_slot zs us ss fs ks x (subst (λ l. EndsWith x l) (sym e) k)) in
    let ends = subst (λ l. EndsWith r.1 l) ((λ i. frames_of (sym r.2 i) us ss fs ks) ∙ e)
    (slot_ends r.0 r.1 us ss fs ks (subst (λ l. Fits l us ss fs ks) r.2 h)) in
    let slots : zs ≡ r.0 ++ x ∷ [] = r.2 ∙ ap (λ y. r.0 ++ y ∷ []) (same_slot all r.1 x ends k) in
    let s = split_last us (sort_left has_walk r.0 zs x (length us) w slots h.walks) in
    record {
      front = r.0;
      outer = s.0;
      walk = s.1;
      slots = slots;
      walks = s.2;
      fits = shorter_fits (walk_more r.0 r.0 zs x s.0 s.0 us s.1 ss fs ks w slots refl s.2 refl) h;
    }

pub set_last : {A : Type 0} (xs zs : List A) (x y : A) (i : ℕ) → zs ≡ xs ++ x ∷ [] → i + 1 ≡ length zs
    → slice_set zs i y ≡ xs ++ y ∷ []
set_last {A = A} xs zs x y i e l =
    let at : i ≡ length xs = omega (arith, l, ap (λ (r : List A). length r) e, length-append xs (x ∷ [])) in
    (λ j. slice_set (e j) (at j) y) ∙ set-append_seam xs x [] y

pub get_last : {A : Type 0} (xs zs : List A) (x d : A) (i : ℕ) → zs ≡ xs ++ x ∷ [] → i + 1 ≡ length zs
    → get_or zs i d ≡ x
get_last {A = A} xs zs x d i e l =
    let at : i ≡ length xs = omega (arith, l, ap (λ (r : List A). length r) e, length-append xs (x ∷ [])) in
    (λ j. get_or (e j) (at j) d) ∙ get_or-append_seam xs x [] d

-- the walk is written, and the slot if y is another one
pub walk_written : {zs : List Slot} {us : List Walk} {ss : List Start} {fs : List Front} {ks : List First} {x : Slot}
    (r : LastWalk zs us ss fs ks x) (ys : List Slot) (y : Slot) (v : Walk) (j : ℕ)
    → has_walk y ≡ true → ys ≡ r.front ++ y ∷ [] → j + 1 ≡ length us
    → Longer r.front ys y r.outer (slice_set us j v) (v ∷ []) ss ss [] fs fs [] ks ks []
walk_written {us = us} {ss = ss} {fs = fs} {ks = ks} r ys y v j w e f =
    walk_more r.front r.front ys y r.outer r.outer (slice_set us j v) v ss fs ks w e refl
    (set_last r.outer us r.walk v j r.walks f) refl

-- the frames as they are
pub walk_there : {zs : List Slot} {us : List Walk} {ss : List Start} {fs : List Front} {ks : List First} {x : Slot}
    (r : LastWalk zs us ss fs ks x) → has_walk x ≡ true
    → Longer r.front zs x r.outer us (r.walk ∷ []) ss ss [] fs fs [] ks ks []
walk_there {zs = zs} {us = us} {ss = ss} {fs = fs} {ks = ks} {x = x} r w =
    walk_more r.front r.front zs x r.outer r.outer us r.walk ss fs ks w r.slots refl r.walks refl

pub walk_length : {zs : List Slot} {us : List Walk} {ss : List Start} {fs : List Front} {ks : List First} {x : Slot}
    (r : LastWalk zs us ss fs ks x)
    → (length zs ≡ length r.front + 1) × (length us ≡ length r.outer + 1)
walk_length {x = x} r = (
  ap (λ (l : List Slot). length l) r.slots ∙ length-append r.front (x ∷ []),
  ap (λ (l : List Walk). length l) r.walks ∙ length-append r.outer (r.walk ∷ []),
)

-- ---- the same if the frame has strategies for children

pub last_each : (zs : List Slot) (us : List Walk) (ss : List Start) (fs : List Front) (ks : List First)
    (all : List Frame) (acts : Acts) (n : ℕ) → Fits zs us ss fs ks → frames_of zs us ss fs ks ≡ all
    → EndsWith (Each acts n) all → LastWalk zs us ss fs ks (Each acts n)
last_each zs us ss fs ks all acts n h e k = last_walk zs us ss fs ks all (Each acts n) refl h e k

pub each_there : {zs : List Slot} {us : List Walk} {ss : List Start} {fs : List Front} {ks : List First} {acts : Acts}
    {n : ℕ} (r : LastWalk zs us ss fs ks (Each acts n))
    → Longer r.front zs (Each acts n) r.outer us (r.walk ∷ []) ss ss [] fs fs [] ks ks []
each_there r = walk_there r refl

pub each_length : {zs : List Slot} {us : List Walk} {ss : List Start} {fs : List Front} {ks : List First} {acts : Acts}
    {n : ℕ} (r : LastWalk zs us ss fs ks (Each acts n))
    → (length zs ≡ length r.front + 1) × (length us ≡ length r.outer + 1)
each_length r = walk_length r

-- ---- frames by their slots

pub tail_is : (f : Frame) (s : Bor ResolvedStrategy) (n k : ℕ) → slot_of f ≡ Tail s n k → f ≡ frames.Tail s n k
tail_is (frames.Tail t m j) s n k e = cc
tail_is f s n k e = absurd (cc)

pub leave_is : (f : Frame) (k : ℕ) → slot_of f ≡ Leave k → f ≡ frames.Leave k
leave_is (frames.Leave n) k e = cc
leave_is f k e = absurd (cc)

pub cut_is : (f : Frame) (n k : ℕ) → slot_of f ≡ Cut n k → f ≡ frames.Cut n k
cut_is (frames.Cut m j) n k e = cc
cut_is f n k e = absurd (cc)

-- the frames, the innermost first
pub ends_reversed : (gs : List Frame) (x : Slot) (f : Frame) (h : EndsWith x gs)
    → h.1 ≡ f → reverse gs ≡ f ∷ reverse h.0
ends_reversed gs x f h e = pushed h.0 gs f (h.2 ∙ ap (λ g. h.0 ++ g ∷ []) e)
