-- The frames of a machine: small entries, the slots, beside the stacks of what is large.
use Rattle.std.specs.Prelude.{◌≡◌, ℕ, suc, Bool, true, false, cond, List, [], ◌∷◌, ◌++◌, length}
use Rattle.strategy_machine.specs.declared.frames.Walk.{Walk}
use Rattle.strategy_machine.specs.declared.frames.Frame.{Frame}
use Rattle.strategy_machine.specs.declared.frames.Frame.TheVariants as frames
use Rattle.strategy_machine.specs.declared.stack.Slot.{Slot}
use Rattle.strategy_machine.specs.declared.stack.Slot.TheVariants.{Then, Choose, Restore, Each, Leftmost, Those, Tail, Rest, Head, After, Leave, Cut}
use Rattle.strategy_machine.specs.declared.stack.Start.{Start}
use Rattle.strategy_machine.specs.declared.stack.Front.{Front}
use Rattle.strategy_machine.specs.declared.stack.First.{First}

-- ---- which stack a slot uses

abbrev pub has_walk : Slot → Bool
has_walk (Each acts n) = true
has_walk (Leftmost s n m) = true
has_walk (Those s n m any) = true
has_walk (Head s n) = true
has_walk x = false

abbrev pub has_start : Slot → Bool
has_start (Choose s r n m) = true
has_start Restore = true
has_start x = false

abbrev pub has_front : Slot → Bool
has_front (Rest n k) = true
has_front x = false

abbrev pub has_first : Slot → Bool
has_first (After k) = true
has_first x = false

-- it uses none
abbrev pub is_alone : Slot → Bool
is_alone (Then s n) = true
is_alone (Tail s n k) = true
is_alone (Leave n) = true
is_alone (Cut n k) = true
is_alone x = false

-- ---- frames

-- the frames, the outermost first, and each stack from its oldest entry on
abbrev pub frames_of : List Slot → List Walk → List Start → List Front → List First → List Frame
frames_of [] ws ss fs ks = []
frames_of (Then s n ∷ xs) ws ss fs ks = frames.Then s n ∷ frames_of xs ws ss fs ks
frames_of (Choose s r n m ∷ xs) ws [] fs ks = []
frames_of (Choose s r n m ∷ xs) ws (p ∷ ss) fs ks = frames.Choose s r n p.part p.edits m ∷ frames_of xs ws ss fs ks
frames_of (Restore ∷ xs) ws [] fs ks = []
frames_of (Restore ∷ xs) ws (p ∷ ss) fs ks = frames.Restore p.part p.edits ∷ frames_of xs ws ss fs ks
frames_of (Each acts n ∷ xs) [] ss fs ks = []
frames_of (Each acts n ∷ xs) (w ∷ ws) ss fs ks = frames.Each acts n w ∷ frames_of xs ws ss fs ks
frames_of (Leftmost s n m ∷ xs) [] ss fs ks = []
frames_of (Leftmost s n m ∷ xs) (w ∷ ws) ss fs ks = frames.Leftmost s n w m ∷ frames_of xs ws ss fs ks
frames_of (Those s n m any ∷ xs) [] ss fs ks = []
frames_of (Those s n m any ∷ xs) (w ∷ ws) ss fs ks = frames.Those s n w m any ∷ frames_of xs ws ss fs ks
frames_of (Tail s n k ∷ xs) ws ss fs ks = frames.Tail s n k ∷ frames_of xs ws ss fs ks
frames_of (Rest n k ∷ xs) ws ss [] ks = []
frames_of (Rest n k ∷ xs) ws ss (f ∷ fs) ks = frames.Rest f.node f.parts n k ∷ frames_of xs ws ss fs ks
frames_of (Head s n ∷ xs) [] ss fs ks = []
frames_of (Head s n ∷ xs) (w ∷ ws) ss fs ks = frames.Head s n w ∷ frames_of xs ws ss fs ks
frames_of (After k ∷ xs) ws ss fs [] = []
frames_of (After k ∷ xs) ws ss fs (a ∷ ks) = frames.After a.node a.part k ∷ frames_of xs ws ss fs ks
frames_of (Leave n ∷ xs) ws ss fs ks = frames.Leave n ∷ frames_of xs ws ss fs ks
frames_of (Cut n k ∷ xs) ws ss fs ks = frames.Cut n k ∷ frames_of xs ws ss fs ks

abbrev pub count : (Slot → Bool) → List Slot → ℕ
count p [] = 0
count p (x ∷ xs) = cond (p x) (suc (count p xs)) (count p xs)

-- Each stack has an entry for each slot that uses it.
pub record Fits (xs : List Slot) (ws : List Walk) (ss : List Start) (fs : List Front) (ks : List First) : Type 0 where
  pub walks : length ws ≡ count has_walk xs
  pub starts : length ss ≡ count has_start xs
  pub fronts : length fs ≡ count has_front xs
  pub firsts : length ks ≡ count has_first xs

-- ---- the innermost frame

abbrev pub slot_of : Frame → Slot
slot_of (frames.Then s n) = Then s n
slot_of (frames.Choose s r n p k m) = Choose s r n m
slot_of (frames.Restore p k) = Restore
slot_of (frames.Each acts n w) = Each acts n
slot_of (frames.Leftmost s n w m) = Leftmost s n m
slot_of (frames.Those s n w m any) = Those s n m any
slot_of (frames.Tail s n k) = Tail s n k
slot_of (frames.Rest p ps n k) = Rest n k
slot_of (frames.Head s n w) = Head s n
slot_of (frames.After p first k) = After k
slot_of (frames.Leave n) = Leave n
slot_of (frames.Cut n k) = Cut n k

-- the innermost frame has this slot
abbrev pub EndsWith : Slot → List Frame → Type 0
EndsWith x gs = (front : List Frame) × (f : Frame) × (gs ≡ front ++ f ∷ []) × (slot_of f ≡ x)

-- The innermost frame has a slot of this sort.
abbrev pub EndsIn : (Slot → Bool) → List Frame → Type 0
EndsIn p gs = (x : Slot) × EndsWith x gs × (p x ≡ true)

-- the frames of one slot, of a sort, with what is large; none if the sort is another
abbrev pub alone : Slot → List Frame
alone x = frames_of (x ∷ []) [] [] [] []

abbrev pub with_walk : Slot → Walk → List Frame
with_walk x w = frames_of (x ∷ []) (w ∷ []) [] [] []

abbrev pub with_start : Slot → Start → List Frame
with_start x p = frames_of (x ∷ []) [] (p ∷ []) [] []

abbrev pub with_front : Slot → Front → List Frame
with_front x f = frames_of (x ∷ []) [] [] (f ∷ []) []

abbrev pub with_first : Slot → First → List Frame
with_first x a = frames_of (x ∷ []) [] [] [] (a ∷ [])
