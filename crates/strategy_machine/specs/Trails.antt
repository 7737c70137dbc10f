-- The edits of a run, and the path of the focus.
use Rattle.std.specs.Prelude.{◌≡◌, ℕ, List, [], ◌∷◌, ◌++◌, length, Some, None, ⊤, Vec}
use Rattle.std.specs.Global.{Global}
use Rattle.std.specs.declared.option.Option.{Option}
use Rattle.term_paths.specs.Edits.{Edit, Edits}
use Rattle.strategy_machine.specs.declared.frames.Frame.{Frame}
use Rattle.strategy_machine.specs.declared.frames.Frame.TheVariants.{Then, Choose, Restore, Each, Leftmost, Those, Tail, Rest, Head, After, Leave, Cut}
use Rattle.strategy_machine.specs.declared.trail.Trail.{Trail}

-- the path through the frames, the innermost first
abbrev pub path_of : List Frame → List ℕ
path_of [] = []
path_of (Then s n ∷ fs) = path_of fs
path_of (Choose s r n p k m ∷ fs) = path_of fs
path_of (Restore p k ∷ fs) = path_of fs
path_of (Each acts n w ∷ fs) = path_of fs ++ w.index ∷ []
path_of (Leftmost s n w m ∷ fs) = path_of fs ++ w.index ∷ []
path_of (Those s n w m any ∷ fs) = path_of fs ++ w.index ∷ []
path_of (Tail s n k ∷ fs) = path_of fs
path_of (Rest p ps n k ∷ fs) = path_of fs
path_of (Head s n w ∷ fs) = path_of fs ++ w.index ∷ []
path_of (After p first k ∷ fs) = path_of fs
path_of (Leave n ∷ fs) = path_of fs
path_of (Cut n k ∷ fs) = path_of fs

-- if edits are kept, they are these
abbrev pub Keeps : Option (Vec Edit Global) → Edits → Type 0
Keeps None T = ⊤
Keeps (Some made) T = made.items ≡ T

-- the edits so far are these
pub record Shows (t : Trail) (T : Edits) : Type 0 where
  pub count : t.count ≡ length T
  pub made : Keeps t.made T
