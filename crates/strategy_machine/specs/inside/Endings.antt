-- Where scopes and cells that a strategy adds end.
use Rattle.std.specs.Prelude.{◌≡◌, ◌<◌, ◌≤◌, ℕ, ◌+◌, List, [], ◌∷◌, ◌++◌, length, map, replicate, reverse, Some, None}
use Rattle.term_paths.specs.Edits.{Edits}
use Rattle.term_changes.specs.Standing.{Standing}
use Rattle.strategy_syntax.specs.Resolved.{ResolvedStrategies}
use Rattle.strategy_syntax.specs.declared.resolved.Resolved.{Resolved}
use Rattle.strategy_meaning.specs.Scopes.{Scope, inside, numbers_from, arguments}
use Rattle.strategy_meaning.specs.Answer.{Answer, IfDone}
use Rattle.strategy_meaning.specs.Meaning.{World, cut}
use Rattle.strategy_machine.specs.Table.{scopes, scope_at, Starts}
use Rattle.term_match.specs.CellContents.{CellContents}
use Rattle.term_match.specs.Marks.{mark_of, Before, Stays}
use Rattle.strategy_machine.specs.Trails.{Shows, path_of}
use Rattle.strategy_machine.specs.Frames.{Meets, Opens}
use Rattle.strategy_machine.specs.Turns.{State, state_of}
use Rattle.strategy_machine.specs.declared.frames.Frame.{Frame}
use Rattle.strategy_machine.specs.declared.frames.Frame.TheVariants.{Leave, Cut}
use Rattle.strategy_machine.specs.declared.machine.Machine.{Machine}

-- the innermost frame ends scopes and keeps the first k
abbrev pub LeavesScopes : List Frame → ℕ → Type 0
LeavesScopes [] k = ⊥
LeavesScopes (Leave n ∷ fs) k = n ≡ k
LeavesScopes (Cut n j ∷ fs) k = j ≡ k
LeavesScopes (f ∷ fs) k = ⊥

-- the innermost frame ends cells and scopes and keeps the first k scopes
abbrev pub LeavesCells : List Frame → ℕ → Type 0
LeavesCells [] k = ⊥
LeavesCells (Cut n j ∷ fs) k = j ≡ k
LeavesCells (f ∷ fs) k = ⊥

-- The run from p has the answer a; through the frames it becomes the whole answer.
pub record AnswersIn (W : World) (sub : Standing) (whole : Answer) (S : State) (p : Standing)
    (a : Answer) : Type 0 where
  pub edits : Edits
  pub shows : Shows S.trail edits
  pub opens : Opens (Meets W sub whole S.cells (mark_of S.cells) S.scopes S.level S.frames) (path_of S.frames) p edits a

-- if the answer is a success, it has n cells
abbrev pub HasCells : ℕ → Answer → Type 0
HasCells n a = IfDone a (λ t B b e. length B ≡ n)

-- the same with other cells, scopes and frames
abbrev pub with_those : State → CellContents → List Scope → List Frame → State
with_those S C es fs = record { cells = C; scopes = es; trail = S.trail; level = S.level; frames = fs; steps = S.steps }

abbrev pub frames_of : Machine → List Frame
frames_of m = reverse m.frames

-- The frames end scopes that are added from now on, and scope n still exists.
pub record ScopesEnd (m : Machine) (n : ℕ) (new : Machine) : Type 0 where
  pub there : n < length (scopes new.scopes)
  pub same : scope_at (scopes new.scopes) n ≡ scope_at (scopes m.scopes) n
  pub room : (W : World) (sub : Standing) (whole : Answer) (p : Standing) (a : Answer)
      → AnswersIn W sub whole (state_of m) p a
      → (es : List Scope) → Starts (scopes new.scopes) es
      → AnswersIn W sub whole (with_those (state_of m) m.cells es (frames_of new)) p a
  pub part : new.part ≡ m.part
  pub rest : (new.cells ≡ m.cells) × (new.trail ≡ m.trail) × (new.arguments ≡ m.arguments) × (new.level ≡ m.level)
      × (new.steps ≡ m.steps)
  pub frames : length new.frames ≤ length m.frames + 1

-- The same for cells and scopes: the answer is cut to the current cells.
pub record CellsEnd (m : Machine) (n : ℕ) (new : Machine) : Type 0 where
  pub there : n < length (scopes new.scopes)
  pub same : scope_at (scopes new.scopes) n ≡ scope_at (scopes m.scopes) n
  pub room : (W : World) (sub : Standing) (whole : Answer) (p : Standing) (a : Answer)
      → AnswersIn W sub whole (state_of m) p (cut (length m.cells.bindings) a)
      → (D : CellContents) (es : List Scope) → Starts (scopes new.scopes) es → Before (mark_of m.cells) (mark_of D)
      → Stays (mark_of m.cells) m.cells D
      → AnswersIn W sub whole (with_those (state_of m) D es (frames_of new)) p a
  pub part : new.part ≡ m.part
  pub rest : (new.cells ≡ m.cells) × (new.trail ≡ m.trail) × (new.arguments ≡ m.arguments) × (new.level ≡ m.level)
      × (new.steps ≡ m.steps)
  pub frames : length new.frames ≤ length m.frames + 1

-- The body of a definition was entered, with strategies that belong to scope n: cells hold the
-- arguments, the others are empty, and the frames end cells and scopes, if there are new ones.
pub record Enters (m : Machine) (ss : ResolvedStrategies) (d : Resolved) (n : ℕ) (new : Machine)
    (inner : ℕ) : Type 0 where
  pub there : inner < length (scopes new.scopes)
  pub scope : scope_at (scopes new.scopes) inner
      ≡ inside (numbers_from (length m.cells.bindings) (length m.arguments.items + d.variables))
      (arguments (scope_at (scopes m.scopes) n) ss)
  pub cells : new.cells.bindings ≡ (m.cells.bindings ++ map Some m.arguments.items) ++ replicate d.variables None
  pub room : (W : World) (sub : Standing) (whole : Answer) (p : Standing) (a : Answer)
      → HasCells (length new.cells.bindings) a
      → AnswersIn W sub whole (state_of m) p (cut (length m.cells.bindings) a)
      → AnswersIn W sub whole (with_those (state_of m) new.cells (scopes new.scopes) (frames_of new)) p a
  pub part : new.part ≡ m.part
  pub rest : (new.trail ≡ m.trail) × (new.level ≡ m.level) × (new.steps ≡ m.steps)
  pub frames : length new.frames ≤ length m.frames + 1
