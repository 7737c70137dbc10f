-- What starting a form keeps, once its step is charged.
use Rattle.std.specs.Prelude.{◌≡◌, ◌<◌, ℕ, ◌+◌, ◌*◌, [], ◌∷◌, ◌++◌, length, reverse}
use Rattle.term_core.specs.Tree.{Tree}
use Rattle.term_paths.specs.Edits.{Edits}
use Rattle.term_changes.specs.Standing.{Standing, fresh, standing_tree}
use Rattle.strategy_syntax.specs.Resolved.{ResolvedStrategy}
use Rattle.strategy_meaning.specs.Answer.{Answer}
use Rattle.strategy_meaning.specs.Meaning.{World, run, form}
use Rattle.strategy_machine.specs.Table.{scope_at}
use Rattle.term_match.specs.Marks.{mark_of}
use Rattle.strategy_machine.specs.Trails.{Shows, path_of}
use Rattle.strategy_machine.specs.Frames.{Meets, Opens}
use Rattle.strategy_machine.specs.Hands.{in_hand}
use Rattle.strategy_machine.specs.declared.frames.Turned.{Turned}
use Rattle.strategy_machine.specs.declared.frames.Turned.TheVariants as turns
use Rattle.strategy_machine.specs.declared.machine.Machine.{Machine}
use Rattle.strategy_machine.specs.Turns.{State, state_of, After, load}

-- The answer that the table's line for the form gives, passed through the frames, is the whole
-- answer.
pub record FormIn (W : World) (sub : Standing) (whole : Answer) (S : State) (r : ResolvedStrategy) (n : ℕ)
    (p : Standing) : Type 0 where
  pub edits : Edits
  pub shows : Shows S.trail edits
  pub there : n < length S.scopes
  pub opens : Opens (Meets W sub whole S.cells (mark_of S.cells) S.scopes S.level S.frames) (path_of S.frames) p edits
      (form W (run W) (scope_at S.scopes n) S.level r S.steps S.cells.bindings (standing_tree p))

-- A turn that continues with the form preserves it.
pub record Takes (W : World) (m : Machine) (r : ResolvedStrategy) (n : ℕ) (p : Standing) (new : Machine)
    (next : Turned) : Type 0 where
  pub keeps : (sub : Standing) (whole : Answer) → FormIn W sub whole (state_of m) r n p → After W sub whole new next

abbrev pub TakeFalls : Machine → Machine → Turned → Type 0
TakeFalls m new turns.On = load new (in_hand new) < 7 * (m.steps + 1) + 2 * length m.frames
TakeFalls m new turns.Done = Unit {0}
TakeFalls m new turns.Failed = Unit {0}
TakeFalls m new turns.Spent = Unit {0}
TakeFalls m new turns.Big = Unit {0}

-- The focus was replaced by a value: one more edit.
pub record Replaced (m : Machine) (u : Tree) (new : Machine) (p : Standing) : Type 0 where
  pub part : p ≡ fresh u
  pub shows : (T : Edits) → Shows m.trail T
      → Shows new.trail (T ++ record { path = path_of (reverse m.frames); new = u } ∷ [])
  pub rest : (new.frames ≡ m.frames) × (new.cells ≡ m.cells) × (new.scopes ≡ m.scopes) × (new.level ≡ m.level)
      × (new.steps ≡ m.steps)
