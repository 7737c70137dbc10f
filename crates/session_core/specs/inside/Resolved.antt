-- What a strategy, given as text, is resolved to for a place, before it is run.
use Rattle.std.specs.Prelude.{◌≡◌, ℕ, List, Some, Ok, Err}
use Rattle.std.specs.declared.option.Option.{Option}
use Rattle.std.specs.declared.result.Result.{Result}
use Rattle.prim_core.specs.Signature.{Signature}
use Rattle.term_core.specs.declared.memory.NoMemory.{NoMemory}
use Rattle.term_changes.specs.Slots.{contents}
use Rattle.strategy_syntax.specs.Syntax.{Strategy}
use Rattle.strategy_syntax.specs.declared.resolved.Resolved.{Resolved}
use Rattle.strategy_check.specs.Programs.{Program}
use Rattle.session_modules.specs.Modules.{GivesProgram}
use Rattle.session_history.specs.Applying.{ReadsAsStrategy, resolved_in}
use Rattle.session_history.specs.History.{History}
use Rattle.session_history.specs.Acts.{Located, Resolving}
use Rattle.session_history.specs.Unfolded.{Logged, IsPlaceOf}
use Rattle.session_modules.specs.declared.refusal.Refusal.{Refusal}
use Rattle.session_modules.specs.declared.refusal.Refusal.TheVariants as refusals
use Rattle.strategy_run.specs.declared.ended.Ended.{Ended}
use Rattle.strategy_run.specs.declared.ended.Ended.TheVariants.{Done, Failed, Spent, Big}

-- The name's tree is in the slot and has a subterm at the path, and the text is resolved to this
-- strategy in the program of the modules, which is cached.
pub record ResolvesTo (ps : List Signature) (t : Logged) (name path text : List ℕ) (cached : Option Program) (slot : ℕ)
    (whole : Resolved) : Type 0 where
  pub there : IsPlaceOf t.store name path slot
  pub strategy : Strategy
  pub reads : ReadsAsStrategy text (Ok strategy)
  pub program : Program
  pub cache : cached ≡ Some program
  pub gives : GivesProgram ps (contents t.store).modules program
  pub is : resolved_in program ps strategy ≡ Ok whole

-- nothing is run
abbrev pub Never : Located → Program → Resolved → Result (Unit {0}) Refusal → Type 0
Never place program whole outcome = ⊥

-- This refusal comes before anything is run.
abbrev pub IsUnresolved : List ℕ → List ℕ → List ℕ → History → Refusal → Type 0
IsUnresolved name path text h refusal = Resolving name path text h Never (Err refusal)

-- ---- what was planned, or the refusal

abbrev pub replaced_of : {R : Type 0} → Result (Ended R) NoMemory → Result R Refusal
replaced_of (Ok (Done planned)) = Ok planned
replaced_of (Ok Failed) = Err refusals.Fails
replaced_of (Ok Spent) = Err refusals.Spent
replaced_of (Ok Big) = Err refusals.Big
replaced_of (Err none) = Err refusals.Memory
