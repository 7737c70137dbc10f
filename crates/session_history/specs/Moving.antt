-- What a call on a timeline does to the history that this unfolds to, whatever the primitives.
use Rattle.std.specs.Prelude.{◌≡◌, Bool, List, Some, Ok, IsSomeAnd}
use Rattle.std.specs.Bool.{OnFalse}
use Rattle.std.specs.declared.option.Option.{Option}
use Rattle.std.specs.declared.result.Result.{Result}
use Rattle.prim_core.specs.Signature.{Signature}
use Rattle.term_changes.specs.Slots.{contents}
use Rattle.term_changes.specs.Entries.{Entry, put}
use Rattle.session_history.specs.History.{History, changed}
use Rattle.session_history.specs.Acts.{Act, ComesTo, committed, Performs, PerformsSurely}
use Rattle.session_history.specs.Unfolded.{Logged, unfolded}
use Rattle.session_modules.specs.declared.refusal.Refusal.{Refusal}

-- It stays the same.
pub record KeepsHistory (old new : Logged) : Type 0 where
  pub same : (ps : List Signature) → unfolded ps new ≡ unfolded ps old

-- It changes to the contents of the new store.
pub record Changes (old new : Logged) : Type 0 where
  pub made : (ps : List Signature) → unfolded ps new ≡ changed (contents new.store) (unfolded ps old)

-- It changes to the contents with this entry.
pub record Puts (e : Entry) (old new : Logged) : Type 0 where
  pub made : (ps : List Signature) → unfolded ps new ≡ changed (contents (put e old.store)) (unfolded ps old)

-- It moves so. The module texts are the same, unless they are touched.
pub record Moves (move : History → Option History) (touched : Bool) (old new : Logged) : Type 0 where
  pub value : (ps : List Signature) → move (unfolded ps old) ≡ Some (unfolded ps new)
  pub texts : OnFalse touched (new.store.modules ≡ old.store.modules)

-- The open group becomes one step and is closed.
pub record Commits (old new : Logged) : Type 0 where
  pub made : (ps : List Signature)
      → IsSomeAnd (unfolded ps old).group (λ g. unfolded ps new ≡ committed g (unfolded ps old))

-- The act is accepted and leads from one to the other.
pub record Leads (act : Act) (old new : Logged) : Type 0 where
  pub to : (ps : List Signature) → ComesTo act (unfolded ps old) (Ok (unfolded ps new))

-- This is the answer to the act.
pub record PerformsOn {X : Type 0} (act : Act) (old new : Logged) (result : Result X Refusal) : Type 0 where
  pub at : (ps : List Signature) → Performs act (unfolded ps old) (unfolded ps new) result

-- The same with these primitives.
pub record PerformsBy {X : Type 0} (ps : List Signature) (act : Act) (old new : Logged)
    (result : Result X Refusal) : Type 0 where
  pub is : Performs act (unfolded ps old) (unfolded ps new) result

-- The same for an act that takes no memory.
pub record PerformsSurelyOn {X : Type 0} (act : Act) (old new : Logged) (result : Result X Refusal) : Type 0 where
  pub at : (ps : List Signature) → PerformsSurely act (unfolded ps old) (unfolded ps new) result
