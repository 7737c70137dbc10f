-- What a run in the tree of a slot leads to.
use Rattle.std.specs.Prelude.{◌≡◌, ℕ, List, length, Some, Err}
use Rattle.prim_core.specs.Signature.{Signature}
use Rattle.term_core.specs.Tree.{Tree}
use Rattle.term_paths.specs.Edits.{Edits, prefixed}
use Rattle.term_changes.specs.Putting.{entries_at}
use Rattle.term_changes.specs.Slots.{Store}
use Rattle.term_changes.specs.Entries.{Entry, subterm_in}
use Rattle.strategy_syntax.specs.declared.resolved.Resolved.{Resolved}
use Rattle.strategy_check.specs.Programs.{Program}
use Rattle.strategy_meaning.specs.Meaning.{World, run_whole}
use Rattle.strategy_run.specs.Applies.{applied_in}
use Rattle.strategy_run.specs.Planning.{Gives}
use Rattle.session_history.specs.Applying.{Meaning, world_in, given_by}
use Rattle.session_history.specs.Unfolded.{Logged}
use Rattle.session_core.specs.inside.Resolved.{ResolvesTo}
use Rattle.session_modules.specs.declared.refusal.Refusal.{Refusal}

-- The slot's tree has a subterm at the path, and a run on it replaces places by these entries in so many
-- steps.
pub record Foresees (W : World) (s : Store) (slot : ℕ) (path : List ℕ) (r : Resolved) (b : ℕ) (entries : List Entry)
    (taken : ℕ) : Type 0 where
  pub part : Tree
  pub there : subterm_in s.trees slot path ≡ Some part
  pub places : Edits
  pub plan : entries ≡ entries_at slot (prefixed path places)
  pub gives : Gives part b (run_whole W (length path) r b part) places taken

-- The text is resolved to a strategy for the slot of the name's tree, and a run of it on the subterm at
-- the path replaces places by these entries in so many steps.
pub record PlansTo (meaning : Meaning) (ps : List Signature) (t : Logged) (name path text : List ℕ) (b slot : ℕ)
    (entries : List Entry) (taken : ℕ) : Type 0 where
  pub program : Program
  pub whole : Resolved
  pub resolves : ResolvesTo ps t name path text (Some program) slot whole
  pub foresees : Foresees (world_in meaning program ps t.limits.max_terms) t.store slot path whole b entries taken

-- Its run gives no tree, and this is why.
pub record PlansNothing (meaning : Meaning) (ps : List Signature) (t : Logged) (name path text : List ℕ) (b : ℕ)
    (refusal : Refusal) : Type 0 where
  pub program : Program
  pub whole : Resolved
  pub slot : ℕ
  pub resolves : ResolvesTo ps t name path text (Some program) slot whole
  pub ends : given_by (applied_in (world_in meaning program ps t.limits.max_terms) t.store.trees slot path whole b)
      ≡ Err refusal
