-- Putting the result of a strategy in a slot.
use Rattle.std.specs.Prelude.{◌≡◌, ℕ, Some, Ok}
use Rattle.term_core.specs.Tree.{Tree}
use Rattle.strategy_meaning.specs.Applied.{Outcome}
use Rattle.term_changes.specs.Slots.{Store}
use Rattle.term_changes.specs.Entries.{slot_tree, put}
use Rattle.session_history.specs.Applying.{given_by}

-- The run succeeded with a tree, which was put in a slot: from one store to the other.
pub record GivesIn (ending : Outcome) (slot : ℕ) (s t : Store) : Type 0 where
  pub tree : Tree
  pub given : given_by ending ≡ Ok tree
  pub stands : t ≡ put (slot_tree slot (Some tree)) s
