-- The focus and what to do next with it.
use Rattle.std.specs.Prelude.{ℕ, Bool, Vec}
use Rattle.std.specs.Borrow.{Bor}
use Rattle.std.specs.Global.{Global}
use Rattle.term_changes.specs.Standing.{Standing}
use Rattle.strategy_syntax.specs.Resolved.{ResolvedStrategy}
use Rattle.strategy_machine.specs.declared.frames.Acts.{Acts}
use Rattle.strategy_machine.specs.declared.frames.Next.{Next}
use Rattle.strategy_machine.specs.declared.frames.Next.TheVariants as nexts
use Rattle.strategy_machine.specs.declared.machine.Machine.{Machine}

pub data Hand : Type 0 where
  Begin : Bor ResolvedStrategy → ℕ → Standing → Hand  -- evaluate a strategy on it, in a scope
  Done : Standing → Hand  -- a strategy succeeded with it
  Failed : Hand  -- a strategy failed
  -- run strategies on its children from an index on, with the parts in their places
  Each : Acts → ℕ → Standing → ℕ → Vec Standing Global → Hand
  -- run a strategy on its children from an index on, until it succeeds on one
  Leftmost : Bor ResolvedStrategy → ℕ → Standing → ℕ → Hand
  -- run a strategy on its children from an index on, keeping those that fail; the flag says whether
  -- it has succeeded on any
  Those : Bor ResolvedStrategy → ℕ → Standing → ℕ → Bool → Vec Standing Global → Hand

abbrev pub hand_of : Next → Standing → Vec Standing Global → Hand
hand_of (nexts.Begin s n) p parts = Begin s n p
hand_of nexts.Done p parts = Done p
hand_of nexts.Failed p parts = Failed

abbrev pub in_hand : Machine → Hand
in_hand m = hand_of m.next m.part m.parts
