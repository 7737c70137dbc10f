-- What giving an answer to a frame keeps, and that less is left to do after it.
use Rattle.std.specs.Prelude.{◌≡◌, ◌<◌, ℕ, ◌+◌, ◌*◌, ◌==◌, not, cond, [], ◌∷◌, length, reverse, slice_set, Vec}
use Rattle.std.specs.Global.{Global}
use Rattle.term_changes.specs.Standing.{Standing, standing_children, with_standing}
use Rattle.strategy_meaning.specs.Answer.{Answer}
use Rattle.strategy_meaning.specs.Meaning.{World}
use Rattle.strategy_machine.specs.Table.{scopes}
use Rattle.strategy_machine.specs.Leading.{parts_now, all_parts}
use Rattle.strategy_machine.specs.Frames.{walk_parts}
use Rattle.strategy_machine.specs.declared.frames.Acts.{Acts}
use Rattle.strategy_machine.specs.declared.frames.Walk.{Walk}
use Rattle.strategy_machine.specs.declared.frames.Frame.{Frame}
use Rattle.strategy_machine.specs.Hands.{Hand, Each, in_hand}
use Rattle.strategy_machine.specs.declared.frames.Turned.{Turned}
use Rattle.strategy_machine.specs.declared.frames.Turned.TheVariants as turns
use Rattle.strategy_machine.specs.declared.frames.Next.{Next}
use Rattle.strategy_machine.specs.declared.machine.Machine.{Machine}
use Rattle.strategy_machine.specs.Turns.{State, HoldsIn, Holds, After, load}

-- the same machine, with this to do next
abbrev pub with_next : Machine → Next → Machine
with_next m n = record {
  next = n;
  part = m.part;
  parts = m.parts;
  spares = m.spares;
  frames = m.frames;
  cells = m.cells;
  scopes = m.scopes;
  trail = m.trail;
  arguments = m.arguments;
  level = m.level;
  steps = m.steps;
}

abbrev pub under : Frame → Machine → State
under f m = record {
  cells = m.cells;
  scopes = scopes m.scopes;
  trail = m.trail;
  level = m.level;
  frames = f ∷ reverse m.frames;
  steps = m.steps;
}

-- Continuing from there preserves the whole answer.
pub record Gives (W : World) (f : Frame) (m : Machine) (hand : Hand) (new : Machine) (next : Turned) : Type 0 where
  pub keeps : (sub : Standing) (whole : Answer) → HoldsIn W sub whole (under f m) hand → After W sub whole new next

abbrev pub GiveFalls : Machine → Machine → Turned → Type 0
GiveFalls m new turns.On = load new (in_hand new) < 7 * m.steps + 2 * length m.frames + 4
GiveFalls m new turns.Done = Unit {0}
GiveFalls m new turns.Failed = Unit {0}
GiveFalls m new turns.Spent = Unit {0}
GiveFalls m new turns.Big = Unit {0}

-- less is left to do than before the next child's turn
abbrev pub EndFalls : Machine → Machine → Turned → Type 0
EndFalls m new turns.On = load new (in_hand new) < 7 * m.steps + 2 * length m.frames + 3
EndFalls m new turns.Done = Unit {0}
EndFalls m new turns.Failed = Unit {0}
EndFalls m new turns.Spent = Unit {0}
EndFalls m new turns.Big = Unit {0}

-- Beginning with the children from index i on, none of which has changed, preserves the whole
-- answer.
pub record GoesIn (W : World) (m : Machine) (acts : Acts) (n : ℕ) (p : Standing) (i : ℕ) (new : Machine)
    (next : Turned) : Type 0 where
  pub keeps : (sub : Standing) (whole : Answer)
      → ((parts : Vec Standing Global) → parts.items ≡ [] → Holds W sub whole m (Each acts n p i parts))
      → After W sub whole new next

-- The walk moves up from its child, which is now p; if there was no edit since the child's turn
-- came, nothing has changed.
pub record ComesUp (m : Machine) (w : Walk) (p : Standing) (new : Machine)
    (up : Standing × Vec Standing Global) : Type 0 where
  pub node : up.0 ≡ w.node
  pub parts : all_parts w.node up.1.items
      ≡ cond (not (m.trail.count == w.edits)) (slice_set (parts_now w.node (walk_parts w)) w.index p) (walk_parts w)
  pub level : new.level ≡ w.level
  pub rest : (new.frames ≡ m.frames) × (new.cells ≡ m.cells) × (new.scopes ≡ m.scopes) × (new.trail ≡ m.trail)
      × (new.steps ≡ m.steps)

-- The walk, which holds no parts, moves up from its child, which is now p: the node with that child
-- is in focus. If there was no edit since the child's turn came, that is the node itself.
pub record Rises (m : Machine) (w : Walk) (p : Standing) (new : Machine) : Type 0 where
  pub part : new.part ≡ cond (not (m.trail.count == w.edits))
      (with_standing w.node (slice_set (standing_children w.node) w.index p)) w.node
  pub level : new.level ≡ w.level
  pub rest : (new.frames ≡ m.frames) × (new.cells ≡ m.cells) × (new.scopes ≡ m.scopes) × (new.trail ≡ m.trail)
      × (new.steps ≡ m.steps)

-- The machine goes down from its focus into child i, which is p: the walk holds the node, with these
-- parts in the places of its first children.
pub record Descends (m : Machine) (p : Standing) (parts : Vec Standing Global) (i : ℕ) (new : Machine)
    (w : Walk) : Type 0 where
  pub walk : w ≡ record { node = m.part; parts = parts; index = i; level = m.level; edits = m.trail.count }
  pub part : new.part ≡ p
  pub level : new.level ≡ m.level + 1
  pub rest : (new.frames ≡ m.frames) × (new.cells ≡ m.cells) × (new.scopes ≡ m.scopes) × (new.trail ≡ m.trail)
      × (new.steps ≡ m.steps)
