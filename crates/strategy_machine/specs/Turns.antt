-- The invariant of a turn of the machine, and termination.
use Rattle.std.specs.Prelude.{◌≡◌, ◌<◌, ℕ, ◌+◌, ◌-◌, ◌*◌, List, [], length, reverse}
use Rattle.std.specs.declared.option.Option.{Option}
use Rattle.term_core.specs.Tree.{Tree, children}
use Rattle.term_paths.specs.Edits.{Edits}
use Rattle.term_changes.specs.Standing.{Standing, standing_tree}
use Rattle.prim_core.specs.Signature.{Signature}
use Rattle.strategy_syntax.specs.declared.resolved.Resolved.{Resolved}
use Rattle.strategy_meaning.specs.Scopes.{Scope}
use Rattle.strategy_meaning.specs.Matching.{Bindings}
use Rattle.strategy_meaning.specs.Answer.{Answer, done, failed, stopped, spent, big}
use Rattle.strategy_meaning.specs.Meaning.{World, run, each, leftmost, those_done}
use Rattle.strategy_machine.specs.Table.{scopes, scope_at}
use Rattle.term_match.specs.CellContents.{CellContents}
use Rattle.term_match.specs.Marks.{mark_of}
use Rattle.strategy_machine.specs.Leading.{Leads, Has, all_parts, node_with, PartsStand}
use Rattle.strategy_machine.specs.Trails.{Shows, path_of}
use Rattle.strategy_machine.specs.Frames.{Meets, Opens, acts_list}
use Rattle.strategy_machine.specs.declared.trail.Trail.{Trail}
use Rattle.strategy_machine.specs.declared.frames.Frame.{Frame}
use Rattle.strategy_machine.specs.Hands.{Hand, Begin, Done, Failed, Each, Leftmost, Those, in_hand}
use Rattle.strategy_machine.specs.declared.frames.Turned.{Turned}
use Rattle.strategy_machine.specs.declared.frames.Turned.TheVariants as turns
use Rattle.strategy_machine.specs.declared.machine.Machine.{Machine}

-- The state that a turn works on, with the frames innermost first.
pub record State : Type 0 where
  pub cells : CellContents
  pub scopes : List Scope
  pub trail : Trail
  pub level : ℕ
  pub frames : List Frame
  pub steps : ℕ

abbrev pub state_of : Machine → State
state_of m = record {
  cells = m.cells;
  scopes = scopes m.scopes;
  trail = m.trail;
  level = m.level;
  frames = reverse m.frames;
  steps = m.steps;
}

-- the answer of the focus from here
abbrev pub coming : World → State → Hand → Answer
coming W S (Begin s n p) = run W (scope_at S.scopes n) S.level s.now S.steps S.cells.bindings (standing_tree p)
coming W S (Done p) = done (standing_tree p) S.cells.bindings S.steps []
coming W S Failed = failed S.steps
coming W S (Each acts n p i parts) =
    each (run W (scope_at S.scopes n) (S.level + 1)) (acts_list acts (length (children (standing_tree p)) - i)) i
    S.steps S.cells.bindings (standing_tree (node_with p parts.items))
coming W S (Leftmost s n p i) =
    leftmost (run W (scope_at S.scopes n) (S.level + 1) s.now) (length (children (standing_tree p)) - i) i
    S.steps S.cells.bindings (standing_tree p)
coming W S (Those s n p i any parts) =
    those_done (run W (scope_at S.scopes n) (S.level + 1) s.now) (length (children (standing_tree p)) - i) any i
    S.steps S.cells.bindings (standing_tree (node_with p parts.items))

-- p is the focus, and its scope exists
abbrev pub IsInHand : State → Standing → Hand → Type 0
IsInHand S p (Begin s n q) = (n < length S.scopes) × (p ≡ q)
IsInHand S p (Done q) = p ≡ q
IsInHand S p Failed = Unit {0}
IsInHand S p (Each acts n q i parts) =
    (n < length S.scopes) × Has q × PartsStand q (all_parts q parts.items) × (p ≡ node_with q parts.items)
IsInHand S p (Leftmost s n q i) = (n < length S.scopes) × Has q × (p ≡ q)
IsInHand S p (Those s n q i any parts) =
    (n < length S.scopes) × Has q × PartsStand q (all_parts q parts.items) × (p ≡ node_with q parts.items)

-- The answer of the focus, passed through the frames, is the whole answer.
pub record HoldsIn (W : World) (sub : Standing) (whole : Answer) (S : State) (hand : Hand) : Type 0 where
  pub now : Standing
  pub edits : Edits
  pub shows : Shows S.trail edits
  pub in_hand : IsInHand S now hand
  pub opens : Opens (Meets W sub whole S.cells (mark_of S.cells) S.scopes S.level S.frames) (path_of S.frames) now edits
      (coming W S hand)

abbrev pub Holds : World → Standing → Answer → Machine → Hand → Type 0
Holds W sub whole m hand = HoldsIn W sub whole (state_of m) hand

-- The run succeeds with p.
pub record IsDone (sub : Standing) (whole : Answer) (S : State) (p : Standing) : Type 0 where
  pub edits : Edits
  pub leads : Leads sub edits p
  pub shows : Shows S.trail edits
  pub bindings : Bindings
  pub is : whole ≡ done (standing_tree p) bindings S.steps edits

abbrev pub After : World → Standing → Answer → Machine → Turned → Type 0
After W sub whole m turns.On = Holds W sub whole m (in_hand m)
After W sub whole m turns.Done = IsDone sub whole (state_of m) m.part
After W sub whole m turns.Failed = whole ≡ failed m.steps
After W sub whole m turns.Spent = whole ≡ stopped spent
After W sub whole m turns.Big = whole ≡ stopped big

-- A turn preserves the whole answer.
pub record Turn (W : World) (m : Machine) (hand : Hand) (new : Machine) (next : Turned) : Type 0 where
  pub keeps : (sub : Standing) (whole : Answer) → Holds W sub whole m hand → After W sub whole new next

-- what the numbers in the strategies of a run stand for, and the room
abbrev pub world_of : (List ℕ → List Tree → Option Tree) → List Resolved → List Signature → ℕ → World
world_of meaning definitions primitives room =
    record { bodies = definitions; primitives = primitives; meaning = meaning; room = room }

-- ---- termination

abbrev pub weight : Hand → ℕ
weight (Begin s n p) = 0
weight (Done p) = 2
weight Failed = 2
weight (Each acts n p i parts) = 3
weight (Leftmost s n p i) = 3
weight (Those s n p i any parts) = 3

-- a bound on what is left to do
abbrev pub load : Machine → Hand → ℕ
load m hand = 7 * m.steps + 2 * length m.frames + weight hand

-- less is left to do
abbrev pub Falls : Machine → Hand → Machine → Turned → Type 0
Falls m hand new turns.On = load new (in_hand new) < load m hand
Falls m hand new turns.Done = Unit {0}
Falls m hand new turns.Failed = Unit {0}
Falls m hand new turns.Spent = Unit {0}
Falls m hand new turns.Big = Unit {0}
