-- How the walk of a frame moves on to the next child.
use Rattle.std.specs.Prelude.{◌≡◌, ℕ, suc, ◌+◌, ◌-◌, length, ◌==◌, not, cond, List, [], ◌∷◌, ◌++◌, slice_get, slice_set, Some, None, MatchOption}
use Rattle.std.specs.Borrow.{Bor}
use Rattle.std.specs.declared.option.Option.{Option}
use Rattle.term_core.specs.Tree.{children}
use Rattle.term_changes.specs.Standing.{Standing, standing_tree}
use Rattle.strategy_syntax.specs.Resolved.{ResolvedStrategy}
use Rattle.strategy_machine.specs.Leading.{parts_now, all_parts}
use Rattle.strategy_machine.specs.declared.frames.Acts.{Acts}
use Rattle.strategy_machine.specs.declared.frames.Acts.TheVariants.{Same, List as Listed}
use Rattle.strategy_machine.specs.declared.frames.Walk.{Walk}
use Rattle.strategy_machine.specs.declared.frames.Frame.{Frame}
use Rattle.strategy_machine.specs.declared.frames.Frame.TheVariants.{Each}
use Rattle.strategy_machine.specs.declared.stack.Slot.{Slot}
use Rattle.strategy_machine.specs.Frames.{acts_list, walk_parts}
use Rattle.strategy_machine.specs.inside.Slots.{with_walk}

-- The walk moves on from its child, which is now p, to the next one, q, when there are these edits.
pub record StepsOn (w : Walk) (p : Standing) (count : ℕ) (v : Walk) (q : Standing) : Type 0 where
  pub node : v.node ≡ w.node
  pub level : v.level ≡ w.level
  pub index : v.index ≡ w.index + 1
  pub edits : v.edits ≡ count
  pub parts : all_parts w.node v.parts.items
      ≡ cond (not (count == w.edits)) (slice_set (parts_now w.node (walk_parts w)) w.index p) (walk_parts w)
  pub child : slice_get (parts_now w.node (all_parts w.node v.parts.items)) v.index ≡ Some q

-- Nothing has changed below the node of the walk, and there is no strategy for a child from number
-- `next` on.
pub record EndsUnchanged (w : Walk) (count : ℕ) (acts : Acts) (next : ℕ) : Type 0 where
  pub edits : count ≡ w.edits
  pub parts : w.parts.items ≡ []
  pub over : acts_list acts (length (children (standing_tree w.node)) - next) ≡ []

-- one strategy for each child is also the one for each child after the first
abbrev pub StaysSame : Acts → Acts → Type 0
StaysSame acts (Same s) = acts ≡ Same s
StaysSame acts (Listed ss) = Unit {0}

-- the frame has strategy s, in scope m, for the next child, and others for the children after it
abbrev pub HasNext : Frame → Bor ResolvedStrategy → ℕ → Acts → Type 0
HasNext (Each acts n w) s m others = (m ≡ n) × ((k : ℕ) → acts_list acts (suc k) ≡ s.now ∷ acts_list others k)
HasNext f s m others = ⊥

-- the walk of the frame moves on from its child, which is now p, to q
abbrev pub WalksOn : Frame → Standing → ℕ → Frame → Standing → Type 0
WalksOn (Each acts n w) p edits g q = (v : Walk) × (g ≡ Each acts n v) × StepsOn w p edits v q
WalksOn f p edits g q = ⊥

abbrev pub with_acts : Frame → Acts → Frame
with_acts (Each acts n w) others = Each others n w
with_acts f others = f

-- The frame has strategies for children and moves on from p to q with s, in scope m.
abbrev pub GoesOn : Frame → Standing → ℕ → Bor ResolvedStrategy → ℕ → Frame → Standing → Type 0
GoesOn f p edits s m g q =
    (others : Acts) × (h : Frame) × HasNext f s m others × WalksOn f p edits h q × (g ≡ with_acts h others)

-- the same for the innermost of these frames
abbrev pub LastGoesOn : List Frame → Standing → ℕ → Bor ResolvedStrategy → ℕ → List Frame → Standing → Type 0
LastGoesOn fs p edits s m gs q =
    (front : List Frame) × (f : Frame) × (g : Frame)
    × (fs ≡ front ++ f ∷ []) × (gs ≡ front ++ g ∷ []) × GoesOn f p edits s m g q

-- ---- after a failure

-- the walk at the next child
abbrev pub passed : Walk → Walk
passed w = record { node = w.node; parts = w.parts; index = w.index + 1; level = w.level; edits = w.edits }

-- the part in the place of the next child
abbrev pub next_part : Walk → Option Standing
next_part w = slice_get (parts_now w.node (walk_parts w)) (w.index + 1)

-- The walk moves on from p, whose edits are forgotten, to the next child, q, if there is one.
abbrev pub StepsOver : Walk → Standing → Option ℕ → Walk → Standing → Type 0
StepsOver w p found v q = MatchOption found ((v ≡ w) × (q ≡ p) × (next_part w ≡ None))
    (λ edits. (edits ≡ w.edits) × (v ≡ passed w) × (next_part w ≡ Some q))

-- the same for the walk of the innermost of these frames, which has slot x
abbrev pub LastStepsOver : Slot → List Frame → Standing → Option ℕ → List Frame → Standing → Type 0
LastStepsOver x fs p found gs q =
    (front : List Frame) × (w : Walk) × (v : Walk) × (fs ≡ front ++ with_walk x w) × (gs ≡ front ++ with_walk x v)
    × StepsOver w p found v q
