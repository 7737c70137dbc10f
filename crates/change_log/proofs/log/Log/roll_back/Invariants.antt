use Rattle.std.proofs.Common.{◌≡◌, ◌≤◌, length, take, drop, min}
use Rattle.term_changes.specs.Entries.{before}
use Rattle.change_log.proofs.log.Log.roll_back.Given as goal

-- the first entries remain, and the changes of the others are undone
abbrev pub invariant-loop-self : goal.invariant-loop-self
invariant-loop-self l =
    (min l.mark (length l.initial.self) ≤ length l.self)
    × (l.self ≡ take (length l.self) l.initial.self)
    × (l.store ≡ before (drop (length l.self) l.initial.self) l.initial.store)

abbrev pub decreases-loop-self : goal.decreases-loop-self
decreases-loop-self l = length l.self
