use Rattle.std.proofs.Common.{◌≡◌, ◌≤◌, length, take}
use Rattle.term_changes.proofs.LogLemmas.{FlippedFrom, path_begin}
use Rattle.change_log.proofs.log.flip_back.Given as goal

-- the entries from `left` on are flipped, and the paths of the others remain
abbrev pub invariant-loop-left : goal.invariant-loop-left
invariant-loop-left l =
    (l.left ≤ length l.replaced) × (l.rest ≡ take (path_begin l.left l.replaced) l.paths)
    × (path_begin l.left l.replaced ≤ length l.paths)
    × FlippedFrom l.left l.initial.replaced l.replaced l.paths l.initial.store l.store

abbrev pub decreases-loop-left : goal.decreases-loop-left
decreases-loop-left l = l.left
