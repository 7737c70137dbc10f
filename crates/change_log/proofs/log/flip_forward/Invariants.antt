use Rattle.std.proofs.Common.{◌≡◌, length, drop}
use Rattle.term_changes.specs.inside.LogView.{depths}
use Rattle.term_changes.proofs.LogLemmas.{FlippedTo, path_begin}
use Rattle.change_log.proofs.log.flip_forward.Given as goal

-- the entries before `i` are flipped, and the paths of the others remain
abbrev pub invariant-loop-i : goal.invariant-loop-i
invariant-loop-i l =
    (length l.replaced ≡ length l.initial.replaced) × (depths l.replaced ≡ length l.paths)
    × (l.rest ≡ drop (path_begin l.i l.replaced) l.paths)
    × FlippedTo l.i l.initial.replaced l.replaced l.paths l.initial.store l.store
