use Rattle.std.proofs.Common.{length, []}
use Rattle.aterm_text.specs.inside.Unread.{Reading, ReaderStands}
use Rattle.aterm_text.specs.inside.Depth.{depth, IsAsDeep}
use Rattle.aterm_text.proofs.ReadLemmas.{IsUnderWay}
use Rattle.aterm_text.proofs.reader.machine.read_from.Given as goal

-- what the whole text had to spell is what the rest has to spell now
abbrev pub invariant-loop-stack : goal.invariant-loop-stack
invariant-loop-stack l =
    ((r : Reading) → ReaderStands r [] l.fn.start l.initial.stack → IsUnderWay r l.text l.state l.stack l.rest)
    × IsAsDeep 0 l.text (depth l.stack) l.rest

abbrev pub decreases-loop-stack : goal.decreases-loop-stack
decreases-loop-stack l = length l.rest
