use Rattle.std.proofs.Common.{◌≡◌, length}
use Rattle.std.specs.List.{prefix_len}
use Rattle.aterm_text.specs.inside.Runs.{is_plain}
use Rattle.aterm_text.proofs.ScanLemmas.{IsReadSoFar}
use Rattle.aterm_text.proofs.reader.scan.escaped.Given as goal

-- what was read so far, up to a byte that doesn't stand for itself
abbrev pub invariant-loop-after : goal.invariant-loop-after
invariant-loop-after l = IsReadSoFar l.text l.bytes.items l.rest × (prefix_len is_plain l.rest ≡ 0)

abbrev pub decreases-loop-after : goal.decreases-loop-after
decreases-loop-after l = length l.rest
