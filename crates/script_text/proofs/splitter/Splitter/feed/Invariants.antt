use Rattle.std.proofs.Common.{◌≡◌, ◌≤◌, ◌-◌, [], length, take, None}
use Rattle.script_text.specs.inside.Passing.{Goes}
use Rattle.script_text.proofs.splitter.Splitter.feed.Given as goal

-- the pending state is that after the bytes so far, and no command is complete
abbrev pub invariant-loop-at : goal.invariant-loop-at
invariant-loop-at l = record {
  none : l.self-inside.next ≡ None;
  goes : Goes l.fn.self.left (take l.at l.bytes) [] l.self-inside.open;
  in_range : l.at ≤ length l.bytes;
}

abbrev pub decreases-loop-at : goal.decreases-loop-at
decreases-loop-at l = length l.bytes - l.at
