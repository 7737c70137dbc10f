use Rattle.std.proofs.Common.{◌≡◌, option_map}
use Rattle.script_text.specs.Splitting.{with_more, after_returns}
use Rattle.script_text.proofs.pending.Pending.add_after.Given as goal

-- after the remaining carriage returns the command is what it should be
abbrev pub invariant-loop-left : goal.invariant-loop-left
invariant-loop-left l =
    option_map (with_more (after_returns l.left l.byte)) l.self
    ≡ option_map (with_more (after_returns l.returns l.byte)) l.fn.self

abbrev pub decreases-loop-left : goal.decreases-loop-left
decreases-loop-left l = l.left
