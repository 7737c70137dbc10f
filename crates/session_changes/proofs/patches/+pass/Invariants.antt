use Rattle.std.proofs.Common.{◌≡◌, drop}
use Rattle.session_changes.specs.inside.ReadPatches.{items_weight}
use Rattle.session_changes.proofs.patches.+pass.Given as goal

abbrev pub decreases-pass : goal.decreases-pass
decreases-pass l = items_weight l.reader.now

abbrev pub invariant-loop-k : goal.invariant-loop-k
invariant-loop-k l = l.reader ≡ drop l._k l.initial.reader
