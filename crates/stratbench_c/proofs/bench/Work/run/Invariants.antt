use Rattle.std.proofs.Common.{◌≡◌, length}
use Rattle.prim_extended.specs.Extended.{extended}
use Rattle.script_text.specs.Answer.{ReplyInRun}
use Rattle.stratbench_c.proofs.ProgressLemmas.{Progress}
use Rattle.stratbench_c.proofs.bench.Work.run.Given as goal

-- the commands of the script before the rest are answered, and what the session heeds stays
abbrev pub invariant-loop-taken : goal.invariant-loop-taken
invariant-loop-taken l =
    Progress l.fn.framing (ReplyInRun extended l.steps) l.script l.rest l.fn.self.session l.self.session l.self.answers
    l.self.ends.items l.accepted l.splitter.left
    × (l.self.stop ≡ l.fn.self.stop)

abbrev pub decreases-loop-taken : goal.decreases-loop-taken
decreases-loop-taken l = length l.rest
