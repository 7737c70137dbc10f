use Rattle.std.proofs.Common.{arith}
use Rattle.script_text.proofs.SplitRunLemmas.{kept_taken, dropped_taken}
use Rattle.script_text.proofs.splitter.Unfinished.take_run.Goals as goal

pub returns-else-self-gt0-clause-goes : goal.returns-else-self-gt0-clause-goes
returns-else-self-gt0-clause-goes c = kept_taken c.args.self.now c.args.bytes.now _ _ c.in-Kept.is (omega arith)
    c.kept_len-len.ensures.value c.add_all.ensures

pub returns-in-Comment-clause-goes : goal.returns-in-Comment-clause-goes
returns-in-Comment-clause-goes c =
    dropped_taken c.args.self.now c.args.bytes.now _ c.in-Comment.is c.dropped_len.ensures.value
