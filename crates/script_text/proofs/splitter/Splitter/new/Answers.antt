use Rattle.script_text.proofs.SplitLemmas.{StandsAfter-none}
use Rattle.script_text.proofs.splitter.Splitter.new.Goals as goal

pub returns : goal.returns
returns c = rw c.in_ok-command.ensures (StandsAfter-none _)
