use Rattle.std.proofs.Common.{ap, Some}
use Rattle.clap.specs.Words.{Rule}
use Rattle.command_line.proofs.words.interactive_flag.Goals as goal

pub returns-clause-rule : goal.returns-clause-rule
returns-clause-rule c = rw c.short.ensures (ap (λ (r : Rule). record r { short = Some 105 }) c.flag.ensures.rule)

pub returns-clause-local : goal.returns-clause-local
returns-clause-local c = rw c.short.ensures c.flag.ensures.local
