use Rattle.std.proofs.Common.{arith}
use Rattle.command_line.proofs.NamedLemmas.{malformed_at}
use Rattle.command_line.proofs.named.read_all.Goals as goal

pub returns-in-Err-clause-malformed : goal.returns-in-Err-clause-malformed
returns-in-Err-clause-malformed c = malformed_at c.args.values.now c.loop-value.value-index _ c.in-Err.untaken
    (omega (arith, c.loop-value-test.true)) c.in-Err.ensures.malformed
