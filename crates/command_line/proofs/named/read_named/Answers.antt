use Rattle.std.proofs.Common.{rules}
use Rattle.command_line.proofs.NamedLemmas.{not_named}
use Rattle.command_line.proofs.named.read_named.Goals as goal

pub returns-in_default-clause-malformed : goal.returns-in_default-clause-malformed
returns-in_default-clause-malformed c = not_named c.args.value.now (search rules)
