use Rattle.std.proofs.Common.{sym}
use Rattle.strategy_check.proofs.NumberLemmas.{same-definitions}
use Rattle.strategy_check.proofs.program.renumber_bodies.Goals as goal

pub returns-then-keep_numbers : goal.returns-then-keep_numbers
returns-then-keep_numbers c =
    sym (same-definitions c.args.numbers.now (c.keep_numbers.ensures c.if-keep_numbers.true) c.args.bodies.now.items)
