use Rattle.std.proofs.Common.{◌≡◌}
use Rattle.strategy_check.specs.inside.Replacing.{renumbered_definition}
use Rattle.strategy_check.proofs.ChangeLemmas.{partly}
use Rattle.strategy_check.proofs.program.renumber_each.Given as goal

-- the first i have new numbers
abbrev pub invariant-loop-i : goal.invariant-loop-i
invariant-loop-i l = l.bodies.items ≡ partly (renumbered_definition l.numbers) l.i l.initial.bodies.items
