use Rattle.std.proofs.Common.{◌≡◌, length}
use Rattle.strategy_parse.specs.inside.ModuleFronts.{more_names}
use Rattle.strategy_parse.proofs.modules.headers.read_more_names.Given as goal

-- the rest gives what the whole gave
abbrev pub invariant-loop-rest : goal.invariant-loop-rest
invariant-loop-rest l = more_names l.names l.left ≡ more_names l.fn.first l.tokens

abbrev pub decreases-loop-rest : goal.decreases-loop-rest
decreases-loop-rest l = length l.left
