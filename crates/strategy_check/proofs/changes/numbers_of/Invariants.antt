use Rattle.std.proofs.Common.{◌≡◌, ◌++◌, map, drop}
use Rattle.strategy_check.specs.inside.Changing.{number_in}
use Rattle.strategy_check.proofs.changes.numbers_of.Given as goal

-- the numbers so far and those of the rest are all
abbrev pub invariant-loop-key : goal.invariant-loop-key
invariant-loop-key l =
    l.numbers.items ++ map (number_in l.after) (drop l.key-index l.keys) ≡ map (number_in l.after) l.keys
