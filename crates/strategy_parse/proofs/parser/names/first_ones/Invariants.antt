use Rattle.std.proofs.Common.{◌++◌, take}
use Rattle.std.specs.HashSet.{contains}
use Rattle.strategy_parse.proofs.NameLemmas.{Kept, Saw, same_referred}
use Rattle.strategy_parse.proofs.parser.names.first_ones.Given as goal

-- the set holds the others so far
abbrev pub invariant-loop-other : goal.invariant-loop-other
invariant-loop-other l = Saw (contains same_referred l.seen) (take l.other-index l.others)

-- the set holds the others and the names kept
abbrev pub invariant-loop-name : goal.invariant-loop-name
invariant-loop-name l =
    Saw (contains same_referred l.seen) (l.others ++ l.kept) × Kept l.others l.kept l.names l.name-index
