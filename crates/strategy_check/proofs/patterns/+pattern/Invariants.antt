use Rattle.std.proofs.Common.{◌≡◌, ◌+◌, ◌*◌, drop}
use Rattle.strategy_syntax.specs.Syntax.{patterns_of}
use Rattle.strategy_syntax.specs.inside.PatternDepth.{pattern_depth, patterns_depth}
use Rattle.strategy_check.specs.Faults.{faults_of_patterns}
use Rattle.strategy_check.specs.inside.PatternUses.{is_built}
use Rattle.strategy_check.specs.inside.FaultLists.{with_faults}
use Rattle.strategy_check.proofs.patterns.+pattern.Given as goal

abbrev pub decreases-check_pattern : goal.decreases-check_pattern
decreases-check_pattern l = 2 * pattern_depth l.pattern.now

abbrev pub decreases-check_patterns : goal.decreases-check_patterns
decreases-check_patterns l = 2 * patterns_depth (patterns_of l.patterns.now) + 1

-- the faults of the rest make those of the whole
abbrev pub invariant-check_patterns-loop-pattern : goal.invariant-check_patterns-loop-pattern
invariant-check_patterns-loop-pattern l =
    with_faults l.faults (faults_of_patterns l.table (is_built l.used) (patterns_of (drop l.pattern-index l.patterns)))
    ≡ with_faults l.fn.faults (faults_of_patterns l.table (is_built l.used) (patterns_of l.patterns))
