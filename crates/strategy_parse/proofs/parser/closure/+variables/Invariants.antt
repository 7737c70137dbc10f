use Rattle.std.proofs.Common.{◌≡◌, ◌++◌, ◌+◌, ◌*◌, take}
use Rattle.strategy_syntax.specs.Variables.{variables_of_all}
use Rattle.strategy_syntax.specs.Syntax.{patterns_of}
use Rattle.strategy_syntax.specs.inside.PatternDepth.{pattern_depth, patterns_depth}
use Rattle.strategy_parse.proofs.parser.closure.+variables.Given as goal

abbrev pub decreases-add_variables : goal.decreases-add_variables
decreases-add_variables l = 2 * pattern_depth l.pattern.now

abbrev pub decreases-add_all : goal.decreases-add_all
decreases-add_all l = 2 * patterns_depth (patterns_of l.patterns.now) + 1

abbrev pub invariant-add_all-loop-pattern : goal.invariant-add_all-loop-pattern
invariant-add_all-loop-pattern l =
    l.more ≡ l.fn.names ++ variables_of_all (patterns_of (take l.pattern-index l.patterns))
