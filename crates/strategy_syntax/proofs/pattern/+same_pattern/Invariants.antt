use Rattle.std.proofs.Common.{◌≡◌, ◌+◌, ◌*◌, take, length}
use Rattle.strategy_syntax.specs.Syntax.{patterns_of}
use Rattle.strategy_syntax.specs.inside.PatternDepth.{pattern_depth, patterns_depth}
use Rattle.strategy_syntax.proofs.pattern.+same_pattern.Given as goal

abbrev pub decreases-Pattern::equals : goal.decreases-Pattern::equals
decreases-Pattern::equals l = 2 * pattern_depth l.self.now

abbrev pub decreases-same_patterns : goal.decreases-same_patterns
decreases-same_patterns l = 2 * patterns_depth (patterns_of l.patterns.now) + 1

abbrev pub invariant-same_patterns-loop-pattern : goal.invariant-same_patterns-loop-pattern
invariant-same_patterns-loop-pattern l = take (length l.yielded) l.patterns ≡ take (length l.yielded) l.others
