use Rattle.std.proofs.Common.{◌≡◌, ◌+◌, ◌*◌, take}
use Rattle.strategy_syntax.specs.Syntax.{patterns_of}
use Rattle.strategy_syntax.specs.Resolved.{resolved_patterns_of}
use Rattle.strategy_syntax.specs.inside.PatternDepth.{pattern_depth, patterns_depth}
use Rattle.strategy_check.specs.Resolving.{resolved_patterns}
use Rattle.strategy_check.proofs.resolved_patterns.+pattern.Given as goal

abbrev pub decreases-resolve_pattern : goal.decreases-resolve_pattern
decreases-resolve_pattern l = 2 * pattern_depth l.pattern.now

abbrev pub decreases-resolve_patterns : goal.decreases-resolve_patterns
decreases-resolve_patterns l = 2 * patterns_depth (patterns_of l.patterns.now) + 1

abbrev pub invariant-resolve_patterns-loop-pattern : goal.invariant-resolve_patterns-loop-pattern
invariant-resolve_patterns-loop-pattern l =
    resolved_patterns_of l.resolved.items
    ≡ resolved_patterns l.scope.variables (patterns_of (take l.pattern-index l.patterns))
