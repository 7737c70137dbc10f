use Rattle.std.proofs.Common.{◌≡◌, ◌+◌, ◌*◌, drop}
use Rattle.strategy_syntax.specs.Syntax.{patterns_of}
use Rattle.strategy_syntax.specs.inside.PatternDepth.{pattern_depth, patterns_depth}
use Rattle.strategy_names.specs.inside.Met.{met_in_patterns}
use Rattle.strategy_names.proofs.free.+pattern.Given as goal

abbrev pub decreases-meet_in_pattern : goal.decreases-meet_in_pattern
decreases-meet_in_pattern l = 2 * pattern_depth l.pattern.now

abbrev pub decreases-meet_in_patterns : goal.decreases-meet_in_patterns
decreases-meet_in_patterns l = 2 * patterns_depth (patterns_of l.patterns.now) + 1

-- the rest gives what the whole gave
abbrev pub invariant-meet_in_patterns-loop-pattern : goal.invariant-meet_in_patterns-loop-pattern
invariant-meet_in_patterns-loop-pattern l =
    met_in_patterns l.hidden l.first l.found (patterns_of (drop l.pattern-index l.patterns))
    ≡ met_in_patterns l.hidden l.first l.fn.found (patterns_of l.patterns)
