use Rattle.std.proofs.Common.{◌≡◌, ◌+◌, ◌*◌, drop}
use Rattle.strategy_syntax.specs.Syntax.{patterns_of}
use Rattle.strategy_syntax.specs.inside.PatternDepth.{pattern_depth, patterns_depth}
use Rattle.strategy_check.specs.inside.Mentioned.{mentioned_in_patterns}
use Rattle.strategy_check.proofs.mentions.+pattern.Given as goal

abbrev pub decreases-mention_in_pattern : goal.decreases-mention_in_pattern
decreases-mention_in_pattern l = 2 * pattern_depth l.pattern.now

abbrev pub decreases-mention_in_patterns : goal.decreases-mention_in_patterns
decreases-mention_in_patterns l = 2 * patterns_depth (patterns_of l.patterns.now) + 1

-- the rest gives what the whole gave
abbrev pub invariant-mention_in_patterns-loop-pattern : goal.invariant-mention_in_patterns-loop-pattern
invariant-mention_in_patterns-loop-pattern l =
    mentioned_in_patterns l.mentioned (patterns_of (drop l.pattern-index l.patterns))
    ≡ mentioned_in_patterns l.fn.mentioned (patterns_of l.patterns)
