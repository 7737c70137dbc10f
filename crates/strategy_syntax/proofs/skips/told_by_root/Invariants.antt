use Rattle.std.proofs.Common.{ℕ, get_or, None}
use Rattle.strategy_syntax.specs.Resolved.{ResolvedStrategy, scope, seq, matches, guard}
use Rattle.strategy_syntax.specs.Apart.{AreApart}
use Rattle.strategy_syntax.proofs.skips.told_by_root.Given as goal

-- each entry so far is right, and the others are 0
abbrev pub invariant-loop-i : goal.invariant-loop-i
invariant-loop-i l = (e n : ℕ) (then second : ResolvedStrategy)
    → AreApart (get_or l.counts e 0) (guard (scope n (seq (matches l.pattern) then)) second l.other) e None
