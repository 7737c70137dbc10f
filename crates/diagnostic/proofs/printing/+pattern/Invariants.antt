use Rattle.std.proofs.Common.{◌+◌, ◌*◌, ◌≡◌}
use Rattle.diagnostic.proofs.printing.+pattern.Given as goal

abbrev pub decreases-add_pattern : goal.decreases-add_pattern
decreases-add_pattern l = 2 * l.deep

abbrev pub decreases-add_patterns : goal.decreases-add_patterns
decreases-add_patterns l = 2 * l.deep + 1

abbrev pub invariant-add_patterns-loop-pattern : goal.invariant-add_patterns-loop-pattern
invariant-add_patterns-loop-pattern l =
    (l.text.severity ≡ l.initial.text.severity) × (l.text.code ≡ l.initial.text.code)
