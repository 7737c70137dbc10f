use Rattle.std.proofs.Common.{◌≡◌, ◌+◌, length}
use Rattle.std.specs.List.{slice_get}
use Rattle.strategy_tokens.specs.Places.{places, places_after}
use Rattle.strategy_tokens.proofs.place.token_place.Given as goal

-- what is looked for among all is looked for among those left
abbrev pub invariant-loop-first : goal.invariant-loop-first
invariant-loop-first l = (slice_get (places l.text) l.number ≡ slice_get (places_after l.start 0 l.left) l.before)
    × (l.start + length l.left ≡ length l.text)

abbrev pub decreases-loop-first : goal.decreases-loop-first
decreases-loop-first l = length l.left
