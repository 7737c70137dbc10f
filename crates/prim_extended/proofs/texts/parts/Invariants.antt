use Rattle.std.proofs.Common.{◌≡◌, ◌++◌, length, map}
use Rattle.prim_core.specs.Values.{string_term}
use Rattle.prim_extended.specs.StringPrimitives.{parts}
use Rattle.prim_extended.proofs.texts.parts.Given as goal

-- the parts so far, and those of the text that is left
abbrev pub invariant-loop-place : goal.invariant-loop-place
invariant-loop-place l =
    map string_term (parts l.separator 0 l.fn.text) ≡ l.all.items ++ map string_term (parts l.separator 0 l.left)

abbrev pub decreases-loop-place : goal.decreases-loop-place
decreases-loop-place l = length l.left
