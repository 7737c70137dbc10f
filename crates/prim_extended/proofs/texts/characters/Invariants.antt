use Rattle.std.proofs.Common.{◌≡◌, ◌++◌, length, map}
use Rattle.prim_core.specs.Values.{string_term}
use Rattle.prim_extended.specs.StringPrimitives.{characters}
use Rattle.prim_extended.proofs.texts.characters.Given as goal

-- the characters so far, and those of the text that is left
abbrev pub invariant-loop-after : goal.invariant-loop-after
invariant-loop-after l =
    map string_term (characters l.fn.text) ≡ l.all.items ++ map string_term (characters l.left)

abbrev pub decreases-loop-after : goal.decreases-loop-after
decreases-loop-after l = length l.left
