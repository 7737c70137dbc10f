use Rattle.std.specs.Prelude.{IfSome}
use Rattle.text_faults.specs.Places.{HasByte}
use Rattle.text_faults.specs.inside.ReadStrings.{KeepsEscape}
use Rattle.text_faults.proofs.tokens.bad_string.Given as goal

-- the escape that is read and the first wrong one began with a backslash
abbrev pub invariant-loop-at : goal.invariant-loop-at
invariant-loop-at l = KeepsEscape l.place l.token × IfSome l.wrong (λ n. HasByte l.token n 92)
