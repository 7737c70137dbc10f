use Rattle.std.proofs.Common.{◌<◌}
use Rattle.std.specs.Prelude.{All}
use Rattle.text_faults.proofs.open.innermost_open.Given as goal

-- each open form began before this token
abbrev pub invariant-loop-number : goal.invariant-loop-number
invariant-loop-number l = All (λ o. o.token < l.number) l.forms.items
