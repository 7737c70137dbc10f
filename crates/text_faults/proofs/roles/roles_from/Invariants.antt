use Rattle.std.proofs.Common.{◌≡◌}
use Rattle.std.specs.Prelude.{vec_len}
use Rattle.text_faults.proofs.roles.roles_from.Given as goal

-- a role for each token so far
abbrev pub invariant-loop-token : goal.invariant-loop-token
invariant-loop-token l = vec_len l.roles ≡ l.token-index
