use Rattle.std.proofs.Common.{◌≡◌, ◌++◌, ◌∷◌, drop}
use Rattle.std.specs.List.{flat_map}
use Rattle.script_core.proofs.buffer.Answer.write_names.Given as goal

-- the names written so far, followed by those still to come, are the whole line
abbrev pub invariant-loop-name : goal.invariant-loop-name
invariant-loop-name l = l.initial.self ++ flat_map (λ name. 32 ∷ name) l.names
    ≡ l.self ++ flat_map (λ name. 32 ∷ name) (drop l.name-index l.names)
