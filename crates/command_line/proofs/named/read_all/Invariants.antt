use Rattle.std.proofs.Common.{◌≡◌, true, map, take}
use Rattle.std.specs.List.{list_all}
use Rattle.command_line.specs.Line.{as_given, is_named}
use Rattle.command_line.proofs.NamedLemmas.{texts}
use Rattle.command_line.proofs.named.read_all.Given as goal

-- the values so far are read
abbrev pub invariant-loop-value : goal.invariant-loop-value
invariant-loop-value l =
    (map as_given l.all.items ≡ texts (take l.value-index l.values))
    × (list_all is_named (texts (take l.value-index l.values)) ≡ true)
