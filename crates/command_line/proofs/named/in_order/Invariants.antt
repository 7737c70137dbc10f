use Rattle.std.proofs.Common.{◌≡◌, ◌≤◌, ◌+◌, ◌-◌, true, map, take, length}
use Rattle.std.specs.List.{list_all}
use Rattle.command_line.specs.Line.{as_given, is_named, modules_of, trees_of}
use Rattle.command_line.proofs.NamedLemmas.{texts}
use Rattle.command_line.proofs.named.in_order.Given as goal

-- the values that are left
abbrev pub decreases-loop-next_module : goal.decreases-loop-next_module
decreases-loop-next_module l = (length l.modules + length l.trees) - (l.next_module + l.next_tree)

-- the values so far are read
abbrev pub invariant-loop-next_module : goal.invariant-loop-next_module
invariant-loop-next_module l =
    (l.next_module ≤ length l.modules) × (l.next_tree ≤ length l.trees)
    × (map as_given (modules_of l.loads.items) ≡ texts (take l.next_module l.modules))
    × (map as_given (trees_of l.loads.items) ≡ texts (take l.next_tree l.trees))
    × (list_all is_named (texts (take l.next_module l.modules)) ≡ true)
    × (list_all is_named (texts (take l.next_tree l.trees)) ≡ true)
