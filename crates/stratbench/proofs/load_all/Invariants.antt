use Rattle.std.proofs.Common.{drop, false}
use Rattle.session_history.specs.History.{History}
use Rattle.command_line.specs.Line.{modules_of}
use Rattle.stratbench.specs.Files.{LoadsRest}
use Rattle.stratbench.proofs.load_all.Given as goal

-- whatever the files that are left lead to, all of them lead to from the start
abbrev pub invariant-loop-load : goal.invariant-loop-load
invariant-loop-load g l =
    (h : History) → LoadsRest (modules_of l.load-items) l.done (drop l.load-index l.load-items) l.session h
    → LoadsRest (modules_of l.load-items) false l.load-items l.initial.session h
