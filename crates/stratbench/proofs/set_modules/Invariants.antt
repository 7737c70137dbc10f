use Rattle.std.proofs.Common.{drop}
use Rattle.session_history.specs.History.{History}
use Rattle.command_line.specs.Line.{modules_of}
use Rattle.stratbench.specs.Files.{SetsAll}
use Rattle.stratbench.proofs.set_modules.Given as goal

-- whatever the modules that are left lead to, all of them lead to from the start
abbrev pub invariant-loop-load : goal.invariant-loop-load
invariant-loop-load g l =
    (h : History) → SetsAll (modules_of (drop l.load-index l.load-items)) l.session h
    → SetsAll (modules_of l.load-items) l.initial.session h
