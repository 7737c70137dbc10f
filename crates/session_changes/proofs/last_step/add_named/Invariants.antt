use Rattle.std.proofs.Common.{drop, option_copied}
use Rattle.std.specs.List.{flat_map}
use Rattle.session_changes.specs.inside.Lined.{AddsLines}
use Rattle.session_changes.specs.inside.NamedPairs.{pairs_of}
use Rattle.session_changes.specs.inside.Told.{asked_lines}
use Rattle.session_changes.specs.declared.lines.CountedLines.{CountedLines}
use Rattle.session_changes.proofs.last_step.add_named.Given as goal

-- what was added, and then the lines of the other entries, comes to all lines
abbrev pub invariant-loop-it : goal.invariant-loop-it
invariant-loop-it l =
    (c : CountedLines)
    → AddsLines (flat_map (asked_lines (option_copied l.name) l.store) (pairs_of (drop l.it-index l.entries))) l.lines c
    → AddsLines (flat_map (asked_lines (option_copied l.name) l.store) (pairs_of l.entries)) l.initial.lines c
