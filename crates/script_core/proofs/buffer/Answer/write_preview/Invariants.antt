use Rattle.std.proofs.Common.{◌≡◌, ◌++◌, length}
use Rattle.std.specs.List.{flat_map}
use Rattle.script_core.specs.inside.PreviewLines.{AreIn, entry_line}
use Rattle.script_core.proofs.buffer.Answer.write_preview.Given as goal

-- the lines written so far, followed by those of the places that are left, are all lines
abbrev pub invariant-loop-path : goal.invariant-loop-path
invariant-loop-path l = record {
  there : AreIn l.tree l.places;
  text : l.initial.self ++ flat_map (entry_line l.tree) l.initial.places
      ≡ l.self ++ flat_map (entry_line l.tree) l.places;
}

abbrev pub decreases-loop-path : goal.decreases-loop-path
decreases-loop-path l = length l.places
