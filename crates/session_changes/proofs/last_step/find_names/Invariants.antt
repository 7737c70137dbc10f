use Rattle.std.proofs.Common.{◌≡◌, ◌++◌, length}
use Rattle.session_changes.specs.inside.NamedPairs.{pairs_of}
use Rattle.session_changes.specs.inside.Told.{those, AllAs, HaveSlots, IsNamed}
use Rattle.session_changes.proofs.last_step.find_names.Given as goal

-- what was found, and then the entries that are left, are the log
abbrev pub invariant-loop-held : goal.invariant-loop-held
invariant-loop-held l = record {
  log : those (pairs_of l.found.items) ++ l.rest ≡ l.log;
  names : AllAs (IsNamed l.store) (pairs_of l.found.items);
  slots : HaveSlots l.store l.rest;
}

abbrev pub decreases-loop-held : goal.decreases-loop-held
decreases-loop-held l = length l.rest
