use Rattle.std.proofs.Common.{◌≡◌}
use Rattle.session_modules.proofs.ReplacedLemmas.{ArePassed}
use Rattle.session_modules.proofs.checked.place_among.Given as goal

-- the names passed are below
abbrev pub invariant-loop-named : goal.invariant-loop-named
invariant-loop-named l = record {
  count : l.at ≡ l.named-index;
  passed : ArePassed l.name l.modules l.named-index;
}
