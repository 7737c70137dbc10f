use Rattle.std.proofs.Common.{◌≡◌, length, take, drop}
use Rattle.std.specs.List.{AllZip}
use Rattle.term_sorts.specs.inside.Gaining.{Gains}
use Rattle.term_sorts.proofs.injecting.gain_all.Given as goal

abbrev pub invariant-loop-i : goal.invariant-loop-i
invariant-loop-i l = record {
  long : length l.rows.items ≡ length l.initial.rows.items;
  done : AllZip (Gains l.to l.gained) (take l.i l.initial.rows.items) (take l.i l.rows.items);
  rest : drop l.i l.rows.items ≡ drop l.i l.initial.rows.items;
}
