use Rattle.std.proofs.Common.{◌≡◌, ◌+◌, ◌≤◌, ◌++◌, replicate, vec_len, vec_capacity, None}
use Rattle.term_match.proofs.cells.add_empty.Given as goal

abbrev pub invariant-loop : goal.invariant-loop
invariant-loop l = record {
  filled : l.cells.items ≡ l.initial.cells.items ++ replicate l.counter None;
  within : l.counter ≤ l.count;
  room : vec_len l.initial.cells + l.count ≤ vec_capacity l.cells;
}
