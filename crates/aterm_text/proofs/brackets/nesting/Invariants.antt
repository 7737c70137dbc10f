use Rattle.std.proofs.Common.{◌≡◌, ◌≤◌, max, drop}
use Rattle.aterm_text.specs.Nesting.{nesting, greatest_open}
use Rattle.aterm_text.proofs.NestingLemmas.{counted}
use Rattle.aterm_text.proofs.brackets.nesting.Given as goal

abbrev pub invariant-loop-byte : goal.invariant-loop-byte
invariant-loop-byte l = record {
  few : l.depth ≤ l.byte-index;
  below : l.depth ≤ l.greatest;
  same : nesting l.text ≡ max l.greatest (greatest_open l.depth (counted l.place (drop l.byte-index l.text)));
}
