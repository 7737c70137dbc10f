use Rattle.std.proofs.Common.{◌≡◌, ◌<◌, drop}
use Rattle.strategy_syntax.specs.Apart.{text_class}
use Rattle.strategy_syntax.proofs.classes.class_of_name.Given as goal

-- the bytes to come lead from the class so far to that of all
abbrev pub invariant-loop-b : goal.invariant-loop-b
invariant-loop-b l = record {
  small : l.class < 64;
  same : text_class l.class (drop l.b-index l.bytes) ≡ text_class 0 l.bytes;
}
