-- The primitive for remainders of integers. It gives nothing if an argument is no integer.
use Rattle.std.specs.Prelude.{pos, int_rem, List, Some, None, if◌then◌else◌}
use Rattle.std.specs.declared.option.Option.{Option}
use Rattle.std.specs.Ordering.{int_eq}
use Rattle.term_core.specs.Tree.{Tree, integer_term}
use Rattle.prim_core.specs.Integers.{on_integers}

-- what is left of a if a / b, truncated towards zero, is taken b times from it; nothing if b is 0
abbrev pub remainder_of : List Tree → Option Tree
remainder_of = on_integers (λ a b. if (int_eq b (pos 0)) then None else Some (integer_term (int_rem a b)))
