-- The primitives that look through annotations, those of subterms too.
use Rattle.std.specs.Prelude.{List, [], Some, None, if◌then◌else◌, option_and_then}
use Rattle.std.specs.declared.option.Option.{Option}
use Rattle.term_core.specs.Tree.{Tree, Trees, integer, branch, none, more, tuple_term}
use Rattle.prim_core.specs.Values.{one, two}
use Rattle.strategy_meaning.specs.Same.{same_tree}

-- the term without its annotations and those of its subterms
abbrev mutual
  pub stripped : Tree → Tree
  stripped (integer z notes) = integer z none
  stripped (branch head kids notes) = branch head (all_stripped kids) none

  pub all_stripped : Trees → Trees
  all_stripped none = none
  all_stripped (more t ts) = more (stripped t) (all_stripped ts)

abbrev pub stripped_of : List Tree → Option Tree
stripped_of arguments = one (λ t. Some (stripped t)) arguments

-- the empty tuple if two terms are equal but for annotations
abbrev pub equal_of : List Tree → Option Tree
equal_of arguments =
    option_and_then (λ p. if (same_tree (stripped p.0) (stripped p.1))
    then Some (tuple_term []) else None) (two Some arguments)
