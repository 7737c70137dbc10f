-- What the names of a host mean: `pick` picks one of three words, every other name has no answer.
use Rattle.std.specs.Prelude.{ℕ, ℤ, pos, List, [], ◌∷◌, Some, None, false, if◌then◌else◌, option_and_then, codes}
use Rattle.std.specs.declared.option.Option.{Option}
use Rattle.std.specs.Ordering.{int_eq}
use Rattle.std.specs.Str.{bytes_eq}
use Rattle.term_core.specs.Tree.{Tree, application_term}
use Rattle.prim_core.specs.Values.{integer_value, one}

-- the word with these bytes, applied to nothing
abbrev pub constant : List ℕ → Tree
constant text = application_term (record { text = text; is_quoted = false }) []

-- the terms to pick from
abbrev pub choices : List Tree
choices = constant (codes "a") ∷ (constant (codes "b") ∷ (constant (codes "c") ∷ []))

-- `a`, `b` or `c` for 0, 1 or 2, and nothing for any other integer
abbrev pub picked : ℤ → Option Tree
picked z =
    if (int_eq z (pos 0)) then Some (constant (codes "a")) else
    if (int_eq z (pos 1)) then Some (constant (codes "b")) else
    if (int_eq z (pos 2)) then Some (constant (codes "c")) else
    None

abbrev pub pick : List ℕ → List Tree → Option Tree
pick name arguments =
    if (bytes_eq name (codes "pick")) then option_and_then picked (one integer_value arguments)
    else None
