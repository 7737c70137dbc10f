-- The standard primitives on integers. They give nothing if the result is out of the range of
-- `i64`, or if an argument is no integer.
use Rattle.std.specs.Prelude.{ℤ, pos, ◌+ℤ◌, ◌-ℤ◌, ◌*ℤ◌, int_div, int_lt, List, [], ◌∷◌, Some, None, if◌then◌else◌, option_and_then}
use Rattle.std.specs.declared.option.Option.{Option}
use Rattle.std.specs.Ordering.{int_eq}
use Rattle.term_core.specs.Tree.{Tree, integer_term, tuple_term}
use Rattle.prim_core.specs.Values.{integer_in_range, integer_value, two}

abbrev pub on_integers : (ℤ → ℤ → Option Tree) → List Tree → Option Tree
on_integers f arguments = option_and_then (λ p. f p.0 p.1) (two integer_value arguments)

-- a + b
abbrev pub sum_of : List Tree → Option Tree
sum_of = on_integers (λ a b. integer_in_range (a +ℤ b))

-- a - b
abbrev pub difference_of : List Tree → Option Tree
difference_of = on_integers (λ a b. integer_in_range (a -ℤ b))

-- a * b
abbrev pub product_of : List Tree → Option Tree
product_of = on_integers (λ a b. integer_in_range (a *ℤ b))

-- a / b, truncated towards zero; nothing if b is 0
abbrev pub quotient_of : List Tree → Option Tree
quotient_of =
    on_integers (λ a b. if (int_eq b (pos 0)) then None else integer_in_range (int_div a b))

-- the tuple (a,b) if a > b
abbrev pub greater_of : List Tree → Option Tree
greater_of =
    on_integers (λ a b. if (int_lt b a)
    then Some (tuple_term (integer_term a ∷ (integer_term b ∷ []))) else None)
