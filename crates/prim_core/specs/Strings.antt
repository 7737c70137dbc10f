-- The standard primitives on strings, and between strings and integers. They give nothing if an
-- argument is of another kind.
use Rattle.std.specs.Prelude.{ℕ, ℤ, pos, neg_ℤ, ◌++◌, ◌==◌, nat_le, List, [], ◌∷◌, length, Some, None, if◌then◌else◌, option_and_then}
use Rattle.std.specs.declared.option.Option.{Option}
use Rattle.std.specs.Option.{option_map}
use Rattle.std.specs.Str.{all_ascii_digits}
use Rattle.std.specs.Fmt.{signed_decimal}
use Rattle.std.specs.Str.Parse.{digits_value}
use Rattle.term_core.specs.Tree.{Tree}
use Rattle.prim_core.specs.Values.{integer_in_range, string_term, integer_value, string_value, one, two}

-- the first string followed by the second; nothing if that is longer than 65,536 bytes
abbrev pub joined_of : List Tree → Option Tree
joined_of arguments =
    option_and_then (λ p. if (nat_le (length (p.0 ++ p.1)) 65536)
    then Some (string_term (p.0 ++ p.1)) else None) (two string_value arguments)

-- the number of bytes of a string
abbrev pub length_of : List Tree → Option Tree
length_of arguments =
    option_and_then (λ bytes. integer_in_range (pos (length bytes))) (one string_value arguments)

-- the printed text of an integer, as a string
abbrev pub printed_of : List Tree → Option Tree
printed_of arguments =
    option_map (λ z. string_term (signed_decimal z)) (one integer_value arguments)

-- the number that these bytes spell, if they are decimal digits, at least one
abbrev pub number_of : List ℕ → Option ℕ
number_of [] = None
number_of (b ∷ bs) =
    if (all_ascii_digits (b ∷ bs)) then Some (digits_value 10 (b ∷ bs)) else None

-- the integer that these bytes spell: an optional `-` (45) followed by digits, and nothing else
abbrev pub integer_of : List ℕ → Option ℤ
integer_of [] = None
integer_of (b ∷ bs) =
    if (b == 45) then option_map (λ n. neg_ℤ (pos n)) (number_of bs)
    else option_map pos (number_of (b ∷ bs))

-- the integer that a string spells; nothing if it is out of the range of `i64`
abbrev pub read_of : List Tree → Option Tree
read_of arguments =
    option_and_then integer_in_range (option_and_then integer_of (one string_value arguments))
