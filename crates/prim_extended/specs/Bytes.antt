-- The primitives that take strings apart, put them together and compare them. They give nothing if
-- an argument is of another kind.
use Rattle.std.specs.Prelude.{ℕ, ℤ, pos, negsuc, nat_le, List, [], ◌∷◌, length, map, Some, None, if◌then◌else◌, option_and_then}
use Rattle.std.specs.declared.option.Option.{Option}
use Rattle.std.specs.Cmp.Lexicographic.{slice_cmp}
use Rattle.std.specs.Option.{option_map}
use Rattle.std.specs.Ordering.{is_gt, nat_cmp}
use Rattle.term_core.specs.Tree.{application, list, tuple, Tree, integer, branch, to_list, integer_term, list_term, tuple_term}
use Rattle.prim_core.specs.Values.{string_term, integer_value, string_value, one, two}

-- the elements of a list
abbrev pub list_value : Tree → Option (List Tree)
list_value (integer z notes) = None
list_value (branch (application name) kids notes) = None
list_value (branch list kids notes) = Some (to_list kids)
list_value (branch tuple kids notes) = None

-- the byte that an integer from 0 to 255 is
abbrev pub byte_of : ℤ → Option ℕ
byte_of (pos n) = if (nat_le n 255) then Some n else None
byte_of (negsuc n) = None

abbrev pub byte_value : Tree → Option ℕ
byte_value t = option_and_then byte_of (integer_value t)

-- the values of all terms, if each has one
abbrev pub each : {X : Type 0} → (Tree → Option X) → List Tree → Option (List X)
each value [] = Some []
each value (t ∷ ts) =
    option_and_then (λ x. option_map (λ xs. x ∷ xs) (each value ts)) (value t)

abbrev pub byte_term : ℕ → Tree
byte_term b = integer_term (pos b)

-- the list of the bytes of a string
abbrev pub exploded_of : List Tree → Option Tree
exploded_of arguments =
    option_map (λ bytes. list_term (map byte_term bytes)) (one string_value arguments)

-- the string of these bytes; nothing if that is longer than 65,536 bytes
abbrev pub string_in_range : List ℕ → Option Tree
string_in_range bytes = if (nat_le (length bytes) 65536) then Some (string_term bytes) else None

-- the string whose bytes a list has
abbrev pub imploded_of : List Tree → Option Tree
imploded_of arguments = option_and_then string_in_range
    (option_and_then (each byte_value) (one list_value arguments))

-- the tuple (a,b) if the string a comes after the string b: where they differ first, a has the
-- greater byte, or b ends there
abbrev pub later_of : List Tree → Option Tree
later_of arguments =
    option_and_then (λ p. if (is_gt (slice_cmp nat_cmp p.0 p.1))
    then Some (tuple_term (string_term p.0 ∷ (string_term p.1 ∷ []))) else None)
    (two string_value arguments)
