-- The values of arguments and of answers. Annotations of arguments are ignored; answers and their
-- parts have none.
use Rattle.std.specs.Prelude.{ℕ, ℤ, pos, negsuc, ◌-◌, ◌^◌, int_le, Bool, ◌&&◌, List, [], ◌∷◌, Some, None, true, if◌then◌else◌}
use Rattle.std.specs.declared.option.Option.{Option}
use Rattle.term_core.specs.Tree.{application, list, tuple, Tree, integer, branch, none, more, integer_term, application_term}

-- ---- answers

-- from -2^63 to 2^63 - 1
abbrev pub is_i64 : ℤ → Bool
is_i64 z = int_le (negsuc (2 ^ 63 - 1)) z && int_le z (pos (2 ^ 63 - 1))

-- the integer, or nothing if it is out of range
abbrev pub integer_in_range : ℤ → Option Tree
integer_in_range z = if is_i64 z then Some (integer_term z) else None

-- the string of these bytes: their quoted name, applied to nothing
abbrev pub string_term : List ℕ → Tree
string_term bytes = application_term (record { text = bytes; is_quoted = true }) []

-- ---- arguments

-- the value of an integer
abbrev pub integer_value : Tree → Option ℤ
integer_value (integer z notes) = Some z
integer_value (branch head kids notes) = None

-- the bytes of a string
abbrev pub string_value : Tree → Option (List ℕ)
string_value (integer z notes) = None
string_value (branch (application name) none notes) =
    if name.is_quoted then Some name.text else None
string_value (branch (application name) (more t ts) notes) = None
string_value (branch list kids notes) = None
string_value (branch tuple kids notes) = None

-- the value of one argument
abbrev pub one : {X : Type 0} → (Tree → Option X) → List Tree → Option X
one value [] = None
one value (t ∷ []) = value t
one value (t ∷ (u ∷ us)) = None

abbrev pub both : {X : Type 0} → Option X → Option X → Option (X × X)
both None y = None
both (Some x) None = None
both (Some x) (Some y) = Some (x, y)

-- the values of two arguments
abbrev pub two : {X : Type 0} → (Tree → Option X) → List Tree → Option (X × X)
two value [] = None
two value (t ∷ []) = None
two value (t ∷ (u ∷ [])) = both (value t) (value u)
two value (t ∷ (u ∷ (v ∷ us))) = None
