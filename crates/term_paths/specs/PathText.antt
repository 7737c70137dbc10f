-- The text of paths: `/` alone is the root, any other is a `/` and a decimal number for each part.
use Rattle.std.specs.Prelude.{ℕ, Bool, not, ◌&&◌, ◌==◌, nat_le, List, [], ◌∷◌, length, Some, None, option_map, option_and_then, if◌then◌else◌}
use Rattle.std.specs.declared.option.Option.{Option}
use Rattle.std.specs.Char.{is_ascii_digit}
use Rattle.std.specs.List.{list_all, slice_split}
use Rattle.std.specs.Str.Parse.{digits_value}

abbrev pub is_slash : ℕ → Bool
is_slash b = b == 47

-- at least one digit, and nothing else
abbrev pub is_numeral : List ℕ → Bool
is_numeral digits = not (length digits == 0) && list_all is_ascii_digit digits

-- The number of a part is at most 4,294,967,295, and may have leading zeros.
abbrev pub part_of : List ℕ → Option ℕ
part_of digits =
    if is_numeral digits && nat_le (digits_value 10 digits) 4294967295
    then Some (digits_value 10 digits) else None

-- the parts that these pieces of a text spell, if each spells one
abbrev pub parts_of : List (List ℕ) → Option (List ℕ)
parts_of [] = Some []
parts_of (piece ∷ pieces) =
    option_and_then (λ part. option_map (λ parts. part ∷ parts) (parts_of pieces)) (part_of piece)

-- the parts after the first slash, separated by slashes, or none
abbrev pub parts_after_slash : List ℕ → Option (List ℕ)
parts_after_slash [] = Some []
parts_after_slash (b ∷ bs) = parts_of (slice_split is_slash (b ∷ bs))

-- the path that the text spells, if it spells one
abbrev pub path_of : List ℕ → Option (List ℕ)
path_of [] = None
path_of (b ∷ bs) = if is_slash b then parts_after_slash bs else None
