-- The primitives that search strings, split and join them, give their characters, and change the case of
-- their letters. They give nothing if an argument is of another kind.
use Rattle.std.specs.Prelude.{◌≡◌, ℕ, zero, suc, pos, ◌-◌, ◌<◌, ◌&&◌, nat_le, Bool, false, List, [], ◌∷◌, length, take, map, Some, None, if◌then◌else◌, option_and_then}
use Rattle.std.specs.declared.option.Option.{Option}
use Rattle.std.specs.List.{join_by, onto_first}
use Rattle.std.specs.Option.{option_map}
use Rattle.std.specs.Str.{bytes_eq, str_to_ascii_lowercase, str_to_ascii_uppercase}
use Rattle.term_core.specs.Tree.{Tree, list_term}
use Rattle.prim_core.specs.Values.{integer_in_range, string_term, string_value, one, two}
use Rattle.prim_extended.specs.Bytes.{each, list_value, string_in_range}

-- ---- search

abbrev pub begins : List ℕ → List ℕ → Bool
begins part text = bytes_eq (take (length part) text) part

-- the number of bytes before the first place where a text has this part
abbrev pub found : List ℕ → List ℕ → Option ℕ
found part [] = if begins part [] then Some 0 else None
found part (b ∷ bs) = if begins part (b ∷ bs) then Some 0 else option_map suc (found part bs)

abbrev pub found_of : List Tree → Option Tree
found_of arguments = option_and_then (λ p. option_and_then (λ n. integer_in_range (pos n))
    (found p.1 p.0)) (two string_value arguments)

-- ---- parts

-- The parts of a text between the separators in it, from left to right. The first n bytes are passed
-- over: they belong to a separator that was found before.
abbrev pub parts : List ℕ → ℕ → List ℕ → List (List ℕ)
parts separator n [] = [] ∷ []
parts separator (suc n) (b ∷ bs) = parts separator n bs
parts separator zero (b ∷ bs) =
    if begins separator (b ∷ bs) then [] ∷ parts separator (length separator - 1) bs
    else onto_first b (parts separator 0 bs)

-- nothing if the separator is empty
abbrev pub split : List ℕ → List ℕ → Option Tree
split text [] = None
split text (b ∷ bs) = Some (list_term (map string_term (parts (b ∷ bs) 0 text)))

abbrev pub split_of : List Tree → Option Tree
split_of arguments = option_and_then (λ p. split p.0 p.1) (two string_value arguments)

-- the bytes of all these strings, with a separator between them
abbrev pub joined_texts : List ℕ → List Tree → Option (List ℕ)
joined_texts separator ts = option_map (join_by (λ text. text) separator) (each string_value ts)

-- nothing if that is longer than 65,536 bytes
abbrev pub joined_string : List ℕ → List Tree → Option Tree
joined_string separator ts = option_and_then string_in_range (joined_texts separator ts)

abbrev pub texts_joined_of : List Tree → Option Tree
texts_joined_of (a ∷ b ∷ []) =
    option_and_then (λ separator. option_and_then (joined_string separator) (list_value a)) (string_value b)
texts_joined_of arguments = None

-- The parts, joined again, are the text.
abbrev pub PartsMakeTheText : Type 0
PartsMakeTheText = (separator text : List ℕ) → 0 < length separator
    → join_by (λ part. part) separator (parts separator 0 text) ≡ text

-- ---- characters

-- whether a byte goes on with a character of UTF-8
abbrev pub goes_on : ℕ → Bool
goes_on b = nat_le 128 b && nat_le b 191

abbrev pub first_goes_on : List ℕ → Bool
first_goes_on [] = false
first_goes_on (b ∷ bs) = goes_on b

-- The characters of a text in UTF-8, each as its bytes. One begins at each byte, but for those that go on
-- with the one before.
abbrev pub characters : List ℕ → List (List ℕ)
characters [] = []
characters (b ∷ bs) =
    if first_goes_on bs then onto_first b (characters bs)
    else (b ∷ []) ∷ characters bs

abbrev pub characters_of : List Tree → Option Tree
characters_of arguments =
    option_map (λ text. list_term (map string_term (characters text))) (one string_value arguments)

-- The characters, joined again with nothing between them, are the text.
abbrev pub CharactersMakeTheText : Type 0
CharactersMakeTheText = (text : List ℕ) → join_by (λ character. character) [] (characters text) ≡ text

-- ---- letters

-- the ASCII letters in upper case, and in lower case
abbrev pub in_upper_case_of : List Tree → Option Tree
in_upper_case_of arguments =
    option_map (λ text. string_term (str_to_ascii_uppercase text)) (one string_value arguments)

abbrev pub in_lower_case_of : List Tree → Option Tree
in_lower_case_of arguments =
    option_map (λ text. string_term (str_to_ascii_lowercase text)) (one string_value arguments)
