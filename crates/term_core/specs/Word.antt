-- Words, quoted names and labels of the textual ATerm format, as lists of bytes.
use Rattle.std.specs.Prelude.{ℕ, Bool, false, List, [], ◌∷◌, ◌||◌, ◌&&◌, ◌==◌, length, take, drop, nat_le, Some, None, if◌then◌else◌}
use Rattle.std.specs.declared.option.Option.{Option}
use Rattle.term_core.specs.declared.label.TheConstants.{MAX_LABEL}
use Rattle.std.specs.Char.{is_ascii_alphabetic, is_ascii_alphanumeric}
use Rattle.std.specs.List.{list_all, prefix_len}

-- A word begins with an ASCII letter or `_`.
abbrev pub begins_word : ℕ → Bool
begins_word b = is_ascii_alphabetic b || b == 95

-- It continues with letters, digits and the bytes `_ - + * $ . '`.
abbrev pub continues_word : ℕ → Bool
continues_word b =
    is_ascii_alphanumeric b || b == 95 || b == 45 || b == 43 || b == 42 || b == 36 ||
    b == 46 || b == 39

-- whether these bytes are a word
abbrev pub is_word : List ℕ → Bool
is_word [] = false
is_word (b ∷ bs) = begins_word b && list_all continues_word bs

-- the longest word that a text begins with, and the rest
abbrev pub first_word : List ℕ → Option (List ℕ × List ℕ)
first_word [] = None
first_word (b ∷ bs) =
    let n = prefix_len continues_word bs in
    if begins_word b then Some (b ∷ take n bs, drop n bs) else None

-- A label is a word of at most 64 bytes: this text, if it is one.
abbrev pub label_of : List ℕ → Option (List ℕ)
label_of text = if is_word text && nat_le (length text) MAX_LABEL then Some text else None
