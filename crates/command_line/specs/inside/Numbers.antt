-- Numbers that options spell.
use Rattle.std.specs.Prelude.{◌≤◌, ℕ}
use Rattle.std.specs.Str.Parse.{IsNumeral, digits_value, without_leading_plus}
use Rattle.clap.specs.Words.{Text}

-- one digit or more, after a `+` or without, spell a number in this range
abbrev pub Spells : ℕ → ℕ → Text → Type 0
Spells least most text =
    let digits = without_leading_plus text in
    IsNumeral 10 digits × (least ≤ digits_value 10 digits) × (digits_value 10 digits ≤ most)
