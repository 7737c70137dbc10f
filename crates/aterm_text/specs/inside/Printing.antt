-- Definitions for the parts of the printer.
use Rattle.std.specs.Prelude.{◌≡◌, ◌<◌, ◌+◌, ℕ, Bool, ◌==◌, ◌&&◌, not, nat_lt, List, ◌++◌, Some, None}
use Rattle.std.specs.declared.option.Option.{Option}
use Rattle.aterm_text.specs.Signs.{quote, backslash}

-- the new list extends the old one
pub record Extends (old new : List ℕ) : Type 0 where
  pub more : List ℕ
  pub is : new ≡ old ++ more

-- this byte needs no escape in a quoted name
abbrev pub is_plain : ℕ → Bool
is_plain b = nat_lt 31 b && nat_lt b 127 && not (b == quote) && not (b == backslash)

-- what a text of this length leaves of some room, if it fits
abbrev pub Leaves : ℕ → ℕ → Option ℕ → Type 0
Leaves room needed None = room < needed
Leaves room needed (Some left) = left + needed ≡ room
