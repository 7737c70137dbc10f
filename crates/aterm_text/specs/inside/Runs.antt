-- Runs of bytes between quotes.
use Rattle.std.specs.Prelude.{ℕ, ◌==◌, ◌&&◌, Bool, not}
use Rattle.aterm_text.specs.Signs.{quote, backslash}

-- a byte that stands for itself between quotes
abbrev pub is_plain : ℕ → Bool
is_plain b = not (b == quote) && not (b == backslash)
