-- How deep the brackets of a text are nested.
use Rattle.std.specs.Prelude.{ℕ, ◌+◌, ◌-◌, ◌==◌, ◌||◌, max, List, [], ◌∷◌, if◌then◌else◌}
use Rattle.aterm_text.specs.Signs.{quote, backslash, open_round, close_round, open_square, close_square, open_curly, close_curly}

-- The text without its quoted parts. A backslash there escapes the next byte, and a quote that
-- isn't closed extends to the end.
abbrev mutual
  pub outside_quotes : List ℕ → List ℕ
  outside_quotes [] = []
  outside_quotes (b ∷ bs) = if b == quote then inside_quotes bs else b ∷ outside_quotes bs

  pub inside_quotes : List ℕ → List ℕ
  inside_quotes [] = []
  inside_quotes (b ∷ bs) =
      if b == quote then outside_quotes bs else
      if b == backslash then after_backslash bs else inside_quotes bs

  pub after_backslash : List ℕ → List ℕ
  after_backslash [] = []
  after_backslash (b ∷ bs) = inside_quotes bs

-- the number of open brackets after this byte, if n are open before it: a closing one, of any kind,
-- closes one if one is open
abbrev pub open_after : ℕ → ℕ → ℕ
open_after b n =
    if b == open_round || b == open_square || b == open_curly then n + 1 else
    if b == close_round || b == close_square || b == close_curly then n - 1 else n

-- the greatest number of brackets open at one place, if n are open before the text
abbrev pub greatest_open : ℕ → List ℕ → ℕ
greatest_open n [] = n
greatest_open n (b ∷ bs) = max n (greatest_open (open_after b n) bs)

abbrev pub nesting : List ℕ → ℕ
nesting x = greatest_open 0 (outside_quotes x)
