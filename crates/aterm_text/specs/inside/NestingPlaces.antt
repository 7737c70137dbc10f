-- Places in a text, inside or outside quotes, for the pass that measures its nesting.
use Rattle.std.specs.Prelude.{ℕ, ◌==◌, if◌then◌else◌}
use Rattle.aterm_text.specs.declared.brackets.Quoting.{Quoting}
use Rattle.aterm_text.specs.declared.brackets.Quoting.TheVariants.{OutsideQuotes, InsideQuotes, AfterBackslash}
use Rattle.aterm_text.specs.Signs.{quote, backslash}
use Rattle.aterm_text.specs.Nesting.{open_after}

-- the place after byte b, if b is at p
abbrev pub place_after : Quoting → ℕ → Quoting
place_after OutsideQuotes b = if (b == quote) then InsideQuotes else OutsideQuotes
place_after InsideQuotes b =
    if (b == quote) then OutsideQuotes else if (b == backslash) then AfterBackslash else InsideQuotes
place_after AfterBackslash b = InsideQuotes

-- the number of open brackets after b at p, if n are open before it
abbrev pub depth_after : Quoting → ℕ → ℕ → ℕ
depth_after OutsideQuotes b n = open_after b n
depth_after InsideQuotes b n = n
depth_after AfterBackslash b n = n
