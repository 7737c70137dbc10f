-- The commands of a script.
use Rattle.std.specs.Prelude.{ℕ, Bool, false, not, ◌&&◌, ◌||◌, ◌==◌, nat_lt, ◌-◌, List, [], ◌∷◌, ◌++◌, length, take, drop, map, filter, if◌then◌else◌}
use Rattle.std.specs.List.{slice_split, prefix_len, suffix_len}
use Rattle.script_text.specs.declared.TheConstants.{MAX_COMMAND}
use Rattle.script_text.specs.declared.framing.Framing.{Framing}
use Rattle.script_text.specs.declared.framing.Framing.TheVariants.{Continued, Lines}

abbrev pub is_line_feed : ℕ → Bool
is_line_feed b = b == 10

abbrev pub is_carriage_return : ℕ → Bool
is_carriage_return b = b == 13

-- the bytes without the run of those at their end that pass the test
abbrev pub without_end : (ℕ → Bool) → List ℕ → List ℕ
without_end p bytes = take (length bytes - suffix_len p bytes) bytes

-- The parts of a text between line feeds, and after the last one, each without the run of carriage
-- returns at its end.
abbrev pub pieces : List ℕ → List (List ℕ)
pieces text = map (without_end is_carriage_return) (slice_split is_line_feed text)

-- an empty last part is no line
abbrev pub without_empty_last : List (List ℕ) → List (List ℕ)
without_empty_last [] = []
without_empty_last ([] ∷ []) = []
without_empty_last ((b ∷ bytes) ∷ []) = (b ∷ bytes) ∷ []
without_empty_last (piece ∷ next ∷ pieces) = piece ∷ without_empty_last (next ∷ pieces)

-- a line that begins with `#` is a comment
abbrev pub is_comment : List ℕ → Bool
is_comment [] = false
is_comment (b ∷ bytes) = b == 35

-- the lines of a text, without the comments
abbrev pub lines : List ℕ → List (List ℕ)
lines text = filter (λ line. not (is_comment line)) (without_empty_last (pieces text))

-- A line that is not empty and begins with neither a space nor a tab begins a command. Any other
-- continues the command before it.
abbrev pub begins_command : List ℕ → Bool
begins_command [] = false
begins_command (b ∷ bytes) = not (b == 32) && not (b == 9)

-- Lines, split into commands: the continuation of an earlier command, each of its lines after a
-- line feed, and the commands that they begin.
pub record Cut : Type 0 where
  pub going_on : List ℕ
  pub commands : List (List ℕ)

abbrev pub cut : List (List ℕ) → Cut
cut [] = record { going_on = []; commands = [] }
cut (line ∷ lines) =
    let rest = cut lines in
    if begins_command line
    then record { going_on = []; commands = (line ++ rest.going_on) ∷ rest.commands }
    else record { going_on = 10 ∷ line ++ rest.going_on; commands = rest.commands }

-- ---- a line is a command

-- a line without the blanks at its start: spaces, tabs and carriage returns
abbrev pub is_blank : ℕ → Bool
is_blank b = b == 32 || b == 9 || b == 13

abbrev pub without_start : List ℕ → List ℕ
without_start line = drop (prefix_len is_blank line) line

-- an empty line and a comment are none
abbrev pub is_command : List ℕ → Bool
is_command [] = false
is_command (b ∷ bytes) = not (b == 35)

abbrev pub line_commands : List (List ℕ) → List (List ℕ)
line_commands pieces = filter is_command (map without_start pieces)

-- ---- commands

-- The commands of a text. If commands may go on over lines, continuation lines before the first
-- command are dropped.
abbrev pub commands : Framing → List ℕ → List (List ℕ)
commands Continued text = (cut (lines text)).commands
commands Lines text = line_commands (pieces text)

-- all but the last
abbrev pub but_last : {X : Type 0} → List X → List X
but_last [] = []
but_last (x ∷ []) = []
but_last (x ∷ y ∷ ys) = x ∷ but_last (y ∷ ys)

-- a text up to its last line feed
abbrev pub ended_lines : List ℕ → List ℕ
ended_lines text = without_end (λ b. not (is_line_feed b)) text

-- The commands of a text that are complete, whatever follows it: all but the last, which may go on;
-- or those of the lines that a line feed ends.
abbrev pub complete : Framing → List ℕ → List (List ℕ)
complete Continued text = but_last (commands Continued text)
complete Lines text = commands Lines (ended_lines text)

-- whether a command has over 65,536 bytes
abbrev pub is_long : List ℕ → Bool
is_long command = nat_lt MAX_COMMAND (length command)
