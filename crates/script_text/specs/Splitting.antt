-- Splitting a script as its bytes arrive: what is pending, and what each byte completes. The code
-- equals this machine, which gives the commands of the script: see `StandsAfter`.
use Rattle.std.specs.Prelude.{◌≡◌, ℕ, suc, ◌==◌, ◌&&◌, ◌||◌, nat_le, List, [], ◌∷◌, ◌++◌, Some, None, option_map, if◌then◌else◌}
use Rattle.std.specs.declared.option.Option.{Option}
use Rattle.std.specs.List.{repeat}
use Rattle.std.specs.Option.{option_to_list}
use Rattle.script_text.specs.declared.TheConstants.{MAX_COMMAND}
use Rattle.script_text.specs.declared.framing.Framing.{Framing}
use Rattle.script_text.specs.declared.framing.Framing.TheVariants.{Continued, Lines}
use Rattle.script_text.specs.declared.splitter.LineState.{LineState}
use Rattle.script_text.specs.declared.splitter.LineState.TheVariants.{Start, Kept, Comment, Skipped}
use Rattle.script_text.specs.declared.splitter.Unfinished.{Unfinished}
use Rattle.script_text.specs.Script.{is_blank}
use Rattle.script_text.specs.Handed.{Handed, text, long, handed_as, handed, completed}

-- a command with more bytes
abbrev pub with_more : List ℕ → Handed → Handed
with_more [] c = c
with_more (b ∷ more) (text bytes) = handed_as (bytes ++ b ∷ more)
with_more (b ∷ more) long = long

abbrev pub nothing : Framing → Unfinished
nothing framing = record { framing = framing; command = None; place = Start; returns = 0 }

-- The effect of a byte: perhaps a command is complete, and what is then pending.
pub record Taken : Type 0 where
  pub out : Option Handed
  pub left : Unfinished

abbrev pub going : Unfinished → Taken
going s = record { out = None; left = s }

-- One more carriage return is held back. Over 65,536 of them aren't distinguished, since what they
-- belong to is too long in any case.
abbrev pub one_more : ℕ → ℕ
one_more n = if nat_le n MAX_COMMAND then suc n else n

abbrev pub hold_return : Unfinished → Unfinished
hold_return s = record {
  framing = s.framing;
  command = s.command;
  place = s.place;
  returns = one_more s.returns;
}

-- a byte after carriage returns that were held back
abbrev pub after_returns : ℕ → ℕ → List ℕ
after_returns n b = repeat n (13 ∷ []) ++ b ∷ []

-- at the start of a line, or in one of this kind, with no carriage returns held back
abbrev pub in_place : Framing → Option Handed → LineState → Unfinished
in_place framing command place = record { framing = framing; command = command; place = place; returns = 0 }

-- a command that begins with these carriage returns and this byte
abbrev pub begun : Framing → ℕ → ℕ → Unfinished
begun framing n b = in_place framing (Some (handed_as (after_returns n b))) Kept

-- a byte of the command, after the carriage returns that were held back
abbrev pub longer : Unfinished → ℕ → Unfinished
longer s b = in_place s.framing (option_map (with_more (after_returns s.returns b)) s.command) Kept

-- ---- commands that may go on over lines

-- the line continues the command before it, if there is one
abbrev pub gone_on : Framing → ℕ → Option Handed → Unfinished
gone_on framing b None = in_place framing None Skipped
gone_on framing b (Some c) = in_place framing (Some (with_more (10 ∷ (b ∷ [])) c)) Kept

-- a byte at the start of a line
abbrev pub at_start : Unfinished → ℕ → Taken
at_start s b =
    if b == 13 then going (hold_return s) else
    if b == 10 then going (in_place s.framing (option_map (with_more (10 ∷ [])) s.command) Start) else
    if s.returns == 0 && b == 35 then going (in_place s.framing s.command Comment) else
    if s.returns == 0 && (b == 32 || b == 9) then going (gone_on s.framing b s.command) else
    record { out = s.command; left = begun s.framing s.returns b }

-- a byte in a line of the command
abbrev pub in_line : Unfinished → ℕ → Taken
in_line s b =
    if b == 13 then going (hold_return s) else
    if b == 10 then going (in_place s.framing s.command Start) else going (longer s b)

-- a byte in a dropped line
abbrev pub in_dropped : Unfinished → ℕ → Taken
in_dropped s b = if b == 10 then going (in_place s.framing s.command Start) else going s

abbrev pub continued_at : LineState → Unfinished → ℕ → Taken
continued_at Start s b = at_start s b
continued_at Kept s b = in_line s b
continued_at Comment s b = in_dropped s b
continued_at Skipped s b = in_dropped s b

-- ---- lines that are commands

-- a byte at the start of a line
abbrev pub at_own_start : Unfinished → ℕ → Taken
at_own_start s b =
    if b == 10 || is_blank b then going (nothing s.framing) else
    if b == 35 then going (in_place s.framing None Comment) else going (begun s.framing 0 b)

-- a byte in a command, which the line feed completes
abbrev pub in_own_line : Unfinished → ℕ → Taken
in_own_line s b =
    if b == 13 then going (hold_return s) else
    if b == 10 then record { out = s.command; left = nothing s.framing } else going (longer s b)

-- a byte in a comment
abbrev pub in_own_comment : Unfinished → ℕ → Taken
in_own_comment s b = if b == 10 then going (nothing s.framing) else going s

abbrev pub own_line_at : LineState → Unfinished → ℕ → Taken
own_line_at Start s b = at_own_start s b
own_line_at Kept s b = in_own_line s b
own_line_at Comment s b = in_own_comment s b
own_line_at Skipped s b = in_own_comment s b

-- ---- both

abbrev pub taken_in : Framing → Unfinished → ℕ → Taken
taken_in Continued s b = continued_at s.place s b
taken_in Lines s b = own_line_at s.place s b

abbrev pub taken : Unfinished → ℕ → Taken
taken s b = taken_in s.framing s b

-- what is given for what is pending and the bytes after it, up to the end
abbrev pub rest_of : Unfinished → List ℕ → List Handed
rest_of s [] = option_to_list s.command
rest_of s (b ∷ bytes) = option_to_list (taken s b).out ++ rest_of (taken s b).left bytes

-- What is pending after the text x, for which these commands were given: exactly those that are
-- complete; and whatever follows x, the other commands come from what is pending and the rest.
pub record StandsAfter (framing : Framing) (x : List ℕ) (out : List Handed) (s : Unfinished) : Type 0 where
  pub framed : s.framing ≡ framing
  pub complete : out ≡ completed framing x
  pub rest : (more : List ℕ) → handed framing (x ++ more) ≡ out ++ rest_of s more
