-- Several bytes at once.
use Rattle.std.specs.Prelude.{◌≡◌, ℕ, Bool, ◌==◌, ◌||◌, List, [], ◌∷◌, ◌++◌}
use Rattle.std.specs.Option.{option_to_list}
use Rattle.script_text.specs.declared.splitter.Unfinished.{Unfinished}
use Rattle.script_text.specs.Handed.{Handed}
use Rattle.script_text.specs.Splitting.{taken}

-- whether a byte in a line of the command may change more than the command
abbrev pub ends_run : ℕ → Bool
ends_run b = b == 10 || b == 13

-- what is given at these bytes
abbrev pub out_of : Unfinished → List ℕ → List Handed
out_of s [] = []
out_of s (b ∷ bytes) = option_to_list (taken s b).out ++ out_of (taken s b).left bytes

-- what is pending after these bytes
abbrev pub passed : Unfinished → List ℕ → Unfinished
passed s [] = s
passed s (b ∷ bytes) = passed (taken s b).left bytes

-- At these bytes these commands are given, and this is pending after them.
pub record Goes (s : Unfinished) (run : List ℕ) (given : List Handed) (after : Unfinished) : Type 0 where
  pub out : out_of s run ≡ given
  pub left : passed s run ≡ after
