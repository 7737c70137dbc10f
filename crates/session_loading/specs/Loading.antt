-- What a module and a tree from a file are.
use Rattle.std.specs.Prelude.{ℕ, List, [], ◌∷◌, ◌++◌, if◌then◌else◌}
use Rattle.std.specs.List.{flat_map}
use Rattle.aterm_text.specs.Tokens.{is_blank, without_blanks}
use Rattle.aterm_text.specs.Grammar.{Spells}
use Rattle.session_history.specs.History.{History}
use Rattle.session_history.specs.Acts.{ComesTo, Given, ActResult, set_module, set_tree}
use Rattle.script_text.specs.Script.{begins_command, pieces, without_end}
use Rattle.script_text.specs.Replies.{ReadAs}

-- a text without the blanks at both ends
abbrev pub trimmed : List ℕ → List ℕ
trimmed text = without_end is_blank (without_blanks text)

-- A line that would begin a command goes on after a space.
abbrev pub indented : List ℕ → List ℕ
indented line = if begins_command line then 32 ∷ line else line

abbrev pub next_line : List ℕ → List ℕ
next_line line = 10 ∷ indented line

-- the first line as it is, and each other after a line feed, indented
abbrev pub one_command : List (List ℕ) → List ℕ
one_command [] = []
one_command (line ∷ lines) = line ++ flat_map next_line lines

-- The text of a module that a file has: its lines, each without the run of carriage returns at its
-- end, so that a command can give them.
abbrev pub module_text_of : List ℕ → List ℕ
module_text_of text = one_command (pieces (trimmed text))

-- The module of this name is set to the text of a file, by the step of the session that sets a
-- module.
abbrev pub LoadsModule : List ℕ → List ℕ → History → ActResult → Type 0
LoadsModule name text h = ComesTo (set_module name (module_text_of text)) h

-- The tree of this name is set to the one that the text of a file spells, by the step of the session
-- that sets a tree.
abbrev pub LoadsTree : List ℕ → List ℕ → History → ActResult → Type 0
LoadsTree name text h = Given (ReadAs Spells text) (λ tree. ComesTo (set_tree name tree) h)
