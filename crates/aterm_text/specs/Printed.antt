-- The printed text of a term: no white space between tokens, no optional brackets.
use Rattle.std.specs.Prelude.{ℕ, ◌+◌, ◌/◌, ◌%◌, ◌==◌, ◌&&◌, nat_lt, List, [], ◌∷◌, ◌++◌, if◌then◌else◌}
use Rattle.std.specs.List.{flat_map}
use Rattle.std.specs.Fmt.{signed_decimal}
use Rattle.term_core.specs.Tree.{Symbol, application, list, tuple, Tree, Trees, integer, branch, none, more}
use Rattle.aterm_text.specs.Signs.{quote, backslash, comma, open_round, close_round, open_square, close_square, open_curly, close_curly}

abbrev pub octal_escape : ℕ → List ℕ
octal_escape b = backslash ∷ (48 + b / 64) ∷ (48 + b / 8 % 8) ∷ (48 + b % 8) ∷ []

-- One byte of a quoted name: an escape for `"`, `\`, LF, TAB and CR, else the byte itself from 32
-- to 126, else a backslash and three octal digits.
abbrev pub escaped : ℕ → List ℕ
escaped b =
    if b == quote then backslash ∷ quote ∷ [] else
    if b == backslash then backslash ∷ backslash ∷ [] else
    if b == 10 then backslash ∷ 110 ∷ [] else
    if b == 9 then backslash ∷ 116 ∷ [] else
    if b == 13 then backslash ∷ 114 ∷ [] else
    if nat_lt 31 b && nat_lt b 127 then b ∷ [] else octal_escape b

abbrev pub print_name : Symbol → List ℕ
print_name name =
    if name.is_quoted then quote ∷ flat_map escaped name.text ++ quote ∷ [] else name.text

-- brackets around the terms, if there are any
abbrev pub bracketed : ℕ → ℕ → Trees → List ℕ → List ℕ
bracketed opening closing none inner = []
bracketed opening closing (more t ts) inner = opening ∷ inner ++ closing ∷ []

-- the term, with these texts of its children and of its annotations
abbrev pub assembled : Tree → List ℕ → List ℕ → List ℕ
assembled (integer z notes) inner marks =
    signed_decimal z ++ bracketed open_curly close_curly notes marks
assembled (branch (application name) kids notes) inner marks =
    print_name name ++ bracketed open_round close_round kids inner
    ++ bracketed open_curly close_curly notes marks
assembled (branch list kids notes) inner marks =
    open_square ∷ inner ++ close_square ∷ bracketed open_curly close_curly notes marks
assembled (branch tuple kids notes) inner marks =
    open_round ∷ inner ++ close_round ∷ bracketed open_curly close_curly notes marks

abbrev mutual
  pub print : Tree → List ℕ
  print (integer z notes) = assembled (integer z notes) [] (print_all notes)
  print (branch head kids notes) = assembled (branch head kids notes) (print_all kids) (print_all notes)

  -- the terms, separated by commas
  pub print_all : Trees → List ℕ
  print_all none = []
  print_all (more t ts) = print t ++ print_more ts

  -- the terms after the first one
  pub print_more : Trees → List ℕ
  print_more none = []
  print_more (more t ts) = comma ∷ print t ++ print_more ts
