-- The text of a term over lines, for people. A term that ends within the first 100 columns stays on
-- one line. Else each of its children and annotations begins a line, two columns further in.
use Rattle.std.specs.Prelude.{ℕ, ◌+◌, nat_le, List, [], ◌∷◌, ◌++◌, length, replicate, if◌then◌else◌}
use Rattle.term_core.specs.Tree.{Tree, Trees, integer, branch, none, more}
use Rattle.aterm_text.specs.Signs.{comma}
use Rattle.aterm_text.specs.Printed.{print, assembled}
use Rattle.aterm_text.specs.declared.layout.TheConstants.{LINE_WIDTH}

-- a line feed, and blanks up to this column
abbrev pub new_line : ℕ → List ℕ
new_line column = 10 ∷ replicate column 32

-- the first text if it ends within the width where it begins in this column, else the second
abbrev pub fitted : ℕ → List ℕ → List ℕ → List ℕ
fitted column text lines = if nat_le (column + length text) LINE_WIDTH then text else lines

abbrev mutual
  -- the term, which begins in this column
  pub pretty : ℕ → Tree → List ℕ
  pretty column (integer z notes) =
      fitted column (print (integer z notes))
      (assembled (integer z notes) [] (pretty_all (column + 2) notes))
  pretty column (branch head kids notes) =
      fitted column (print (branch head kids notes))
      (assembled (branch head kids notes) (pretty_all (column + 2) kids) (pretty_all (column + 2) notes))

  -- the terms, each on a line of its own, separated by commas
  pub pretty_all : ℕ → Trees → List ℕ
  pretty_all column none = []
  pretty_all column (more t ts) = new_line column ++ pretty column t ++ pretty_more column ts

  -- the terms after the first one
  pub pretty_more : ℕ → Trees → List ℕ
  pretty_more column none = []
  pretty_more column (more t ts) = comma ∷ new_line column ++ pretty column t ++ pretty_more column ts
