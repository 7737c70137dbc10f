-- The open brackets of a text, by what each will make of the terms in it; what the rest of the text
-- must still spell is stated in terms of these.
use Rattle.std.specs.Prelude.{ℕ, List}
use Rattle.term_core.specs.Tree.{Symbol, Tree}
use Rattle.aterm_text.specs.Signs.{close_round, close_square, close_curly}

-- what an open bracket will make of the terms in it: the arguments of a name, the elements of a
-- list or of a tuple, or the annotations of a term that has none yet
pub data Bracket : Type 0 where
  arguments : Symbol → Bracket
  elements : Bracket
  components : Bracket
  annotating : Tree → Bracket

-- an open bracket, and the terms in it so far
pub record Level : Type 0 where
  pub opened : Bracket
  pub done : List Tree

-- the bracket that closes it
abbrev pub closing_of : Bracket → ℕ
closing_of (arguments name) = close_round
closing_of elements = close_square
closing_of components = close_round
closing_of (annotating t) = close_curly
