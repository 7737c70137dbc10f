-- How a term begins.
use Rattle.std.specs.Prelude.{ℕ, ℤ, List}
use Rattle.term_core.specs.Tree.{Symbol}
use Rattle.aterm_text.specs.Tokens.{NextSign, NextInteger, NextName}
use Rattle.aterm_text.specs.declared.reader.lexeme.Lexeme.{Lexeme}
use Rattle.aterm_text.specs.declared.reader.lexeme.Lexeme.TheVariants.{Integer, Named}
use Rattle.aterm_text.specs.Signs.{open_round, open_square}

-- an integer, a name, or the opening bracket of a list or a tuple
pub data Beginning : Type 0 where
  an_integer : ℤ → Beginning
  a_name : Symbol → Beginning
  a_list : Beginning
  a_tuple : Beginning

-- it comes first in x, and y is the rest
abbrev pub Begins : Beginning → List ℕ → List ℕ → Type 0
Begins (an_integer z) x y = NextInteger z x y
Begins (a_name name) x y = NextName name x y
Begins a_list x y = NextSign open_square x y
Begins a_tuple x y = NextSign open_round x y

abbrev pub beginning_of : Lexeme → Beginning
beginning_of (Integer z) = an_integer z
beginning_of (Named name) = a_name name

-- neither an integer nor a name comes first in x
abbrev pub NoLexeme : List ℕ → Type 0
NoLexeme x = (lexeme : Lexeme) (y : List ℕ) → Begins (beginning_of lexeme) x y → ⊥
