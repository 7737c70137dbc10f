-- What the fields of the reader's stack represent.
use Rattle.std.specs.Prelude.{◌≤◌, List, [], ◌∷◌, length, take, drop}
use Rattle.term_core.specs.Tree.{Tree}
use Rattle.aterm_text.specs.inside.TermStack.{TermStack, inside}
use Rattle.aterm_text.specs.declared.reader.open_brackets.Bracket.{Bracket}
use Rattle.aterm_text.specs.declared.reader.stack.TermStack.TheInside.{Inside}

-- the terms, split at the brackets, the innermost bracket first
abbrev pub cut : List Bracket → List Tree → TermStack
cut [] ts = record { outside = ts; open_brackets = [] }
cut (b ∷ bs) ts = inside b.opening (drop b.before ts) (cut bs (take b.before ts))

-- each bracket comes within the terms before those of the next inner bracket
abbrev pub IsCut : List Bracket → List Tree → Type 0
IsCut [] ts = Unit {0}
IsCut (b ∷ bs) ts = (b.before ≤ length ts) × IsCut bs (take b.before ts)

abbrev pub stack_of : Inside → TermStack
stack_of a = cut a.brackets a.terms.items

abbrev pub IsStack : Inside → Type 0
IsStack a = IsCut a.brackets a.terms.items
