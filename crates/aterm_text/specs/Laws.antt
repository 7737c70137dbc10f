-- Laws of the text of terms.
use Rattle.std.specs.Prelude.{◌≡◌, ◌==◌, ◌<◌, ◌≤◌, ℕ, Bool, false, IsTrue, List, [], ◌∷◌, length}
use Rattle.std.specs.List.{AllByRecursion, prefix_len, suffix_len}
use Rattle.term_core.specs.Tree.{Tree}
use Rattle.term_core.specs.Terms.{IsTerm}
use Rattle.term_core.specs.Size.{height, size}
use Rattle.aterm_text.specs.Grammar.{Spells, SpellsAnnotations}
use Rattle.aterm_text.specs.Nesting.{nesting}
use Rattle.aterm_text.specs.Printed.{print}
use Rattle.aterm_text.specs.Layout.{pretty}
use Rattle.aterm_text.specs.Tokens.{is_blank}

-- the printed text of a term spells this term
abbrev pub PrintedTextReadsBack : Type 0
PrintedTextReadsBack = (t : Tree) → IsTerm t → Spells (print t) t

-- and so does its text over lines
abbrev pub PrettyTextReadsBack : Type 0
PrettyTextReadsBack = (t : Tree) → IsTerm t → Spells (pretty 0 t) t

-- each line feed is followed by a space
abbrev pub begins_with_space : List ℕ → Bool
begins_with_space [] = false
begins_with_space (b ∷ x) = b == 32

abbrev pub LinesGoOn : List ℕ → Type 0
LinesGoOn [] = Unit {0}
LinesGoOn (b ∷ x) = (b ≡ 10 → IsTrue (begins_with_space x)) × LinesGoOn x

-- the lines of the text over lines go on, so that no line but the first begins a command
abbrev pub PrettyTextGoesOn : Type 0
PrettyTextGoesOn = (t : Tree) → IsTerm t → LinesGoOn (pretty 0 t)

-- a text spells at most one term, and at most one list of annotations
pub record OneTerm : Type 0 where
  pub term : (x : List ℕ) (t u : Tree) → Spells x t → Spells x u → t ≡ u
  pub annotations : (x : List ℕ) (ts us : List Tree) → SpellsAnnotations x ts
      → SpellsAnnotations x us → ts ≡ us

-- the bytes that are printed: visible ASCII and the space
abbrev pub IsPrinted : ℕ → Type 0
IsPrinted b = (32 ≤ b) × (b ≤ 126)

-- a line without white space at its ends
pub record IsOneLine (x : List ℕ) : Type 0 where
  pub bytes : AllByRecursion IsPrinted x
  pub some : 0 < length x
  pub front : prefix_len is_blank x ≡ 0
  pub end : suffix_len is_blank x ≡ 0

-- the printed text of a term is one line
abbrev pub PrintedTextIsOneLine : Type 0
PrintedTextIsOneLine = (t : Tree) → IsTerm t → IsOneLine (print t)

-- its brackets nest no deeper than the term is high
abbrev pub PrintedTextNests : Type 0
PrintedTextNests = (t : Tree) → IsTerm t → nesting (print t) ≤ height t

-- it has at least one byte for each term in it
abbrev pub PrintedTextIsAsLong : Type 0
PrintedTextIsAsLong = (t : Tree) → IsTerm t → size t ≤ length (print t)
