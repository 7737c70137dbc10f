-- The grammar of terms in the textual ATerm format, by cases on the term that is spelled.
use Rattle.std.specs.Prelude.{◌≡◌, ℕ, List, ◌⊎◌}
use Rattle.term_core.specs.Tree.{application, list, tuple, Tree, Trees, integer, branch, none, more, of_list}
use Rattle.aterm_text.specs.Tokens.{NextSign, NextInteger, NextName, IsBlank}
use Rattle.aterm_text.specs.Signs.{comma, open_round, close_round, open_square, close_square, open_curly, close_curly}

-- from a text to the rest after what is read
abbrev pub Reading : Type 1
Reading = List ℕ → List ℕ → Type 0

infixr 5 ◌▸◌
-- one reading followed by another
abbrev pub ◌▸◌ : {X : Type 0} → (X → X → Type 0) → (X → X → Type 0) → X → X → Type 0
◌▸◌ {X} R S x y = (a : X) × R x a × S a y

-- An optional part in brackets: an opening bracket followed by what R reads; or no terms, and
-- nothing is read. If the bracket is there, it has to be read, so that each prefix of a text is read
-- in one way; over whole texts this makes no difference, since an opening bracket never follows a
-- term. R reads exactly these terms.
abbrev pub Optional : ℕ → Reading → Trees → Reading
Optional opening R ts x y =
    (NextSign opening ▸ R) x y ⊎ (((a : List ℕ) → NextSign opening x a → ⊥) × (ts ≡ none) × (y ≡ x))

-- Each relation says that a text begins with the term or terms, and what the rest is.
--   term = base [ "{" [ term { "," term } ] "}" ]
--   base = integer | name [ "(" [ term { "," term } ] ")" ]
--        | "[" [ term { "," term } ] "]" | "(" [ term { "," term } ] ")"
abbrev mutual
  pub Reads : Tree → Reading
  Reads (integer z notes) = NextInteger z ▸ Optional open_curly (ReadsUntil notes close_curly) notes
  Reads (branch (application name) kids notes) =
      NextName name ▸ Optional open_round (ReadsUntil kids close_round) kids
      ▸ Optional open_curly (ReadsUntil notes close_curly) notes
  Reads (branch list kids notes) =
      NextSign open_square ▸ ReadsUntil kids close_square
      ▸ Optional open_curly (ReadsUntil notes close_curly) notes
  Reads (branch tuple kids notes) =
      NextSign open_round ▸ ReadsUntil kids close_round
      ▸ Optional open_curly (ReadsUntil notes close_curly) notes

  -- the terms from an opening bracket to the closing one: none, or some separated by commas
  pub ReadsUntil : Trees → ℕ → Reading
  ReadsUntil none close = NextSign close
  ReadsUntil (more t ts) close = Reads t ▸ ReadsMore ts close

  -- the terms after the first one, each after a comma, and the closing bracket
  pub ReadsMore : Trees → ℕ → Reading
  ReadsMore none close = NextSign close
  ReadsMore (more t ts) close = NextSign comma ▸ Reads t ▸ ReadsMore ts close

-- the text spells the term: tokens with white space before, between and after them
abbrev pub Spells : List ℕ → Tree → Type 0
Spells x t = (y : List ℕ) × Reads t x y × IsBlank y

-- the text is an annotation part with white space around it
abbrev pub SpellsAnnotations : List ℕ → List Tree → Type 0
SpellsAnnotations x ts =
    (y : List ℕ) × (NextSign open_curly ▸ ReadsUntil (of_list ts) close_curly) x y × IsBlank y
