-- The terms of a text that were read so far: those outside all brackets, and those in each open
-- bracket. The term that a bracket belongs to is the last of those before it.
use Rattle.std.specs.Prelude.{◌≡◌, ℕ, List, [], ◌∷◌, ◌++◌, Bool, true, false, Some, None, refl}
use Rattle.std.specs.declared.option.Option.{Option}
use Rattle.std.specs.Coded.{Coded, code_by, coded×, coded_list, coded_bool, coded_option}
use Rattle.term_core.specs.Tree.{Tree}
use Rattle.term_core.specs.inside.TreeCode.{tree_code}
use Rattle.aterm_text.specs.declared.reader.stack.Opening.{Opening}
use Rattle.aterm_text.specs.declared.reader.stack.Opening.TheVariants.{Round, Square, Curly}
use Rattle.aterm_text.specs.Signs.{close_round, close_square, close_curly}

-- an open bracket, and the terms in it so far
pub record OpenBracket : Type 0 where
  pub opening : Opening
  pub terms : List Tree

-- the terms outside of all brackets, and the open brackets, the innermost first
pub record TermStack : Type 0 where
  pub outside : List Tree
  pub open_brackets : List OpenBracket

abbrev pub no_terms : TermStack
no_terms = record { outside = []; open_brackets = [] }

-- one more term, in the innermost bracket
abbrev pub on_top : Tree → List Tree → List OpenBracket → TermStack
on_top t outside [] = record { outside = outside ++ t ∷ []; open_brackets = [] }
on_top t outside (g ∷ gs) = record {
  outside = outside;
  open_brackets = record { opening = g.opening; terms = g.terms ++ t ∷ [] } ∷ gs;
}

abbrev pub with_top : Tree → TermStack → TermStack
with_top t s = on_top t s.outside s.open_brackets

-- one more bracket, with these terms in it
abbrev pub inside : Opening → List Tree → TermStack → TermStack
inside opening ts s = record {
  outside = s.outside;
  open_brackets = record { opening = opening; terms = ts } ∷ s.open_brackets;
}

abbrev pub closes : Opening → ℕ
closes Round = close_round
closes Square = close_square
closes Curly = close_curly

abbrev pub closes_first : List OpenBracket → Option ℕ
closes_first [] = None
closes_first (g ∷ gs) = Some (closes g.opening)

-- the bracket that closes the innermost one, if one is open
abbrev pub first_closing : TermStack → Option ℕ
first_closing s = closes_first s.open_brackets

-- ---- how the logic stores a stack: as the tuple of its fields

abbrev to_parts : Opening → Option Bool
to_parts Round = Some true
to_parts Square = Some false
to_parts Curly = None

abbrev from_parts : Option Bool → Opening
from_parts (Some true) = Round
from_parts (Some false) = Square
from_parts None = Curly

pub from_parts-to_parts : (o : Opening) → from_parts (to_parts o) ≡ o
from_parts-to_parts Round = refl
from_parts-to_parts Square = refl
from_parts-to_parts Curly = refl

abbrev opening_code : Coded Opening
opening_code =
    code_by (Option Bool) (coded_option coded_bool) to_parts from_parts from_parts-to_parts

abbrev open_bracket_code : Coded OpenBracket
open_bracket_code =
    code_by (Opening × List Tree) (coded× opening_code (coded_list tree_code))
    (λ g. (g.opening, g.terms)) (λ p. record { opening = p.0; terms = p.1 }) (λ _. refl)

abbrev pub stack_code : Coded TermStack
stack_code =
    code_by (List Tree × List OpenBracket) (coded× (coded_list tree_code) (coded_list open_bracket_code))
    (λ s. (s.outside, s.open_brackets)) (λ p. record { outside = p.0; open_brackets = p.1 }) (λ _. refl)
