-- The text of the library is a module: a parser of the forms that stand in it, which finds a reading
-- by the grammar with each of them.
use Rattle.std.proofs.Common.{◌≡◌, ℕ, zero, suc, Bool, true, false, List, [], ◌∷◌, refl, inl, inr}
use Rattle.aterm_text.specs.Grammar.{◌▸◌}
use Rattle.term_core.specs.Tree.{Symbol}
use Rattle.strategy_syntax.specs.Syntax.{no_patterns}
use Rattle.strategy_tokens.specs.declared.token.Token.{Token}
use Rattle.strategy_tokens.specs.declared.token.Token.TheVariants.{Ident, Reserved, Sign as ASign}
use Rattle.strategy_tokens.specs.declared.token.Keyword.TheVariants.{Id, All, One, Some as KSome, Strategies}
use Rattle.strategy_tokens.specs.declared.token.Sign.{Sign}
use Rattle.strategy_tokens.specs.declared.token.Sign.TheVariants.{OpenRound, CloseRound, OpenSquare, CloseSquare, Semicolon, Bar, Equals, LeftChoice}
use Rattle.strategy_parse.specs.declared.parser.state.Operator.{Operator}
use Rattle.strategy_parse.specs.declared.parser.state.Operator.TheVariants.{All as AllOf, One as OneOf, Some as SomeOf}
use Rattle.strategy_parse.specs.Written.{Choice, sequence, left_choice, Seq, last, before, arrow, Prefix, identity, operator, square, square_with_tail, name, call, no_choices, and_choice, Defined, definition, Section, definitions}
use Rattle.strategy_parse.specs.Grammar.{Reading, Mark, word_of, ReadsChoice, ReadsSeq, ReadsPrefix}
use Rattle.strategy_parse.specs.GrammarModules.{ReadsAll, ReadsDefined, ReadsModule}

-- What the tokens begin with, and the rest; or nothing.
pub data Found {X : Type 0} (Reads : X → Reading) (u : List Token) : Type 0 where
  none : Found Reads u
  found : (x : X) (v : List Token) → Reads x u v → Found Reads u

-- the sign after what was found
abbrev mark : {X : Type 0} (Reads : X → Reading) (close : Sign) (u : List Token) → Found Reads u
    → Found (λ x. Reads x ▸ Mark close) u
mark Reads CloseRound u (found x (ASign CloseRound ∷ v) r) = found x v (ASign CloseRound ∷ v, r, refl)
mark Reads CloseSquare u (found x (ASign CloseSquare ∷ v) r) = found x v (ASign CloseSquare ∷ v, r, refl)
mark Reads Bar u (found x (ASign Bar ∷ v) r) = found x v (ASign Bar ∷ v, r, refl)
mark Reads close u f = none

-- ---- strategies: what follows is found by these functions

abbrev Finds : {X : Type 0} → (X → Reading) → Type 0
Finds Reads = (u : List Token) → Found Reads u

abbrev or_choice : (u : List Token) (a : Seq) (x : List Token)
    → ReadsSeq a u (ASign LeftChoice ∷ x) → Found ReadsChoice x → Found ReadsChoice u
or_choice u a x r none = none
or_choice u a x r (found b v s) = found (left_choice a b) v (ASign LeftChoice ∷ x, r, (x, refl, s))

abbrev choice_on : (u : List Token) → Found ReadsSeq u → Finds ReadsChoice → Found ReadsChoice u
choice_on u none choices = none
choice_on u (found a (ASign LeftChoice ∷ x) r) choices = or_choice u a x r (choices x)
choice_on u (found a x r) choices = found (sequence a) x r

abbrev and_seq : (u : List Token) (a : Prefix) (x : List Token)
    → ReadsPrefix a u (ASign Semicolon ∷ x) → Found ReadsSeq x → Found ReadsSeq u
and_seq u a x r none = none
and_seq u a x r (found b v s) =
    found (before (arrow a no_patterns) b) v (ASign Semicolon ∷ x, (ASign Semicolon ∷ x, r, refl), (x, refl, s))

abbrev seq_on : (u : List Token) → Found ReadsPrefix u → Finds ReadsSeq → Found ReadsSeq u
seq_on u none seqs = none
seq_on u (found a (ASign Semicolon ∷ x) r) seqs = and_seq u a x r (seqs x)
seq_on u (found a x r) seqs = found (last (arrow a no_patterns)) x (x, r, refl)

abbrev operated : (o : Operator) (y : List Token) → Found (λ a. ReadsChoice a ▸ Mark CloseRound) y
    → Found ReadsPrefix (Reserved (word_of o) ∷ ASign OpenRound ∷ y)
operated o y none = none
operated o y (found a v r) = found (operator o a) v (ASign OpenRound ∷ y, refl, (y, refl, r))

abbrev called : (f : Symbol) (y : List Token) → Found (λ a. ReadsChoice a ▸ Mark CloseRound) y
    → Found ReadsPrefix (Ident f ∷ ASign OpenRound ∷ y)
called f y none = none
called f y (found a v r) = found (call f (and_choice a no_choices)) v (ASign OpenRound ∷ y, refl, (y, refl, r))

abbrev listed : (y : List Token) (a : Choice) (x : List Token) → (ReadsChoice a ▸ Mark Bar) y x
    → Found (λ b. ReadsChoice b ▸ Mark CloseSquare) x → Found ReadsPrefix (ASign OpenSquare ∷ y)
listed y a x r none = none
listed y a x r (found b v s) = found (square_with_tail (and_choice a no_choices) b) v (y, refl, (x, r, s))

abbrev tailed : (y : List Token) → Found (λ a. ReadsChoice a ▸ Mark Bar) y → Finds ReadsChoice
    → Found ReadsPrefix (ASign OpenSquare ∷ y)
tailed y none choices = none
tailed y (found a x r) choices = listed y a x r (mark ReadsChoice CloseSquare x (choices x))

abbrev prefix_on : (u : List Token) → Finds ReadsChoice → Found ReadsPrefix u
prefix_on (Reserved Id ∷ y) choices = found identity y refl
prefix_on (Reserved All ∷ ASign OpenRound ∷ y) choices = operated AllOf y (mark ReadsChoice CloseRound y (choices y))
prefix_on (Reserved One ∷ ASign OpenRound ∷ y) choices = operated OneOf y (mark ReadsChoice CloseRound y (choices y))
prefix_on (Reserved KSome ∷ ASign OpenRound ∷ y) choices = operated SomeOf y (mark ReadsChoice CloseRound y (choices y))
prefix_on (ASign OpenSquare ∷ ASign CloseSquare ∷ y) choices =
    found (square no_choices) y (ASign CloseSquare ∷ y, refl, refl)
prefix_on (ASign OpenSquare ∷ y) choices = tailed y (mark ReadsChoice Bar y (choices y)) choices
prefix_on (Ident f ∷ ASign OpenRound ∷ y) choices = called f y (mark ReadsChoice CloseRound y (choices y))
prefix_on (Ident f ∷ y) choices = found (name f) y refl
prefix_on u choices = none

-- The first number bounds how often a form is looked for.
abbrev mutual
  choice : ℕ → Finds ReadsChoice
  choice zero u = none
  choice (suc n) u = choice_on u (seq n u) (choice n)

  seq : ℕ → Finds ReadsSeq
  seq zero u = none
  seq (suc n) u = seq_on u (prefix_on u (choice n)) (seq n)

-- ---- definitions and the module

abbrev definition_on : (f s : Symbol) (y : List Token) → Found ReadsChoice y
    → Found ReadsDefined (Ident f ∷ ASign OpenRound ∷ Ident s ∷ ASign CloseRound ∷ ASign Equals ∷ y)
definition_on f s y none = none
definition_on f s y (found a v r) =
    found (definition (record { name = f; strategies = s ∷ []; terms = [] }) a) v (
      ASign Equals ∷ y,
      (
        ASign OpenRound ∷ Ident s ∷ ASign CloseRound ∷ ASign Equals ∷ y,
        refl,
        inl (
          Ident s ∷ ASign CloseRound ∷ ASign Equals ∷ y,
          refl,
          inl (refl, (ASign CloseRound ∷ ASign Equals ∷ y, refl, refl)),
        ),
      ),
      (y, refl, r),
    )

abbrev defined : ℕ → Finds ReadsDefined
defined n (Ident f ∷ ASign OpenRound ∷ Ident s ∷ ASign CloseRound ∷ ASign Equals ∷ y) = definition_on f s y (choice n y)
defined n u = none

abbrev and_all : (u : List Token) (d : Defined) (x : List Token) → ReadsDefined d u x → Found (ReadsAll ReadsDefined) x
    → Found (ReadsAll ReadsDefined) u
and_all u d x r none = none
and_all u d x r (found ds v s) = found (d ∷ ds) v (x, r, s)

abbrev all_on : (u : List Token) → Found ReadsDefined u → Finds (ReadsAll ReadsDefined)
    → Found (ReadsAll ReadsDefined) u
all_on u none rest = none
all_on u (found d x r) rest = and_all u d x r (rest x)

abbrev all_defined : ℕ → Finds (ReadsAll ReadsDefined)
all_defined zero u = none
all_defined (suc n) [] = found [] [] refl
all_defined (suc n) u = all_on u (defined n u) (all_defined n)

-- the tokens are a module, or none was found
pub data Read (u : List Token) : Type 0 where
  nothing : Read u
  read : (ss : List Section) → ReadsModule ss u → Read u

abbrev module_on : (y : List Token) → Found (ReadsAll ReadsDefined) y → Read (Reserved Strategies ∷ y)
module_on y (found ds [] r) =
    read (definitions ds ∷ []) (Reserved Strategies ∷ y, inr refl, ([], (y, inr refl, r), refl))
module_on y f = nothing

abbrev pub module_in : ℕ → (u : List Token) → Read u
module_in n (Reserved Strategies ∷ y) = module_on y (all_defined n y)
module_in n u = nothing

abbrev pub is_read : (u : List Token) → Read u → Bool
is_read u nothing = false
is_read u (read ss r) = true

pub not_read : false ≡ true → ⊥
not_read e = absurd (cc)

abbrev pub sections : (u : List Token) (f : Read u) → is_read u f ≡ true → (ss : List Section) × ReadsModule ss u
sections u (read ss r) e = (ss, r)
sections u nothing e = absurd (not_read e)
