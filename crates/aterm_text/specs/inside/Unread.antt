-- What the rest of a text must still spell during reading, for the clauses of the reader's own
-- functions.
use Rattle.std.specs.Prelude.{◌≡◌, ◌<◌, ℕ, List, [], ◌∷◌, ◌++◌, length}
use Rattle.term_core.specs.Tree.{Tree, Trees, to_list, application_term, list_term, tuple_term, with_annotations}
use Rattle.aterm_text.specs.Tokens.{IsBlank}
use Rattle.aterm_text.specs.Grammar.{Reads, ReadsUntil, ReadsMore, Optional}
use Rattle.aterm_text.specs.inside.Level.{Bracket, arguments, elements, components, annotating, Level, closing_of}
use Rattle.aterm_text.specs.inside.TermStack.{TermStack, no_terms, with_top, inside}
use Rattle.aterm_text.specs.declared.reader.stack.Opening.{Opening}
use Rattle.aterm_text.specs.declared.reader.stack.Opening.TheVariants.{Round, Square, Curly}
use Rattle.aterm_text.specs.declared.reader.machine.ReaderState.{ReaderState}
use Rattle.aterm_text.specs.declared.reader.machine.ReaderState.TheVariants.{Expected, Entered, Base, Whole}
use Rattle.aterm_text.specs.declared.reader.machine.Progress.{Progress}
use Rattle.aterm_text.specs.declared.reader.machine.Progress.TheVariants.{More, Done}
use Rattle.aterm_text.specs.Signs.{open_curly, close_curly}

-- What was read last: the start of the text or a comma, an opening bracket, a term that may still
-- get annotations, or a term with its annotations.
pub data Reading : Type 0 where
  expected : Reading
  entered : Reading
  base : Tree → Reading
  whole : Tree → Reading

-- the result of closing a bracket: a base, to which annotations may be added, or a term that has
-- them
abbrev pub closed : Bracket → List Tree → Reading
closed (arguments name) us = base (application_term name us)
closed elements us = base (list_term us)
closed components us = base (tuple_term us)
closed (annotating t) us = whole (with_annotations t us)

-- After a base: optional annotations, and then what R says of the whole term.
abbrev pub AfterBase : (Tree → List ℕ → Tree → Type 0) → Tree → List ℕ → Tree → Type 0
AfterBase R t x all =
    (notes : Trees) × (y : List ℕ)
    × Optional open_curly (λ u v. ReadsUntil notes close_curly u v) notes x y
    × R (with_annotations t (to_list notes)) y all

-- after the result of closing a bracket
abbrev pub AfterClosed : (Tree → List ℕ → Tree → Type 0) → Bracket → List Tree → List ℕ → Tree
    → Type 0
AfterClosed R (arguments name) us x all = AfterBase R (application_term name us) x all
AfterClosed R elements us x all = AfterBase R (list_term us) x all
AfterClosed R components us x all = AfterBase R (tuple_term us) x all
AfterClosed R (annotating t) us x all = R (with_annotations t us) x all

-- After a whole term t, inside these levels, x completes the text to one that spells `all`: if no
-- bracket is open, only white space follows; else more terms and the closing bracket do, and so on
-- outside.
abbrev pub AfterWhole : List Level → Tree → List ℕ → Tree → Type 0
AfterWhole [] t x all = IsBlank x × (all ≡ t)
AfterWhole (level ∷ levels) t x all =
    (us : Trees) × (y : List ℕ) × ReadsMore us (closing_of level.opened) x y
    × AfterClosed (λ u v w. AfterWhole levels u v w)
    level.opened (level.done ++ t ∷ to_list us) y all

-- where a term has to begin
abbrev pub BeforeTerm : List Level → List ℕ → Tree → Type 0
BeforeTerm levels x all = (t : Tree) × (y : List ℕ) × Reads t x y × AfterWhole levels t y all

-- right after an opening bracket
abbrev pub AfterOpening : List Level → List ℕ → Tree → Type 0
AfterOpening [] x all = ⊥
AfterOpening (level ∷ levels) x all =
    (us : Trees) × (y : List ℕ) × ReadsUntil us (closing_of level.opened) x y
    × AfterClosed (λ u v w. AfterWhole levels u v w) level.opened (level.done ++ to_list us) y all

-- what x must still spell, so that the whole text spells `all`
abbrev pub Unread : Reading → List Level → List ℕ → Tree → Type 0
Unread expected levels x all = BeforeTerm levels x all
Unread entered levels x all = AfterOpening levels x all
Unread (base t) levels x all = AfterBase (λ u v w. AfterWhole levels u v w) t x all
Unread (whole t) levels x all = AfterWhole levels t x all

-- Reading moved from one place to another and lost or added nothing: what the rest had to spell
-- before is what it has to spell now.
pub record Continues (r : Reading) (levels : List Level) (x : List ℕ) (r' : Reading)
    (levels' : List Level) (x' : List ℕ) : Type 0 where
  pub forth : (all : Tree) → Unread r levels x all → Unread r' levels' x' all
  pub back : (all : Tree) → Unread r' levels' x' all → Unread r levels x all

-- no rest can make the text spell a term
abbrev pub IsStuck : Reading → List Level → List ℕ → Type 0
IsStuck r levels x = (all : Tree) → Unread r levels x all → ⊥

-- the whole text spells only this term
pub record IsEnd (r : Reading) (levels : List Level) (x : List ℕ) (t : Tree) : Type 0 where
  pub found : Unread r levels x t
  pub only : (all : Tree) → Unread r levels x all → all ≡ t

-- ---- what the reader's state and its stack represent

abbrev pub opening_of : Bracket → Opening
opening_of (arguments name) = Round
opening_of elements = Square
opening_of components = Round
opening_of (annotating t) = Curly

-- the term that a bracket belongs to
abbrev pub bearer : Bracket → Tree
bearer (arguments name) = application_term name []
bearer elements = list_term []
bearer components = tuple_term []
bearer (annotating t) = t

-- the stack holds these levels and the terms that their brackets belong to, and no other term
abbrev pub Holds : List Level → TermStack → Type 0
Holds [] s = s ≡ no_terms
Holds (level ∷ levels) s =
    (below : TermStack) × Holds levels below
    × (s ≡ inside (opening_of level.opened) level.done (with_top (bearer level.opened) below))

-- The state and the stack represent this reading within these levels. The term that was read last
-- is on top of the stack.
abbrev pub ReaderStands : Reading → List Level → ReaderState → TermStack → Type 0
ReaderStands expected levels state s = (state ≡ Expected) × Holds levels s
ReaderStands entered levels state s = (state ≡ Entered) × Holds levels s
ReaderStands (base t) levels state s =
    (below : TermStack) × (state ≡ Base) × (s ≡ with_top t below) × Holds levels below
    × (with_annotations t [] ≡ t)
ReaderStands (whole t) levels state s =
    (below : TermStack) × (state ≡ Whole) × (s ≡ with_top t below) × Holds levels below

-- ---- the steps of the machine

-- a step that goes on consumes at least one byte and loses nothing
pub record GoesOn (r : Reading) (levels : List Level) (x : List ℕ) (state' : ReaderState) (s' : TermStack)
    (x' : List ℕ) : Type 0 where
  pub reading : Reading
  pub levels' : List Level
  pub stands : ReaderStands reading levels' state' s'
  pub continues : Continues r levels x reading levels' x'
  pub shorter : length x' < length x

-- where a step leads from one reading
abbrev pub Goes : Reading → List Level → List ℕ → Progress → TermStack → Type 0
Goes r levels x (More state' rest) s' = GoesOn r levels x state' s' rest.now
Goes r levels x Done s' = (t : Tree) × (s' ≡ with_top t no_terms) × IsEnd r levels x t

-- where a step leads, for all readings that the state and the stack may represent
abbrev pub ReaderLeads : ReaderState → TermStack → List ℕ → Progress → TermStack → Type 0
ReaderLeads state s x step s' =
    (r : Reading) (levels : List Level) → ReaderStands r levels state s → Goes r levels x step s'

-- the text spells no term, whatever the state and the stack represent
abbrev pub IsLost : ReaderState → TermStack → List ℕ → Type 0
IsLost state s x =
    (r : Reading) (levels : List Level) → ReaderStands r levels state s → IsStuck r levels x

-- the state and the stack after the innermost bracket is closed
abbrev pub IsClosed : TermStack → ReaderState → TermStack → Type 0
IsClosed s state s' =
    (level : Level) (levels : List Level) → Holds (level ∷ levels) s
    → ReaderStands (closed level.opened level.done) levels state s'
