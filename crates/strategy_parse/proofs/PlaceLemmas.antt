-- At each place of a module some tokens make it whole; no place opens more than one bracket.
use Rattle.std.proofs.Common.{◌≡◌, ℕ, zero, suc, ◌+◌, ◌≤◌, Bool, true, false, refl, ap, subst, inl, inr, List, [], ◌∷◌, Some, None, arith}
use Rattle.std.specs.Prelude.{if◌then◌else◌}
use Rattle.std.specs.declared.option.Option.{Option}
use Rattle.strategy_syntax.specs.Syntax as syntax
use Rattle.strategy_tokens.specs.declared.token.Token.{Token}
use Rattle.strategy_tokens.specs.declared.token.Token.TheVariants.{Ident, Wildcard, Reserved, Integer, Text, Sign as ASign, Bad}
use Rattle.strategy_tokens.specs.declared.token.Keyword.TheVariants.{Id, Module, Where}
use Rattle.strategy_tokens.specs.declared.token.Sign.TheVariants.{OpenRound, CloseRound, Comma, Colon, Bar, Equals, Arrow as RightArrow, Star}
use Rattle.strategy_tokens.specs.Marks.{is_mark, is_word}
use Rattle.strategy_parse.specs.declared.modules.sections.Context.{Context}
use Rattle.strategy_parse.specs.declared.modules.sections.Context.TheVariants.{Outside, Signature as InSignature, Sorts, Constructors, Definitions}
use Rattle.strategy_parse.specs.declared.modules.sorts.SortState.{SortState}
use Rattle.strategy_parse.specs.declared.modules.sorts.SortState.TheVariants.{Begins, Named, Closed}
use Rattle.strategy_parse.specs.declared.modules.sorts.Turn.{Turn}
use Rattle.strategy_parse.specs.declared.modules.sorts.Turn.TheVariants.{Reads, Ends, Stuck}
use Rattle.strategy_parse.specs.declared.modules.place.SortUse.{SortUse}
use Rattle.strategy_parse.specs.declared.modules.place.SortUse.TheVariants.{Item, Constant, Argument, Own}
use Rattle.strategy_parse.specs.declared.modules.place.Parameters.{Parameters}
use Rattle.strategy_parse.specs.declared.modules.place.Parameters.TheVariants.{Strategies, Terms}
use Rattle.strategy_parse.specs.declared.modules.place.BodyPart.{BodyPart}
use Rattle.strategy_parse.specs.declared.modules.place.BodyPart.TheVariants.{Strategy as Body, Left, Right}
use Rattle.strategy_parse.specs.declared.modules.place.ModulePlace.{ModulePlace}
use Rattle.strategy_parse.specs.declared.modules.place.ModulePlace.TheVariants as place
use Rattle.strategy_parse.specs.Core.{core_module}
use Rattle.strategy_parse.specs.inside.Fronts.{Stops}
use Rattle.strategy_parse.specs.inside.ModuleFronts.{sorts_from, sort_goes, sort_step}
use Rattle.strategy_parse.specs.inside.ModulePlaces.{named, item, part, between, separated, sort_ended, sort_next, after_header, terms_next, after_names, first_name, after_part, next_place, open_brackets, CanEnd}
use Rattle.strategy_parse.specs.inside.Sections.{next_context, nothing}
use Rattle.strategy_parse.proofs.FinishLemmas.{some_name}
use Rattle.strategy_parse.proofs.SectionWords.{left_nothing}
use Rattle.strategy_parse.proofs.SortLemmas.{sorts_depth}
use Rattle.strategy_parse.proofs.PlaceRests.{Parts, InBody, InRight, AfterHeader, AfterPart, AfterSorts, InSorts, Rest}

-- ---- the rest may be empty

end_here : (p : Context) → Parts p []
end_here p = (nothing, left_nothing p)

sorts_end_here : (p : SortState) (d : ℕ) → sort_step p d Bad ≡ Ends → sorts_from p d 1 [] ≡ Some (1, [])
sorts_end_here p d h = ap (sort_goes (λ q e. None) (Some (1, []))) h

pub can_end : (p : ModulePlace) → CanEnd p → Rest p []
can_end (place.Between p) h = end_here p
can_end (place.Sort Item p d) h = (1, [], sorts_end_here p d h, (refl, end_here Sorts))
can_end (place.Sort Constant p d) h = (1, [], sorts_end_here p d h, inr (refl, end_here Constructors))
can_end (place.Sort Own p d) h = (1, [], sorts_end_here p d h, (refl, end_here Constructors))
can_end (place.Sort Argument p d) h = absurd h
can_end (place.Body Body) h = end_here Definitions
can_end (place.Body Right) h = inl (end_here Definitions)
can_end (place.Body Left) h = absurd h
can_end place.Start h = absurd h
can_end place.Titled h = absurd h
can_end place.Declared h = absurd h
can_end place.Header h = absurd h
can_end (place.FirstName b) h = absurd h
can_end (place.Name b) h = absurd h
can_end (place.Comma b) h = absurd h
can_end place.Headed h = absurd h

-- ---- tokens for the rest

body_rest : InBody (Reserved Id ∷ [])
body_rest = (syntax.id, [], refl, end_here Definitions)

header_rest : AfterHeader (ASign Equals ∷ (Reserved Id ∷ []))
header_rest = inl (Reserved Id ∷ [], refl, body_rest)

right_rest : InRight (Wildcard ∷ [])
right_rest = (syntax.matches syntax.wildcard, [], refl, inl (end_here Definitions))

pub part_rest : (k : BodyPart) → (y : List Token) × Stops y × AfterPart k y
part_rest Body = ([], tt, end_here Definitions)
part_rest Left = (ASign RightArrow ∷ (Wildcard ∷ []), refl, (Wildcard ∷ [], refl, right_rest))
part_rest Right = ([], tt, inl (end_here Definitions))

-- after a whole sort
sorts_after : (u : SortUse) → (y : List Token) × AfterSorts u 1 y × (sorts_from Closed 0 1 y ≡ Some (1, y))
    × (sorts_from Named 0 1 y ≡ Some (1, y))
sorts_after Item = ([], (refl, end_here Sorts), refl, refl)
sorts_after Own = ([], (refl, end_here Constructors), refl, refl)
sorts_after Constant = ([], inr (refl, end_here Constructors), refl, refl)
sorts_after Argument = (
  ASign RightArrow ∷ (Ident some_name ∷ []),
  (Ident some_name ∷ [], refl, (1, [], refl, (refl, end_here Constructors))),
  refl,
  refl,
)

abbrev SortsRest : SortUse → SortState → ℕ → Type 0
SortsRest u p d = (x : List Token) × InSorts u p d x

closed_rest : (u : SortUse) (d : ℕ) → SortsRest u Closed d
closed_rest u zero = let a = sorts_after u in (a.0, (1, a.0, a.2, a.1))
closed_rest u (suc d) = let m : SortsRest u Closed d = closed_rest u d in (ASign CloseRound ∷ m.0, m.1)

named_rest : (u : SortUse) (d : ℕ) → SortsRest u Named d
named_rest u zero = let a = sorts_after u in (a.0, (1, a.0, a.3, a.1))
named_rest u (suc d) = let m : SortsRest u Closed d = closed_rest u d in (ASign CloseRound ∷ m.0, m.1)

sorts_rest : (u : SortUse) (p : SortState) (d : ℕ) → SortsRest u p d
sorts_rest u Closed d = closed_rest u d
sorts_rest u Named d = named_rest u d
sorts_rest u Begins d = let m : SortsRest u Named d = named_rest u d in (Ident some_name ∷ m.0, m.1)

pub place_rest : (p : ModulePlace) → (x : List Token) × Rest p x
place_rest place.Start = ([], (core_module [], ([], ([], inr refl, refl), refl)))
place_rest place.Titled = (Ident some_name ∷ [], (some_name, [], refl, end_here Outside))
place_rest (place.Between p) = ([], end_here p)
place_rest place.Declared = let s : SortsRest Constant Begins 0 = sorts_rest Constant Begins 0 in
    (ASign Colon ∷ s.0, (s.0, refl, s.1))
place_rest (place.Sort u p d) = sorts_rest u p d
place_rest place.Header = (
  ASign Equals ∷ (Reserved Id ∷ []),
  ([], [], ASign Equals ∷ (Reserved Id ∷ []), inr (refl, refl, refl), header_rest),
)
place_rest (place.FirstName b) = (
  ASign CloseRound ∷ (ASign Equals ∷ (Reserved Id ∷ [])),
  ([], CloseRound, ASign Equals ∷ (Reserved Id ∷ []), refl, inl (refl, header_rest)),
)
place_rest (place.Name b) = (
  ASign CloseRound ∷ (ASign Equals ∷ (Reserved Id ∷ [])),
  ([], CloseRound, ASign Equals ∷ (Reserved Id ∷ []), refl, inl (refl, header_rest)),
)
place_rest (place.Comma b) = (
  Ident some_name ∷ (ASign CloseRound ∷ (ASign Equals ∷ (Reserved Id ∷ []))),
  (
    some_name,
    ASign CloseRound ∷ (ASign Equals ∷ (Reserved Id ∷ [])),
    refl,
    ([], CloseRound, ASign Equals ∷ (Reserved Id ∷ []), refl, inl (refl, header_rest)),
  ),
)
place_rest place.Headed = (ASign Equals ∷ (Reserved Id ∷ []), header_rest)
place_rest (place.Body k) = let r = part_rest k in (r.0, r.2)

-- ---- open brackets

abbrev Opens : ℕ → Option ModulePlace → Type 0
Opens n None = Unit {0}
Opens n (Some q) = open_brackets q ≤ n

either : (n : ℕ) (b : Bool) (X Y : Option ModulePlace) → Opens n X → Opens n Y → Opens n (if b then X else Y)
either n true X Y h k = h
either n false X Y h k = k

none : (n : ℕ) → 0 ≤ n
none n = omega arith

named_opens : (n : ℕ) (q : ModulePlace) (t : Token) → open_brackets q ≤ n → Opens n (named q t)
named_opens n q (Ident f) h = h
named_opens n q Wildcard h = tt
named_opens n q (Reserved w) h = tt
named_opens n q (Integer z) h = tt
named_opens n q (Text f) h = tt
named_opens n q (ASign s) h = tt
named_opens n q Bad h = tt

item_opens : (n : ℕ) (p : Context) (t : Token) → Opens n (item p t)
item_opens n Outside t = tt
item_opens n InSignature t = tt
item_opens n Sorts t = named_opens n (place.Sort Item Named 0) t (none n)
item_opens n Constructors t = either n (is_mark Colon t) (Some (place.Sort Argument Begins 0)) (named place.Declared t)
    (none n) (named_opens n place.Declared t (none n))
item_opens n Definitions t = named_opens n place.Header t (none n)

part_opens : (n : ℕ) (o : Option Context) → Opens n (part o)
part_opens n None = tt
part_opens n (Some q) = none n

between_opens : (n : ℕ) (p : Context) (t : Token) → Opens n (between p t)
between_opens n p (Reserved w) = part_opens n (next_context p w)
between_opens n p (Ident f) = item_opens n p (Ident f)
between_opens n p Wildcard = item_opens n p Wildcard
between_opens n p (Integer z) = item_opens n p (Integer z)
between_opens n p (Text f) = item_opens n p (Text f)
between_opens n p (ASign s) = item_opens n p (ASign s)
between_opens n p Bad = item_opens n p Bad

separated_opens : (n : ℕ) (t : Token) (o : Option ModulePlace) → Opens n o → Opens n (separated t o)
separated_opens n t o h =
    either n (is_mark Star t) (Some (place.Sort Argument Begins 0))
    (if (is_mark RightArrow t) then Some (place.Sort Own Begins 0) else o) (none n)
    (either n (is_mark RightArrow t) (Some (place.Sort Own Begins 0)) o (none n) h)

ended_opens : (n : ℕ) (u : SortUse) (t : Token) → Opens n (sort_ended u t)
ended_opens n Item t = between_opens n Sorts t
ended_opens n Own t = between_opens n Constructors t
ended_opens n Constant t = separated_opens n t (between Constructors t) (between_opens n Constructors t)
ended_opens n Argument t = separated_opens n t None tt

sort_opens : (u : SortUse) (p : SortState) (d : ℕ) (t : Token) (o : Turn) → o ≡ sort_step p d t
    → Opens (d + 1) (sort_next u t o)
sort_opens u p d t (Reads q e) h = sorts_depth p q d e t h
sort_opens u p d t Ends h = ended_opens (d + 1) u t
sort_opens u p d t Stuck h = tt

header_opens : (n : ℕ) (t : Token) → Opens n (after_header t)
header_opens n t =
    either n (is_mark Equals t) (Some (place.Body Body))
    (if (is_mark Colon t) then Some (place.Body Left) else None) (none n)
    (either n (is_mark Colon t) (Some (place.Body Left)) None (none n) tt)

terms_opens : (n : ℕ) (b : Parameters) → Opens n (terms_next b)
terms_opens n Strategies = none n
terms_opens n Terms = tt

names_opens : (n : ℕ) (b : Parameters) (t : Token) → Opens n (after_names b t)
names_opens n b t =
    either n (is_mark CloseRound t) (Some place.Headed) (if (is_mark Bar t) then terms_next b else None) (none n)
    (either n (is_mark Bar t) (terms_next b) None (terms_opens n b) tt)

first_opens : (n : ℕ) (b : Parameters) (t : Token) → Opens n (first_name b t)
first_opens n b (Ident f) = none n
first_opens n b Wildcard = names_opens n b Wildcard
first_opens n b (Reserved w) = names_opens n b (Reserved w)
first_opens n b (Integer z) = names_opens n b (Integer z)
first_opens n b (Text f) = names_opens n b (Text f)
first_opens n b (ASign s) = names_opens n b (ASign s)
first_opens n b Bad = names_opens n b Bad

after_opens : (n : ℕ) (k : BodyPart) (t : Token) → Opens n (after_part k t)
after_opens n Body t = between_opens n Definitions t
after_opens n Left t = either n (is_mark RightArrow t) (Some (place.Body Right)) None (none n) tt
after_opens n Right t =
    either n (is_word Where t) (Some (place.Body Body)) (between Definitions t) (none n) (between_opens n Definitions t)

next_opens : (p : ModulePlace) (t : Token) → Opens (open_brackets p + 1) (next_place p t)
next_opens place.Start t =
    either 1 (is_word Module t) (Some place.Titled) (between Outside t) (none 1) (between_opens 1 Outside t)
next_opens place.Titled t = named_opens 1 (place.Between Outside) t (none 1)
next_opens (place.Between p) t = between_opens 1 p t
next_opens place.Declared t = either 1 (is_mark Colon t) (Some (place.Sort Constant Begins 0)) None (none 1) tt
next_opens (place.Sort u p d) t = sort_opens u p d t (sort_step p d t) refl
next_opens place.Header t =
    either 1 (is_mark OpenRound t) (Some (place.FirstName Strategies)) (after_header t) (none 1) (header_opens 1 t)
next_opens (place.FirstName b) t = first_opens 1 b t
next_opens (place.Name b) t =
    either 1 (is_mark Comma t) (Some (place.Comma b)) (after_names b t) (none 1) (names_opens 1 b t)
next_opens (place.Comma b) t = named_opens 1 (place.Name b) t (none 1)
next_opens place.Headed t = header_opens 1 t
next_opens (place.Body k) t = after_opens 1 k t

pub next_deeper : (p q : ModulePlace) (t : Token) → next_place p t ≡ Some q → open_brackets q ≤ open_brackets p + 1
next_deeper p q t e = subst (Opens (open_brackets p + 1)) e (next_opens p t)
