-- What items of a module read from the start of some tokens.
use Rattle.std.proofs.Common.{◌≡◌, suc, ◌+◌, ◌<◌, refl, sym, ap, ◌∙◌, inl, inr, List, [], ◌∷◌, ◌++◌, Some, None, length, length-append, arith}
use Rattle.std.specs.Prelude.{◌⊎◌}
use Rattle.std.specs.declared.option.Option.{Option}
use Rattle.term_core.specs.Tree.{Symbol}
use Rattle.strategy_tokens.specs.declared.token.Token.{Token}
use Rattle.strategy_tokens.specs.declared.token.Token.TheVariants.{Ident, Sign as ASign}
use Rattle.strategy_tokens.specs.declared.token.Keyword.TheVariants.{Where}
use Rattle.strategy_tokens.specs.declared.token.Sign.TheVariants.{OpenRound, CloseRound, Comma, Colon, Bar, Equals, Arrow as RightArrow, Star}
use Rattle.term_sorts.specs.Sorts.{Sort, sort, Sorts, no_sorts, and_sort}
use Rattle.strategy_parse.specs.Written.{Declaration, constant, function, Header, Defined, definition, rule, rule_where}
use Rattle.aterm_text.specs.Grammar.{◌▸◌}
use Rattle.strategy_parse.specs.Grammar.{Reading, Mark, ReadsNames}
use Rattle.strategy_parse.specs.GrammarModules.{ReadsSort, ReadsMoreSorts, ReadsOptionalName, ReadsDeclaration, ReadsParameters, ReadsHeader, ReadsDefined}
use Rattle.strategy_parse.proofs.Frames.{Front, Framed, next_framed, word_framed, mark_framed, then_framed, names_framed, pattern_framed, choice_framed}

mutual
  sort_framed : (s : Sort) → Framed (ReadsSort s)
  sort_framed (sort f no_sorts) = next_framed (Ident f)
  sort_framed (sort f (and_sort s ss)) =
      then_framed (next_framed (Ident f)) (then_framed (mark_framed OpenRound)
      (then_framed (sort_framed s) (inner_framed ss)))

  inner_framed : (ss : Sorts) → Framed (ReadsMoreSorts ss Comma (Mark CloseRound))
  inner_framed no_sorts = mark_framed CloseRound
  inner_framed (and_sort s ss) = then_framed (mark_framed Comma) (then_framed (sort_framed s) (inner_framed ss))

arguments_framed : (ss : Sorts) → Framed (ReadsMoreSorts ss Star (Mark RightArrow))
arguments_framed no_sorts = mark_framed RightArrow
arguments_framed (and_sort s ss) = then_framed (mark_framed Star) (then_framed (sort_framed s) (arguments_framed ss))

optional_framed : (f : Option Symbol) → Framed (ReadsOptionalName f)
optional_framed None = record { frames = λ u v h. record { taken = []; splits = sym h; anywhere = λ z. refl } }
optional_framed (Some f) = next_framed (Ident f)

declaration_framed : (d : Declaration) → Framed (ReadsDeclaration d)
declaration_framed (constant f s) =
    then_framed (next_framed (Ident f)) (then_framed (mark_framed Colon) (sort_framed s))
declaration_framed (function f no_sorts r) = record { frames = λ u v h. absurd h }
declaration_framed (function f (and_sort s ss) r) =
    then_framed (optional_framed f) (then_framed (mark_framed Colon) (then_framed (sort_framed s)
    (then_framed (arguments_framed ss) (sort_framed r))))

parameters_front : (ss ts : List Symbol) (u v : List Token) → ReadsParameters ss ts u v
    → Front (ReadsParameters ss ts) u v
parameters_front ss ts u v (inl h) =
    let f : Front (ReadsNames ss CloseRound) u v = (names_framed ss CloseRound).frames u v h.1 in
    record { taken = f.taken; splits = f.splits; anywhere = λ z. inl (h.0, f.anywhere z) }
parameters_front ss ts u v (inr h) =
    let both : Framed (ReadsNames ss Bar ▸ ReadsNames ts CloseRound) =
    then_framed (names_framed ss Bar) (names_framed ts CloseRound) in
    let f : Front (ReadsNames ss Bar ▸ ReadsNames ts CloseRound) u v = both.frames u v h in
    record { taken = f.taken; splits = f.splits; anywhere = λ z. inr (f.anywhere z) }

abbrev Brackets : Header → Reading
Brackets h x y =
    (Mark OpenRound ▸ ReadsParameters h.strategies h.terms) x y ⊎ ((y ≡ x) × (h.strategies ≡ []) × (h.terms ≡ []))

brackets_front : (h : Header) (u v : List Token) → Brackets h u v → Front (Brackets h) u v
brackets_front h u v (inl r) =
    let inside : Framed (ReadsParameters h.strategies h.terms) =
    record { frames = parameters_front h.strategies h.terms } in
    let both : Framed (Mark OpenRound ▸ ReadsParameters h.strategies h.terms) =
    then_framed (mark_framed OpenRound) inside in
    let f : Front (Mark OpenRound ▸ ReadsParameters h.strategies h.terms) u v = both.frames u v r in
    record { taken = f.taken; splits = f.splits; anywhere = λ z. inl (f.anywhere z) }
brackets_front h u v (inr r) = record { taken = []; splits = sym r.0; anywhere = λ z. inr (refl, r.1, r.2) }

header_framed : (h : Header) → Framed (ReadsHeader h)
header_framed h =
    let brackets : Framed (Brackets h) = record { frames = brackets_front h } in
    then_framed (next_framed (Ident h.name)) brackets

defined_framed : (d : Defined) → Framed (ReadsDefined d)
defined_framed (definition h a) = then_framed (header_framed h) (then_framed (mark_framed Equals) (choice_framed a))
defined_framed (rule h p q) =
    then_framed (header_framed h) (then_framed (mark_framed Colon) (then_framed (pattern_framed p)
    (then_framed (mark_framed RightArrow) (pattern_framed q))))
defined_framed (rule_where h p q a) =
    then_framed (header_framed h) (then_framed (mark_framed Colon) (then_framed (pattern_framed p)
    (then_framed (mark_framed RightArrow)
    (then_framed (pattern_framed q) (then_framed (word_framed Where) (choice_framed a))))))

-- a reading that doesn't accept the empty list consumes a token
module _ (R : Reading) (f : Framed R) (some : R [] [] → ⊥) (x y : List Token) (h : R x y) where
  takes : (t : List Token) → x ≡ t ++ y → R (t ++ []) [] → length y < length x
  takes [] e r = absurd (some r)
  takes (t ∷ ts) e r =
      let l : length x ≡ suc (length (ts ++ y)) = ap length e in
      let k : length (ts ++ y) ≡ length ts + length y = length-append ts y in
      omega arith

  shorter : length y < length x
  shorter =
      let g : Front R x y = f.frames x y h in
      takes g.taken g.splits (g.anywhere [])

sort_some : (s : Sort) → ReadsSort s [] [] → ⊥
sort_some (sort f no_sorts) h = cc
sort_some (sort f (and_sort s ss)) h = let no : ◌≡◌ {A = List Token} [] (Ident f ∷ h.0) = h.1 in cc

declaration_some : (d : Declaration) → ReadsDeclaration d [] [] → ⊥
declaration_some (constant f s) h = let no : ◌≡◌ {A = List Token} [] (Ident f ∷ h.0) = h.1 in cc
declaration_some (function f no_sorts r) h = h
declaration_some (function (Some f) (and_sort s ss) r) h = let no : ◌≡◌ {A = List Token} [] (Ident f ∷ h.0) = h.1 in cc
declaration_some (function None (and_sort s ss) r) h = let no : ◌≡◌ {A = List Token} [] (ASign Colon ∷ h.2.0) = sym h.1
    ∙ h.2.1 in cc

defined_some : (d : Defined) → ReadsDefined d [] [] → ⊥
defined_some (definition h a) r = let no : ◌≡◌ {A = List Token} [] (Ident h.name ∷ r.1.0) = r.1.1 in cc
defined_some (rule h p q) r = let no : ◌≡◌ {A = List Token} [] (Ident h.name ∷ r.1.0) = r.1.1 in cc
defined_some (rule_where h p q a) r = let no : ◌≡◌ {A = List Token} [] (Ident h.name ∷ r.1.0) = r.1.1 in cc

pub sort_shorter : (s : Sort) (x y : List Token) → ReadsSort s x y → length y < length x
sort_shorter s x y h = shorter (ReadsSort s) (sort_framed s) (sort_some s) x y h

pub declaration_shorter : (d : Declaration) (x y : List Token) → ReadsDeclaration d x y → length y < length x
declaration_shorter d x y h = shorter (ReadsDeclaration d) (declaration_framed d) (declaration_some d) x y h

pub defined_shorter : (d : Defined) (x y : List Token) → ReadsDefined d x y → length y < length x
defined_shorter d x y h = shorter (ReadsDefined d) (defined_framed d) (defined_some d) x y h
