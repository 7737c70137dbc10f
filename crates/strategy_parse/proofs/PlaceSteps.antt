-- Each token leads from a place of a module to the next one: the rest after it is the same there. With a token that
-- leads nowhere no module goes on.
use Rattle.std.proofs.Common.{◌≡◌, ℕ, suc, Bool, true, false, ◌≤◌, refl, sym, ap, ◌∙◌, subst, inl, inr, List, [], ◌∷◌, Some, None, arith}
use Rattle.std.specs.Prelude.{if◌then◌else◌}
use Rattle.std.specs.declared.option.Option.{Option}
use Rattle.term_core.specs.Tree.{Symbol}
use Rattle.strategy_syntax.specs.Syntax as syntax
use Rattle.strategy_tokens.specs.declared.token.Token.{Token}
use Rattle.strategy_tokens.specs.declared.token.Token.TheVariants.{Ident, Wildcard, Reserved, Integer, Text, Sign as ASign, Bad}
use Rattle.strategy_tokens.specs.declared.token.Keyword.{Keyword}
use Rattle.strategy_tokens.specs.declared.token.Keyword.TheVariants.{Module as KModule, Where}
use Rattle.strategy_tokens.specs.declared.token.Sign.{Sign}
use Rattle.strategy_tokens.specs.declared.token.Sign.TheVariants.{OpenRound, CloseRound, Comma, Colon, Bar, Equals, Arrow as RightArrow, Star}
use Rattle.strategy_tokens.specs.Marks.{is_mark, is_word}
use Rattle.strategy_tokens.proofs.MarkLemmas.{mark_self, mark_is, word_is}
use Rattle.strategy_parse.specs.declared.modules.sections.Context.{Context}
use Rattle.strategy_parse.specs.declared.modules.sections.Context.TheVariants.{Outside, Signature as InSignature, Sorts, Constructors, Definitions}
use Rattle.strategy_parse.specs.declared.modules.sorts.SortState.{SortState}
use Rattle.strategy_parse.specs.declared.modules.sorts.SortState.TheVariants.{Begins, Named as SortNamed}
use Rattle.strategy_parse.specs.declared.modules.sorts.Turn.{Turn}
use Rattle.strategy_parse.specs.declared.modules.sorts.Turn.TheVariants.{Reads, Ends, Stuck}
use Rattle.strategy_parse.specs.declared.modules.place.SortUse.{SortUse}
use Rattle.strategy_parse.specs.declared.modules.place.SortUse.TheVariants.{Item, Constant, Argument, Own}
use Rattle.strategy_parse.specs.declared.modules.place.Parameters.{Parameters}
use Rattle.strategy_parse.specs.declared.modules.place.Parameters.TheVariants.{Strategies, Terms}
use Rattle.strategy_parse.specs.declared.modules.place.BodyPart.{BodyPart}
use Rattle.strategy_parse.specs.declared.modules.place.BodyPart.TheVariants.{Strategy as Body, Left, Right}
use Rattle.strategy_parse.specs.declared.modules.place.ModulePlace.{ModulePlace}
use Rattle.strategy_parse.specs.declared.modules.place.ModulePlace.TheVariants as place
use Rattle.term_sorts.specs.Sorts.{Sort, Sorts as SortList, no_sorts, and_sort}
use Rattle.strategy_parse.specs.Written.{Declaration, constant, function, Defined, definition, rule, rule_where}
use Rattle.strategy_parse.specs.Grammar.{ReadsNames, ReadsMoreNames, Mark}
use Rattle.strategy_parse.specs.GrammarModules.{ReadsSort, ReadsMoreSorts, ReadsDeclaration, ReadsDefined}
use Rattle.strategy_parse.specs.declared.parser.state.Order.TheVariants.{Run}
use Rattle.strategy_parse.specs.Core.{core, core_definition}
use Rattle.strategy_parse.specs.Gives.{GivesModule}
use Rattle.strategy_parse.specs.inside.Fronts.{Stops}
use Rattle.strategy_parse.specs.inside.ModuleFronts.{SortsLeft, sorts_from, sorts_at, sort_step, make_header}
use Rattle.strategy_parse.specs.inside.Definitions.{DefinitionEnds}
use Rattle.strategy_parse.specs.inside.ModulePlaces.{named, item, part, between, separated, sort_ended, sort_next, after_header, terms_next, after_names, first_name, after_part, next_place}
use Rattle.strategy_parse.specs.inside.Sections.{next_context, IsItem, joined, declaring_one, defining, Left as LeftIn}
use Rattle.strategy_parse.proofs.FrontGives.{choice-front, front-gives, pattern-front, front-pattern}
use Rattle.strategy_parse.proofs.SortLemmas.{sort_count, sorts_counted, sort_alone, to_arrow, one_is, one_sort-is, sort_found, SortsFound, sorts_found, sorts_least, star_more, star_less, OneLess, sorts_reads, sorts_end, sorts_stuck, sorts_star, ends-at}
use Rattle.strategy_parse.proofs.DeclarationLemmas.{DeclarationEnds, function_read}
use Rattle.strategy_parse.proofs.SectionWords.{Named, NamedOrColon, declaration_front, sort_named, defined_named, WordStep, word_step, word_back}
use Rattle.strategy_parse.proofs.SectionItems.{outside_item, signature_item, SortStep, sort_step as next_sort, sort_back, DeclarationStep, declaration_step, declaration_back, DefinitionStep, definition_step, definition_back}
use Rattle.strategy_parse.proofs.TitleLemmas.{titled, untitled, title_forth, plain_to}
use Rattle.strategy_parse.proofs.PlaceRests.{Parts, AfterMark, AfterIdent, InBody, AfterRight, InRight, InLeft, AfterHeader, InTerms, AfterNames, InNames, InMoreNames, Brackets, InHeader, InOwn, AfterSorts, InSorts, Rest, Begun}

-- the rest after the token is that of the next place
pub record Steps (p : ModulePlace) (t : Token) (q : ModulePlace) : Type 0 where
  pub forth : (x : List Token) → Rest p (t ∷ x) → Begun q x
  pub back : (x : List Token) → Begun q x → Rest p (t ∷ x)

abbrev pub StepIs : ModulePlace → Token → Option ModulePlace → Type 0
StepIs p t None = (x : List Token) → Rest p (t ∷ x) → ⊥
StepIs p t (Some q) = Steps p t q

-- ---- single tokens

heads : (t u : Token) (x z : List Token) → t ∷ x ≡ u ∷ z → t ≡ u
heads t u x z e = cc

tails : (t u : Token) (x z : List Token) → t ∷ x ≡ u ∷ z → x ≡ z
tails t u x z e = cc

not_mark : (m : Sign) (t : Token) → is_mark m t ≡ false → t ≡ ASign m → ⊥
not_mark m t e h = let non : true ≡ false = sym (mark_self m) ∙ ap (is_mark m) (sym h) ∙ e in cc

by_mark : (m : Sign) (p : ModulePlace) (t : Token) (X Y : Option ModulePlace) → (t ≡ ASign m → StepIs p t X)
    → ((t ≡ ASign m → ⊥) → StepIs p t Y) → StepIs p t (if (is_mark m t) then X else Y)
by_mark m p t X Y h k = at (is_mark m t) refl where
  at : (b : Bool) → is_mark m t ≡ b → StepIs p t (if b then X else Y)
  at true e = h (mark_is m t e)
  at false e = k (not_mark m t e)

by_word : (w : Keyword) (p : ModulePlace) (t : Token) (X Y : Option ModulePlace) → (t ≡ Reserved w → StepIs p t X)
    → (is_word w t ≡ false → StepIs p t Y) → StepIs p t (if (is_word w t) then X else Y)
by_word w p t X Y h k = at (is_word w t) refl where
  at : (b : Bool) → is_word w t ≡ b → StepIs p t (if b then X else Y)
  at true e = h (word_is w t e)
  at false e = k e

mark_in : (m : Sign) (K : List Token → Type 0) (t : Token) (x : List Token) → t ≡ ASign m → K x → AfterMark m K (t ∷ x)
mark_in m K t x e k = (x, ap (λ u. u ∷ x) e, k)

mark_out : (m : Sign) (K : List Token → Type 0) (t : Token) (x : List Token) → AfterMark m K (t ∷ x) → K x
mark_out m K t x (z, e, k) = subst K (sym (tails t (ASign m) x z e)) k

mark_none : (m : Sign) (K : List Token → Type 0) (t : Token) (x : List Token)
    → (t ≡ ASign m → ⊥) → AfterMark m K (t ∷ x) → ⊥
mark_none m K t x non (z, e, k) = non (heads t (ASign m) x z e)

abbrev IsIdent : Token → Type 0
IsIdent t = (f : Symbol) × (t ≡ Ident f)

by_name : (p q : ModulePlace) (t : Token) → ((f : Symbol) → Steps p (Ident f) q)
    → ((x : List Token) → Rest p (t ∷ x) → IsIdent t) → StepIs p t (named q t)
by_name p q (Ident f) h only = h f
by_name p q Wildcard h only = λ x r. let i : IsIdent Wildcard = only x r in let non : Wildcard ≡ Ident i.0 = i.1 in cc
by_name p q (Reserved w) h only = λ x r. let i : IsIdent (Reserved w) = only x r in
    let non : Reserved w ≡ Ident i.0 = i.1 in cc
by_name p q (Integer z) h only = λ x r. let i : IsIdent (Integer z) = only x r in
    let non : Integer z ≡ Ident i.0 = i.1 in cc
by_name p q (Text g) h only = λ x r. let i : IsIdent (Text g) = only x r in let non : Text g ≡ Ident i.0 = i.1 in cc
by_name p q (ASign s) h only = λ x r. let i : IsIdent (ASign s) = only x r in let non : ASign s ≡ Ident i.0 = i.1 in cc
by_name p q Bad h only = λ x r. let i : IsIdent Bad = only x r in let non : Bad ≡ Ident i.0 = i.1 in cc

ident_out : (K : List Token → Type 0) (f : Symbol) (x : List Token) → AfterIdent K (Ident f ∷ x) → K x
ident_out K f x (g, z, e, k) = subst K (sym (tails (Ident f) (Ident g) x z e)) k

ident_is : (K : List Token → Type 0) (t : Token) (x : List Token) → AfterIdent K (t ∷ x) → IsIdent t
ident_is K t x (g, z, e, k) = (g, heads t (Ident g) x z e)

-- two places with the same rest lead to the same places
same_step : (p q : ModulePlace) (t : Token) (o : Option ModulePlace)
    → ((x : List Token) → Rest p (t ∷ x) → Rest q (t ∷ x)) → ((x : List Token) → Rest q (t ∷ x) → Rest p (t ∷ x))
    → StepIs q t o → StepIs p t o
same_step p q t None to from h = λ x r. h x (to x r)
same_step p q t (Some n) to from h = record { forth = λ x r. h.forth x (to x r); back = λ x r. from x (h.back x r) }

-- ---- sorts

-- the first sort of a part of sorts
sort_begins : (f : Symbol) → Steps (place.Between Sorts) (Ident f) (place.Sort Item SortNamed 0)
sort_begins f = record { forth = forth; back = back } where
  forth : (x : List Token) → Parts Sorts (Ident f ∷ x) → InSorts Item SortNamed 0 x
  forth x (m, l) =
      let s : SortStep (Ident f ∷ x) m = next_sort (Ident f ∷ x) m l tt in (
        1,
        s.rest,
        one_is (sorts_at (Ident f ∷ x)) s.rest
            (sort_alone s.sort (Ident f ∷ x) s.rest s.reads s.ends.round s.ends.star),
        (refl, (m, s.left)),
      )

  back : (x : List Token) → InSorts Item SortNamed 0 x → Parts Sorts (Ident f ∷ x)
  back x (c, y, e, (one, (m, l))) =
      let found = sort_found (Ident f ∷ x) y (one_sort-is (sorts_at (Ident f ∷ x)) c y e one) in
      (m, sort_back found.0 (Ident f ∷ x) y m found.1 l)

-- ---- declarations

-- the sorts of the arguments, an arrow and a sort
abbrev Arrowed : List Token → Type 0
Arrowed x = (c : ℕ) × (y : List Token) × (sorts_at x ≡ Some (c, y)) × AfterMark RightArrow InOwn y

arrowed : (s : Sort) (ss : SortList) (r : Sort) (x a b v : List Token) → ReadsSort s x a → ReadsMoreSorts ss Star
    (Mark RightArrow) a b → ReadsSort r b v → DeclarationEnds v → Parts Constructors v → Arrowed x
arrowed s ss r x a b v h k l ends left = (
  sort_count (and_sort s ss),
  ASign RightArrow ∷ b,
  sorts_counted s ss x a (ASign RightArrow ∷ b) h (to_arrow ss a b k) refl refl,
  (b, refl, (1, v, one_is (sorts_at b) v (sort_alone r b v l ends.round ends.star), (refl, left))),
)

nameless_out : (d : Declaration) (x v : List Token) → ReadsDeclaration d (ASign Colon ∷ x) v → DeclarationEnds v
    → Parts Constructors v → Arrowed x
nameless_out (constant f s) x v h ends left = absurd (cc (h.1))
nameless_out (function f no_sorts r) x v h ends left = absurd h
nameless_out (function (Some f) (and_sort s ss) r) x v h ends left = absurd (cc (h.1))
nameless_out (function None (and_sort s ss) r) x v h ends left =
    subst Arrowed (sym (tails (ASign Colon) (ASign Colon) x h.2.0 (sym h.1 ∙ h.2.1)))
    (arrowed s ss r h.2.0 h.2.2.0 h.2.2.2.0 v h.2.2.1 h.2.2.2.1 h.2.2.2.2 ends left)

named_out : (d : Declaration) (f : Symbol) (x v : List Token) → ReadsDeclaration d (Ident f ∷ x) v → DeclarationEnds v
    → Parts Constructors v → AfterMark Colon (InSorts Constant Begins 0) x
named_out (constant g s) f x v h ends left = (
  h.2.0,
  tails (Ident f) (Ident g) x h.0 h.1 ∙ h.2.1,
  (1, v, sorts_counted s no_sorts h.2.0 v v h.2.2 refl ends.round ends.star, inr (refl, left)),
)
named_out (function g no_sorts r) f x v h ends left = absurd h
named_out (function (Some g) (and_sort s ss) r) f x v h ends left =
    let a : Arrowed h.2.0 = arrowed s ss r h.2.0 h.2.2.0 h.2.2.2.0 v h.2.2.1 h.2.2.2.1 h.2.2.2.2 ends left in
    (h.2.0, tails (Ident f) (Ident g) x h.0 h.1 ∙ h.2.1, (a.0, a.1, a.2, inl a.3))
named_out (function None (and_sort s ss) r) f x v h ends left =
    let non : Ident f ∷ x ≡ ASign Colon ∷ h.2.0 = sym h.1 ∙ h.2.1 in absurd (cc)

declared_in : (d : Declaration) (x y : List Token) → ReadsDeclaration d x y → Parts Constructors y
    → Parts Constructors x
declared_in d x y r (m, l) = (joined (declaring_one d) m, declaration_back d x y m r l)

colon_begins : (t : Token) → t ≡ ASign Colon → Steps (place.Between Constructors) t (place.Sort Argument Begins 0)
colon_begins t e = subst (λ u. Steps (place.Between Constructors) u (place.Sort Argument Begins 0)) (sym e)
    (record { forth = forth; back = back }) where
      forth : (x : List Token) → Parts Constructors (ASign Colon ∷ x) → InSorts Argument Begins 0 x
      forth x (m, l) =
          let s : DeclarationStep (ASign Colon ∷ x) m = declaration_step (ASign Colon ∷ x) m l tt in
          nameless_out s.declaration x s.rest s.reads s.ends (s.after, s.left)

      back : (x : List Token) → InSorts Argument Begins 0 x → Parts Constructors (ASign Colon ∷ x)
      back x (c, y, e, (z, arrow, (k, w, h, (one, left)))) =
          let own = sort_found z w (one_sort-is (sorts_at z) k w h one) in
          let all = sorts_found x c y e in
          let s : SortsFound x c all.0 y = all.1 in
          declared_in (function None (and_sort s.first s.more) own.0) (ASign Colon ∷ x) w
          (function_read None (ASign Colon ∷ x) (ASign Colon ∷ x) x refl refl c all.0 y z w s arrow own.0 own.1) left

constructor_begins : (f : Symbol) → Steps (place.Between Constructors) (Ident f) place.Declared
constructor_begins f = record { forth = forth; back = back } where
  forth : (x : List Token) → Parts Constructors (Ident f ∷ x) → AfterMark Colon (InSorts Constant Begins 0) x
  forth x (m, l) =
      let s : DeclarationStep (Ident f ∷ x) m = declaration_step (Ident f ∷ x) m l tt in
      named_out s.declaration f x s.rest s.reads s.ends (s.after, s.left)

  back : (x : List Token) → AfterMark Colon (InSorts Constant Begins 0) x → Parts Constructors (Ident f ∷ x)
  back x (b, colon, (c, y, e, (inl (z, arrow, (k, w, h, (one, left)))))) =
      let own = sort_found z w (one_sort-is (sorts_at z) k w h one) in
      let all = sorts_found b c y e in
      let s : SortsFound b c all.0 y = all.1 in
      declared_in (function (Some f) (and_sort s.first s.more) own.0) (Ident f ∷ x) w
      (function_read (Some f) (Ident f ∷ x) x b refl colon c all.0 y z w s arrow own.0 own.1) left
  back x (b, colon, (c, y, e, (inr (one, left)))) =
      let own = sort_found b y (one_sort-is (sorts_at b) c y e one) in
      declared_in (constant f own.0) (Ident f ∷ x) y (x, refl, (b, colon, own.1)) left

declaration_only : (t : Token) → (t ≡ ASign Colon → ⊥) → (x : List Token) → NamedOrColon (t ∷ x) → IsIdent t
declaration_only t non x (inl n) = (n.name, heads t (Ident n.name) x n.rest n.is)
declaration_only t non x (inr h) = absurd (non (heads t (ASign Colon) x h.0 h.1))

-- ---- definitions

arrow_stops : (y z : List Token) → y ≡ ASign RightArrow ∷ z → Stops y
arrow_stops y z e = subst Stops (sym e) refl

where_stops : (y z : List Token) → y ≡ Reserved Where ∷ z → Stops y
where_stops y z e = subst Stops (sym e) refl

-- a header and what comes after it
header_out : (f g : Symbol) (ss ts : List Symbol) (x z y : List Token) → Ident f ∷ x ≡ Ident g ∷ z → Brackets ss ts z y
    → AfterHeader y → InHeader x
header_out f g ss ts x z y e h k =
    (ss, ts, y, subst (λ l. Brackets ss ts l y) (sym (tails (Ident f) (Ident g) x z e)) h, k)

defined_out : (d : Defined) (f : Symbol) (x v : List Token) → ReadsDefined d (Ident f ∷ x) v → DefinitionEnds v
    → Parts Definitions v → InHeader x
defined_out (definition h a) f x v r ends left =
    header_out f h.name h.strategies h.terms x r.1.0 r.0 r.1.1 r.1.2
    (inl (r.2.0, r.2.1, (core Run a, v, choice-front a r.2.0 v r.2.2 ends.stops, left)))
defined_out (rule h p q) f x v r ends left =
    header_out f h.name h.strategies h.terms x r.1.0 r.0 r.1.1 r.1.2
    (inr (
      r.2.0,
      r.2.1,
      (
        syntax.matches p,
        r.2.2.0,
        pattern-front p r.2.0 r.2.2.0 r.2.2.1 (arrow_stops r.2.2.0 r.2.2.2.0 r.2.2.2.1),
        (r.2.2.2.0, r.2.2.2.1, (syntax.matches q, v, pattern-front q r.2.2.2.0 v r.2.2.2.2 ends.stops, inl left)),
      ),
    ))
defined_out (rule_where h p q a) f x v r ends left =
    let w = r.2.2.2.2 in
    header_out f h.name h.strategies h.terms x r.1.0 r.0 r.1.1 r.1.2
    (inr (
      r.2.0,
      r.2.1,
      (
        syntax.matches p,
        r.2.2.0,
        pattern-front p r.2.0 r.2.2.0 r.2.2.1 (arrow_stops r.2.2.0 r.2.2.2.0 r.2.2.2.1),
        (
          r.2.2.2.0,
          r.2.2.2.1,
          (
            syntax.matches q,
            w.0,
            pattern-front q r.2.2.2.0 w.0 w.1 (where_stops w.0 w.2.0 w.2.1),
            inr (w.2.0, w.2.1, (core Run a, v, choice-front a w.2.0 v w.2.2 ends.stops, left)),
          ),
        ),
      ),
    ))

definition_in : (d : Defined) (x y : List Token) → ReadsDefined d x y → Parts Definitions y → Parts Definitions x
definition_in d x y r (m, l) = (joined (defining (core_definition d ∷ [])) m, definition_back d x y m r l)

header_begins : (f : Symbol) → Steps (place.Between Definitions) (Ident f) place.Header
header_begins f = record { forth = forth; back = back } where
  forth : (x : List Token) → Parts Definitions (Ident f ∷ x) → InHeader x
  forth x (m, l) =
      let s : DefinitionStep (Ident f ∷ x) m = definition_step (Ident f ∷ x) m l tt in
      defined_out s.definition f x s.rest s.reads s.ends (s.after, s.left)

  back : (x : List Token) → InHeader x → Parts Definitions (Ident f ∷ x)
  back x (ss, ts, a, h, (inl (b, e, (s, y, k, left)))) =
      let u = front-gives b s y k in
      definition_in (definition (make_header f ss ts) u.0) (Ident f ∷ x) y (a, (x, refl, h), (b, e, u.1)) left
  back x (ss, ts, a, h, (inr (b, e, (s, c, k, (d, arrow, (r, v, l, (inl left))))))) =
      let p = front-pattern b s c k in
      let q = front-pattern d r v l in
      definition_in (rule (make_header f ss ts) p.0 q.0) (Ident f ∷ x) v
      (a, (x, refl, h), (b, e, (c, p.1, (d, arrow, q.1)))) left
  back x (ss, ts, a, h, (inr (b, e, (s, c, k, (d, arrow, (r, v, l, (inr (z, word, (o, y, n, left))))))))) =
      let p = front-pattern b s c k in
      let q = front-pattern d r v l in
      let u = front-gives z o y n in
      definition_in (rule_where (make_header f ss ts) p.0 q.0 u.0) (Ident f ∷ x) y
      (a, (x, refl, h), (b, e, (c, p.1, (d, arrow, (v, q.1, (z, word, u.1)))))) left

-- ---- between items

item_is : (p : Context) (t : Token) → ((x : List Token) → IsItem (t ∷ x)) → StepIs (place.Between p) t (item p t)
item_is Outside t i = λ x r. outside_item (t ∷ x) r.0 r.1 (i x)
item_is InSignature t i = λ x r. signature_item (t ∷ x) r.0 r.1 (i x)
item_is Sorts t i = by_name (place.Between Sorts) (place.Sort Item SortNamed 0) t sort_begins (λ x r.
    let s : SortStep (t ∷ x) r.0 = next_sort (t ∷ x) r.0 r.1 (i x) in
    let n : Named (t ∷ x) = sort_named s.sort (t ∷ x) s.rest s.reads in
    (n.name, heads t (Ident n.name) x n.rest n.is))
item_is Constructors t i =
    by_mark Colon (place.Between Constructors) t (Some (place.Sort Argument Begins 0)) (named place.Declared t)
    (colon_begins t)
    (λ non. by_name (place.Between Constructors) place.Declared t constructor_begins (λ x r.
    let s : DeclarationStep (t ∷ x) r.0 = declaration_step (t ∷ x) r.0 r.1 (i x) in
    declaration_only t non x (declaration_front s.declaration (t ∷ x) s.rest s.reads)))
item_is Definitions t i = by_name (place.Between Definitions) place.Header t header_begins (λ x r.
    let s : DefinitionStep (t ∷ x) r.0 = definition_step (t ∷ x) r.0 r.1 (i x) in
    let n : Named (t ∷ x) = defined_named s.definition (t ∷ x) s.rest s.reads in
    (n.name, heads t (Ident n.name) x n.rest n.is))

some-context : (q r : Context) → ◌≡◌ {A = Option Context} (Some q) (Some r) → q ≡ r
some-context q r e = cc

part_is : (p : Context) (w : Keyword) (o : Option Context)
    → next_context p w ≡ o → StepIs (place.Between p) (Reserved w) (part o)
part_is p w None e = λ x r.
    let s : WordStep p w x r.0 = word_step p w x r.0 r.1 in
    let non : ◌≡◌ {A = Option Context} None (Some s.context) = sym e ∙ s.is in
    cc
part_is p w (Some q) e = record { forth = forth; back = λ x r. (r.0, word_back p w q x r.0 e r.1) } where
  forth : (x : List Token) → Parts p (Reserved w ∷ x) → Parts q x
  forth x (m, l) =
      let s : WordStep p w x m = word_step p w x m l in
      (m, subst (λ r. LeftIn r x m) (some-context s.context q (sym s.is ∙ e)) s.left)

between_is : (p : Context) (t : Token) → StepIs (place.Between p) t (between p t)
between_is p (Reserved w) = part_is p w (next_context p w) refl
between_is p (Ident f) = item_is p (Ident f) (λ x. tt)
between_is p Wildcard = item_is p Wildcard (λ x. tt)
between_is p (Integer z) = item_is p (Integer z) (λ x. tt)
between_is p (Text f) = item_is p (Text f) (λ x. tt)
between_is p (ASign s) = item_is p (ASign s) (λ x. tt)
between_is p Bad = item_is p Bad (λ x. tt)

-- ---- the start

start_is : (t : Token) → StepIs place.Start t (next_place place.Start t)
start_is t =
    by_word KModule place.Start t (Some place.Titled) (between Outside t)
    (λ e. subst (λ u. Steps place.Start u place.Titled) (sym e) (record { forth = forth; back = back }))
    (λ non. same_step place.Start (place.Between Outside) t (between Outside t)
    (λ x r. (r.0, plain_to (t ∷ x) non r.0 r.1)) (λ x r. (r.0, untitled (t ∷ x) r.0 r.1)) (between_is Outside t)) where
      forth : (x : List Token) → Rest place.Start (Reserved KModule ∷ x) → AfterIdent (Parts Outside) x
      forth x (m, g) = let h = title_forth (Reserved KModule ∷ x) x m refl g in (h.0, h.1, h.2, (m, h.3))

      back : (x : List Token) → AfterIdent (Parts Outside) x → Rest place.Start (Reserved KModule ∷ x)
      back x (f, z, e, (m, l)) = (m, subst (λ y. GivesModule (Reserved KModule ∷ y) m) (sym e) (titled f z m l))

-- ---- in sorts

module _ (u : SortUse) (p : SortState) (d : ℕ) (t : Token) where
  sort_reads : (q : SortState) (e : ℕ) → Reads q e ≡ sort_step p d t → Steps (place.Sort u p d) t (place.Sort u q e)
  sort_reads q e h = record {
    forth = λ x r. (r.0, r.1, sorts_reads p d 1 (t ∷ x) t x q e refl h ∙ r.2, r.3);
    back = λ x r. (r.0, r.1, sym (sorts_reads p d 1 (t ∷ x) t x q e refl h) ∙ r.2, r.3);
  }

  sort_stops : Stuck ≡ sort_step p d t → (x : List Token) → InSorts u p d (t ∷ x) → ⊥
  sort_stops h x r = let non : ◌≡◌ {A = SortsLeft} None (Some (r.0, r.1)) = sym (sorts_stuck p d 1 (t ∷ x) t x refl h)
      ∙ r.2 in cc

  module _ (h : Ends ≡ sort_step p d t) where
    -- no star comes: the sorts end before the token
    ended : is_mark Star t ≡ false → (x : List Token) → sorts_from p d 1 (t ∷ x) ≡ Some (1, t ∷ x)
    ended non x = sorts_end p d 1 (t ∷ x) t x refl h non

    ended_out : is_mark Star t ≡ false → (x : List Token) → InSorts u p d (t ∷ x) → AfterSorts u 1 (t ∷ x)
    ended_out non x (c, y, e, k) =
        let both : ◌≡◌ {A = SortsLeft} (Some (c, y)) (Some (1, t ∷ x)) = sym e ∙ ended non x in
        let pair : ◌≡◌ {A = ℕ × List Token} (c, y) (1, t ∷ x) = cc in
        subst (λ (q : ℕ × List Token). AfterSorts u q.0 q.1) pair k

    ended_in : is_mark Star t ≡ false → (x : List Token) → AfterSorts u 1 (t ∷ x) → InSorts u p d (t ∷ x)
    ended_in non x k = (1, t ∷ x, ended non x, k)

    -- a star comes, and another sort
    starred : is_mark Star t ≡ true → (x : List Token) → sorts_from Begins 0 2 x ≡ sorts_from p d 1 (t ∷ x)
    starred star x = ap (λ e. sorts_from Begins e 2 x) (sym (ends-at p d t h))
        ∙ sorts_star p d 1 2 (t ∷ x) t x refl h star refl

    starred_many : is_mark Star t ≡ true → (x : List Token) (c : ℕ) (y : List Token)
        → sorts_from p d 1 (t ∷ x) ≡ Some (c, y) → c ≡ 1 → ⊥
    starred_many star x c y e one = let le : 2 ≤ c = sorts_least 2 c x y (starred star x ∙ e) in omega arith

    starred_out : is_mark Star t ≡ true → (x : List Token) (c : ℕ) (y : List Token)
        → sorts_from p d 1 (t ∷ x) ≡ Some (c, y) → OneLess (sorts_from Begins 0 1 x) c y
    starred_out star x c y e = star_less 1 c x y (starred star x ∙ e)

    starred_in : is_mark Star t ≡ true → (x : List Token) (c : ℕ) (y : List Token)
        → sorts_from Begins 0 1 x ≡ Some (c, y) → sorts_from p d 1 (t ∷ x) ≡ Some (suc c, y)
    starred_in star x c y e = sym (starred star x) ∙ star_more 1 c x y e

    -- one sort, before the rest in the context
    alone_is : (q : Context) → ((c : ℕ) (y : List Token) → AfterSorts u c y → (c ≡ 1) × Parts q y)
        → ((y : List Token) → Parts q y → AfterSorts u 1 y) → between q (ASign Star) ≡ None
        → StepIs (place.Sort u p d) t (between q t)
    alone_is q to from none = at (is_mark Star t) refl where
      at : (b : Bool) → is_mark Star t ≡ b → StepIs (place.Sort u p d) t (between q t)
      at true e = subst (StepIs (place.Sort u p d) t)
          (sym (ap (between q) (mark_is Star t e) ∙ none)) (λ x r. starred_many e x r.0 r.1 r.2 (to r.0 r.1 r.3).0)
      at false e = same_step (place.Sort u p d) (place.Between q) t (between q t)
          (λ x r. (to 1 (t ∷ x) (ended_out e x r)).1) (λ x k. ended_in e x (from (t ∷ x) k)) (between_is q t)

    -- sorts that a star or an arrow may follow
    separated_is : ((c : ℕ) (y : List Token) → (c ≡ 1 → ⊥) → AfterSorts u c y → AfterMark RightArrow InOwn y)
        → ((c : ℕ) (y : List Token) → AfterMark RightArrow InOwn y → AfterSorts u c y)
        → ((x : List Token) → AfterSorts u 1 (ASign RightArrow ∷ x) → AfterMark RightArrow InOwn (ASign RightArrow ∷ x))
        → (o : Option ModulePlace)
        → (is_mark Star t ≡ false → (t ≡ ASign RightArrow → ⊥) → StepIs (place.Sort u p d) t o)
        → StepIs (place.Sort u p d) t (separated t o)
    separated_is to from arrow o other = at (is_mark Star t) refl where
      at : (b : Bool) → is_mark Star t ≡ b → StepIs (place.Sort u p d) t (if b then Some (place.Sort Argument Begins 0)
          else if (is_mark RightArrow t) then Some (place.Sort Own Begins 0) else o)
      at true e = record {
        forth = λ x r.
            let less : OneLess (sorts_from Begins 0 1 x) r.0 r.1 = starred_out e x r.0 r.1 r.2 in
            (less.0, r.1, less.2, to r.0 r.1 (starred_many e x r.0 r.1 r.2) r.3);
        back = λ x r. (suc r.0, r.1, starred_in e x r.0 r.1 r.2, from (suc r.0) r.1 r.3);
      }
      at false e =
          by_mark RightArrow (place.Sort u p d) t (Some (place.Sort Own Begins 0)) o
          (λ is. record {
            forth = λ x r. mark_out RightArrow InOwn (ASign RightArrow) x
                (arrow x (subst (λ s. AfterSorts u 1 (s ∷ x)) is (ended_out e x r)));
            back = λ x r. ended_in e x (from 1 (t ∷ x) (mark_in RightArrow InOwn t x is r));
          })
          (other e)

sort_ended_is : (u : SortUse) (p : SortState) (d : ℕ) (t : Token) → Ends ≡ sort_step p d t
    → StepIs (place.Sort u p d) t (sort_ended u t)
sort_ended_is Item p d t h = alone_is Item p d t h Sorts (λ c y k. k) (λ y k. (refl, k)) refl
sort_ended_is Own p d t h = alone_is Own p d t h Constructors (λ c y k. k) (λ y k. (refl, k)) refl
sort_ended_is Argument p d t h =
    separated_is Argument p d t h (λ c y many k. k) (λ c y k. k) (λ x k. k) None
    (λ star non x r. mark_none RightArrow InOwn t x non (ended_out Argument p d t h star x r))
sort_ended_is Constant p d t h =
    separated_is Constant p d t h to (λ c y k. inl k) arrow (between Constructors t) other where
      to : (c : ℕ) (y : List Token) → (c ≡ 1 → ⊥) → AfterSorts Constant c y → AfterMark RightArrow InOwn y
      to c y many (inl k) = k
      to c y many (inr (one, left)) = absurd (many one)

      arrow : (x : List Token)
          → AfterSorts Constant 1 (ASign RightArrow ∷ x) → AfterMark RightArrow InOwn (ASign RightArrow ∷ x)
      arrow x (inl k) = k
      arrow x (inr (one, left)) = absurd (between_is Constructors (ASign RightArrow) x left)

      alone : (x : List Token) → (t ≡ ASign RightArrow → ⊥) → AfterSorts Constant 1 (t ∷ x) → Parts Constructors (t ∷ x)
      alone x non (inl k) = absurd (mark_none RightArrow InOwn t x non k)
      alone x non (inr (one, left)) = left

      other : is_mark Star t
          ≡ false → (t ≡ ASign RightArrow → ⊥) → StepIs (place.Sort Constant p d) t (between Constructors t)
      other star non =
          same_step (place.Sort Constant p d) (place.Between Constructors) t (between Constructors t)
          (λ x r. alone x non (ended_out Constant p d t h star x r))
          (λ x k. ended_in Constant p d t h star x (inr (refl, k))) (between_is Constructors t)

sort_is : (u : SortUse) (p : SortState) (d : ℕ) (t : Token) (o : Turn) → o ≡ sort_step p d t
    → StepIs (place.Sort u p d) t (sort_next u t o)
sort_is u p d t (Reads q e) h = sort_reads u p d t q e h
sort_is u p d t Ends h = sort_ended_is u p d t h
sort_is u p d t Stuck h = sort_stops u p d t h

-- ---- in headers

headed_is : (t : Token) → StepIs place.Headed t (after_header t)
headed_is t =
    by_mark Equals place.Headed t (Some (place.Body Body)) _
    (λ e. record { forth = λ x r. equals e x r; back = λ x r. inl (mark_in Equals InBody t x e r) })
    (λ non. by_mark Colon place.Headed t (Some (place.Body Left)) None
    (λ e. record { forth = λ x r. colon e x r; back = λ x r. inr (mark_in Colon InLeft t x e r) })
    (λ neither x r. other non neither x r)) where
      equals : t ≡ ASign Equals → (x : List Token) → AfterHeader (t ∷ x) → InBody x
      equals e x (inl r) = mark_out Equals InBody t x r
      equals e x (inr (z, c, r)) = let non : ASign Equals ≡ ASign Colon = sym e ∙ heads t (ASign Colon) x z c in
          absurd (cc)

      colon : t ≡ ASign Colon → (x : List Token) → AfterHeader (t ∷ x) → InLeft x
      colon e x (inl (z, c, r)) = let non : ASign Colon ≡ ASign Equals = sym e ∙ heads t (ASign Equals) x z c in
          absurd (cc)
      colon e x (inr r) = mark_out Colon InLeft t x r

      other : (t ≡ ASign Equals → ⊥) → (t ≡ ASign Colon → ⊥) → (x : List Token) → AfterHeader (t ∷ x) → ⊥
      other non neither x (inl r) = mark_none Equals InBody t x non r
      other non neither x (inr r) = mark_none Colon InLeft t x neither r

-- a header doesn't end before a bracket
no_header : (x : List Token) → AfterHeader (ASign OpenRound ∷ x) → ⊥
no_header x (inl (z, e, r)) = cc
no_header x (inr (z, e, r)) = cc

header_is : (t : Token) → StepIs place.Header t (next_place place.Header t)
header_is t =
    by_mark OpenRound place.Header t (Some (place.FirstName Strategies)) (after_header t)
    (λ e.
    subst (λ u. Steps place.Header u (place.FirstName Strategies)) (sym e) (record { forth = opened; back = closed }))
    (λ non. same_step place.Header place.Headed t (after_header t) (λ x r. bare non x r)
    (λ x r. ([], [], t ∷ x, inr (refl, refl, refl), r)) (headed_is t)) where
      opened : (x : List Token) → InHeader (ASign OpenRound ∷ x) → InNames Strategies x
      opened x (ss, ts, y, (inl (z, e, (inl (none, names)))), k) = (
        ss,
        CloseRound,
        y,
        subst (λ l. ReadsNames ss CloseRound l y) (sym (tails (ASign OpenRound) (ASign OpenRound) x z e)) names,
        inl (refl, k),
      )
      opened x (ss, ts, y, (inl (z, e, (inr (b, names, terms)))), k) = (
        ss,
        Bar,
        b,
        subst (λ l. ReadsNames ss Bar l b) (sym (tails (ASign OpenRound) (ASign OpenRound) x z e)) names,
        inr (refl, refl, (ts, y, terms, k)),
      )
      opened x (ss, ts, y, (inr (e, none, non)), k) = absurd (no_header x (subst AfterHeader e k))

      closed : (x : List Token) → InNames Strategies x → InHeader (ASign OpenRound ∷ x)
      closed x (fs, m, y, names, (inl (e, k))) =
          (fs, [], y, inl (x, refl, inl (refl, subst (λ s. ReadsNames fs s x y) e names)), k)
      closed x (fs, m, y, names, (inr (same, e, (ts, z, terms, k)))) =
          (fs, ts, z, inl (x, refl, inr (y, subst (λ s. ReadsNames fs s x y) e names, terms)), k)

      bare : (t ≡ ASign OpenRound → ⊥) → (x : List Token) → InHeader (t ∷ x) → AfterHeader (t ∷ x)
      bare non x (ss, ts, y, (inl (z, e, names)), k) = absurd (non (heads t (ASign OpenRound) x z e))
      bare non x (ss, ts, y, (inr (e, none, also)), k) = subst AfterHeader e k

-- the names end before the token
abbrev NamesEnd : Parameters → List Token → Type 0
NamesEnd b x = (m : Sign) × (y : List Token) × (x ≡ ASign m ∷ y) × AfterNames b m y

module _ (p : ModulePlace) (t : Token) where
  closes : (b : Parameters) → t ≡ ASign CloseRound → (x : List Token) → NamesEnd b (t ∷ x) → AfterHeader x
  closes b e x (m, y, h, (inl (same, k))) = subst AfterHeader (sym (tails t (ASign m) x y h)) k
  closes b e x (m, y, h, (inr (first, same, k))) =
      let non : ASign CloseRound ≡ ASign Bar = sym e ∙ heads t (ASign m) x y h ∙ ap ASign same in absurd (cc)

  bars : t ≡ ASign Bar → (x : List Token) → NamesEnd Strategies (t ∷ x) → InTerms x
  bars e x (m, y, h, (inl (same, k))) =
      let non : ASign Bar ≡ ASign CloseRound = sym e ∙ heads t (ASign m) x y h ∙ ap ASign same in absurd (cc)
  bars e x (m, y, h, (inr (first, same, k))) = subst InTerms (sym (tails t (ASign m) x y h)) k

  no_bar : (x : List Token) → t ≡ ASign Bar → NamesEnd Terms (t ∷ x) → ⊥
  no_bar x e (m, y, h, (inl (same, k))) =
      let non : ASign Bar ≡ ASign CloseRound = sym e ∙ heads t (ASign m) x y h ∙ ap ASign same in cc
  no_bar x e (m, y, h, (inr (first, same, k))) = cc

  neither : (b : Parameters) → (t ≡ ASign CloseRound → ⊥) → (t ≡ ASign Bar → ⊥) → (x : List Token)
      → NamesEnd b (t ∷ x) → ⊥
  neither b non none x (m, y, h, (inl (same, k))) = non (heads t (ASign m) x y h ∙ ap ASign same)
  neither b non none x (m, y, h, (inr (first, same, k))) = none (heads t (ASign m) x y h ∙ ap ASign same)

  terms_out : (fs : List Symbol) (m : Sign) (x z : List Token) → ReadsNames fs m x z → AfterNames Terms m z → InTerms x
  terms_out fs m x z names (inl (e, k)) = (fs, z, subst (λ s. ReadsNames fs s x z) e names, k)
  terms_out fs m x z names (inr (non, same, k)) = absurd (cc)

  terms_is : (b : Parameters) → ((x : List Token) → Rest p (t ∷ x) → NamesEnd b (t ∷ x))
      → ((x : List Token) → NamesEnd b (t ∷ x) → Rest p (t ∷ x)) → t ≡ ASign Bar → StepIs p t (terms_next b)
  terms_is Strategies to from e = record {
    forth = λ x r. let k : InTerms x = bars e x (to x r) in (k.0, CloseRound, k.1, k.2, inl (refl, k.3));
    back = λ x r. from x (Bar, x, ap (λ s. s ∷ x) e, inr (refl, refl, terms_out r.0 r.1 x r.2 r.3 r.4));
  }
  terms_is Terms to from e = λ x r. no_bar x e (to x r)

  names_end_is : (b : Parameters) → ((x : List Token) → Rest p (t ∷ x) → NamesEnd b (t ∷ x))
      → ((x : List Token) → NamesEnd b (t ∷ x) → Rest p (t ∷ x)) → StepIs p t (after_names b t)
  names_end_is b to from =
      by_mark CloseRound p t (Some place.Headed) _
      (λ e. record {
        forth = λ x r. closes b e x (to x r);
        back = λ x k. from x (CloseRound, x, ap (λ s. s ∷ x) e, inl (refl, k));
      })
      (λ non. by_mark Bar p t (terms_next b) None (terms_is b to from) (λ none x r. neither b non none x (to x r)))

-- the first name, or the end of no names
first_out : (b : Parameters) (f : Symbol) (x : List Token) → InNames b (Ident f ∷ x) → InMoreNames b x
first_out b f x ([], m, y, names, k) = absurd (cc)
first_out b f x (g ∷ fs, m, y, (z, e, names), k) =
    (fs, m, y, subst (λ l. ReadsMoreNames fs m l y) (sym (tails (Ident f) (Ident g) x z e)) names, k)

first_end : (b : Parameters) (t : Token) → ((f : Symbol) → t ≡ Ident f → ⊥) → (x : List Token)
    → InNames b (t ∷ x) → NamesEnd b (t ∷ x)
first_end b t non x ([], m, y, names, k) = (m, y, names, k)
first_end b t non x (g ∷ fs, m, y, (z, e, names), k) = absurd (non g (heads t (Ident g) x z e))

no_name_is : (b : Parameters) (t : Token)
    → ((f : Symbol) → t ≡ Ident f → ⊥) → StepIs (place.FirstName b) t (after_names b t)
no_name_is b t non = names_end_is (place.FirstName b) t b (first_end b t non) (λ x r. ([], r.0, r.1, r.2, r.3))

first_is : (b : Parameters) (t : Token) → StepIs (place.FirstName b) t (first_name b t)
first_is b (Ident f) = record { forth = first_out b f; back = λ x r. (f ∷ r.0, r.1, r.2, (x, refl, r.3), r.4) }
first_is b Wildcard = no_name_is b Wildcard (λ f e. cc)
first_is b (Reserved w) = no_name_is b (Reserved w) (λ f e. cc)
first_is b (Integer z) = no_name_is b (Integer z) (λ f e. cc)
first_is b (Text g) = no_name_is b (Text g) (λ f e. cc)
first_is b (ASign s) = no_name_is b (ASign s) (λ f e. cc)
first_is b Bad = no_name_is b Bad (λ f e. cc)

-- after a name
no_comma : (b : Parameters) (x : List Token) → AfterNames b Comma x → ⊥
no_comma b x (inl (e, k)) = cc
no_comma b x (inr (first, e, k)) = cc

comma_out : (b : Parameters) (t : Token) → t ≡ ASign Comma → (x : List Token)
    → InMoreNames b (t ∷ x) → AfterIdent (InMoreNames b) x
comma_out b t e x ([], m, y, names, k) =
    let is : ASign m ≡ ASign Comma = sym (heads t (ASign m) x y names) ∙ e in
    let same : m ≡ Comma = cc in
    absurd (no_comma b y (subst (λ s. AfterNames b s y) same k))
comma_out b t e x (g ∷ fs, m, y, (z, c, (v, i, names)), k) =
    (g, v, tails t (ASign Comma) x z c ∙ i, (fs, m, y, names, k))

comma_in : (b : Parameters) (t : Token) → t ≡ ASign Comma → (x : List Token) → AfterIdent (InMoreNames b) x
    → InMoreNames b (t ∷ x)
comma_in b t e x (g, v, i, (fs, m, y, names, k)) = (g ∷ fs, m, y, (x, ap (λ s. s ∷ x) e, (v, i, names)), k)

more_end : (b : Parameters) (t : Token) → (t ≡ ASign Comma → ⊥) → (x : List Token)
    → InMoreNames b (t ∷ x) → NamesEnd b (t ∷ x)
more_end b t non x ([], m, y, names, k) = (m, y, names, k)
more_end b t non x (g ∷ fs, m, y, (z, c, names), k) = absurd (non (heads t (ASign Comma) x z c))

name_is : (b : Parameters) (t : Token) → StepIs (place.Name b) t (next_place (place.Name b) t)
name_is b t =
    by_mark Comma (place.Name b) t (Some (place.Comma b)) (after_names b t)
    (λ e. record { forth = comma_out b t e; back = comma_in b t e })
    (λ non. names_end_is (place.Name b) t b (more_end b t non) (λ x r. ([], r.0, r.1, r.2, r.3)))

-- ---- after a part of a definition

part_step : (k : BodyPart) (t : Token) → StepIs (place.Body k) t (after_part k t)
part_step Body t = same_step (place.Body Body) (place.Between Definitions) t (between Definitions t) (λ x r. r)
    (λ x r. r) (between_is Definitions t)
part_step Left t =
    by_mark RightArrow (place.Body Left) t (Some (place.Body Right)) None
    (λ e. record { forth = λ x r. mark_out RightArrow InRight t x r; back = λ x r. mark_in RightArrow InRight t x e r })
    (λ non x r. mark_none RightArrow InRight t x non r)
part_step Right t =
    by_word Where (place.Body Right) t (Some (place.Body Body)) (between Definitions t)
    (λ e. record { forth = λ x r. condition e x r; back = λ x r. inr (x, ap (λ u. u ∷ x) e, r) })
    (λ non. same_step (place.Body Right) (place.Between Definitions) t (between Definitions t) (λ x r. other non x r)
    (λ x r. inl r) (between_is Definitions t)) where
      condition : t ≡ Reserved Where → (x : List Token) → AfterRight (t ∷ x) → InBody x
      condition e x (inl left) =
          absurd (between_is Definitions (Reserved Where) x (subst (λ u. Parts Definitions (u ∷ x)) e left))
      condition e x (inr (z, h, r)) = subst InBody (sym (tails t (Reserved Where) x z h)) r

      other : is_word Where t ≡ false → (x : List Token) → AfterRight (t ∷ x) → Parts Definitions (t ∷ x)
      other non x (inl left) = left
      other non x (inr (z, h, r)) = let same : true ≡ false = sym (ap (is_word Where) (heads t (Reserved Where) x z h))
          ∙ non in absurd (cc)

-- ---- at each place

pub step_is : (p : ModulePlace) (t : Token) → StepIs p t (next_place p t)
step_is place.Start t = start_is t
step_is place.Titled t =
    by_name place.Titled (place.Between Outside) t
    (λ f. record { forth = ident_out (Parts Outside) f; back = λ x r. (f, x, refl, r) }) (ident_is (Parts Outside) t)
step_is (place.Between p) t = between_is p t
step_is place.Declared t =
    by_mark Colon place.Declared t (Some (place.Sort Constant Begins 0)) None
    (λ e. record {
      forth = λ x r. mark_out Colon (InSorts Constant Begins 0) t x r;
      back = λ x r. mark_in Colon (InSorts Constant Begins 0) t x e r;
    })
    (λ non x r. mark_none Colon (InSorts Constant Begins 0) t x non r)
step_is (place.Sort u p d) t = sort_is u p d t (sort_step p d t) refl
step_is place.Header t = header_is t
step_is (place.FirstName b) t = first_is b t
step_is (place.Name b) t = name_is b t
step_is (place.Comma b) t =
    by_name (place.Comma b) (place.Name b) t
    (λ f. record { forth = ident_out (InMoreNames b) f; back = λ x r. (f, x, refl, r) }) (ident_is (InMoreNames b) t)
step_is place.Headed t = headed_is t
step_is (place.Body k) t = part_step k t
