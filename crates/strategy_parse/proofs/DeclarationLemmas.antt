-- Declarations, by the grammar and as the functions find them.
use Rattle.std.proofs.Common.{◌≡◌, ℕ, refl, sym, ap, ◌∙◌, subst, List, [], ◌∷◌, Some, None}
use Rattle.std.specs.declared.option.Option.{Option}
use Rattle.term_core.specs.Tree.{Symbol}
use Rattle.term_sorts.specs.Sorts.{Sort, Sorts, no_sorts, and_sort}
use Rattle.strategy_tokens.specs.declared.token.Token.{Token}
use Rattle.strategy_tokens.specs.declared.token.Token.TheVariants.{Ident, Wildcard, Reserved, Integer, Text, Sign as ASign, Bad}
use Rattle.strategy_tokens.specs.declared.token.Sign.TheVariants.{OpenRound, Colon, Arrow as RightArrow, Star}
use Rattle.strategy_parse.specs.Written.{Declaration, constant, function}
use Rattle.strategy_parse.specs.Grammar.{Mark}
use Rattle.strategy_parse.specs.GrammarModules.{ReadsSort, ReadsMoreSorts, ReadsOptionalName, ReadsDeclaration}
use Rattle.strategy_parse.specs.declared.modules.declarations.Declared.{Declared}
use Rattle.strategy_parse.specs.Core.{core_sort}
use Rattle.strategy_parse.specs.inside.ModuleFronts.{after_mark, KeptLeft, kept_at, one_kept, DeclaredLeft, declared_of, after_result, without_arrow, after_arrow, after_arguments, after_colon, declaration_at, module_with}
use Rattle.strategy_parse.specs.inside.Sections.{declaring_one}
use Rattle.strategy_parse.specs.inside.NextToken.{NoMark}
use Rattle.strategy_parse.proofs.HeaderLemmas.{after_found, after_none, mark_found}
use Rattle.strategy_parse.proofs.SortLemmas.{core_list, sorts_kept, sort_kept_alone, to_arrow, at_arrow, SortsFound, kept_found, KeptAlone, kept_alone, one_kept-is}

-- the next token doesn't continue a declaration
pub record DeclarationEnds (y : List Token) : Type 0 where
  pub round : NoMark OpenRound y
  pub star : NoMark Star y
  pub arrow : NoMark RightArrow y

-- what a declaration declares
abbrev pub core_declared : Declaration → Declared
core_declared (constant f s) = declared_of (Some f) [] (core_sort s)
core_declared (function f ss r) = declared_of f (core_list ss) (core_sort r)

pub declares : (d : Declaration) → module_with (core_declared d) ≡ declaring_one d
declares (constant f s) = refl
declares (function None ss r) = refl
declares (function (Some f) ss r) = refl

-- ---- from the grammar to the functions

constant_named : (f : Symbol) (s : Sort) (x y : List Token) → ReadsSort s x y → DeclarationEnds y
    → after_arguments (Some f) (kept_at x) ≡ Some (core_declared (constant f s), y)
constant_named f s x y h e =
    ap (after_arguments (Some f)) (sorts_kept s no_sorts x y y h refl e.round e.star)
    ∙ ap (after_arrow (Some f) (core_sort s ∷ []) y) (after_none RightArrow y e.arrow)

function_named : (f : Option Symbol) (s : Sort) (ss : Sorts) (r : Sort) (x a b y : List Token) → ReadsSort s x a
    → ReadsMoreSorts ss Star (Mark RightArrow) a b → ReadsSort r b y → DeclarationEnds y
    → after_arguments f (kept_at x) ≡ Some (core_declared (function f (and_sort s ss) r), y)
function_named f s ss r x a b y h k l e =
    ap (after_arguments f) (sorts_kept s ss x a (ASign RightArrow ∷ b) h (to_arrow ss a b k) refl refl)
    ∙ ap (after_arrow f (core_list (and_sort s ss)) (ASign RightArrow ∷ b)) (after_found RightArrow b)
    ∙ ap (after_result f (core_list (and_sort s ss))) (sort_kept_alone r b y l e.round e.star)

pub declaration_named : (d : Declaration) (x y : List Token) → ReadsDeclaration d x y → DeclarationEnds y
    → declaration_at x ≡ Some (core_declared d, y)
declaration_named (constant f s) x y h e =
    rw h.1 (ap (λ l. after_colon (Some f) (after_mark Colon l)) h.2.1
    ∙ ap (after_colon (Some f)) (after_found Colon h.2.0)
    ∙ constant_named f s h.2.0 y h.2.2 e)
declaration_named (function f no_sorts r) x y h e = absurd h
declaration_named (function (Some f) (and_sort s ss) r) x y h e =
    rw h.1 (ap (λ l. after_colon (Some f) (after_mark Colon l)) h.2.1
    ∙ ap (after_colon (Some f)) (after_found Colon h.2.0)
    ∙ function_named (Some f) s ss r h.2.0 h.2.2.0 h.2.2.2.0 y h.2.2.1 h.2.2.2.1 h.2.2.2.2 e)
declaration_named (function None (and_sort s ss) r) x y h e =
    let front : x ≡ ASign Colon ∷ h.2.0 = sym h.1 ∙ h.2.1 in
    rw front (ap (after_colon None) (after_found Colon h.2.0)
    ∙ function_named None s ss r h.2.0 h.2.2.0 h.2.2.2.0 y h.2.2.1 h.2.2.2.1 h.2.2.2.2 e)

-- ---- from the functions to the grammar

pub record DeclarationFound (x : List Token) (d : Declared) (y : List Token) : Type 0 where
  pub declaration : Declaration
  pub reads : ReadsDeclaration declaration x y
  pub is : core_declared declaration ≡ d

declared-left : (a b : Declared) (x y : List Token) → ◌≡◌ {A = DeclaredLeft} (Some (a, x)) (Some (b, y)) → a ≡ b
declared-left a b x y e = let pair : ◌≡◌ {A = Declared × List Token} (a, x) (b, y) = cc in
    ap (λ (q : Declared × List Token). q.0) pair

declared-right : (a b : Declared) (x y : List Token) → ◌≡◌ {A = DeclaredLeft} (Some (a, x)) (Some (b, y)) → x ≡ y
declared-right a b x y e = let pair : ◌≡◌ {A = Declared × List Token} (a, x) (b, y) = cc in
    ap (λ (q : Declared × List Token). q.1) pair

module _ (f : Option Symbol) (x z b : List Token) (name : ReadsOptionalName f x z) (colon : z ≡ ASign Colon ∷ b) where
  pub function_read : (n : ℕ) (ss : List Sort) (a c y : List Token) (s : SortsFound b n ss a) → a ≡ ASign RightArrow
      ∷ c → (r : Sort) → ReadsSort r c y → ReadsDeclaration (function f (and_sort s.first s.more) r) x y
  function_read n ss a c y s e r result = (
    z,
    name,
    (
      b,
      colon,
      (
        s.after,
        s.reads,
        (
          c,
          at_arrow s.more s.after c (subst (λ l. ReadsMoreSorts s.more Star (λ u v. v ≡ u) s.after l) e s.reads_more),
          result,
        ),
      ),
    ),
  )

  arrow_found : (ss : List Sort) (a c : List Token) (d : Declared) (y : List Token) → kept_at b ≡ Some (ss, a)
      → a ≡ ASign RightArrow ∷ c
      → (w : Option (Sort × List Token)) → one_kept (kept_at c) ≡ w → after_result f ss w ≡ Some (d, y)
      → DeclarationFound x d y
  arrow_found ss a c d y h e None m k = absurd (cc)
  arrow_found ss a c d y h e (Some (r, v)) m k =
      let all = kept_found b ss a h in
      let s : SortsFound b all.0 ss a = all.1 in
      let own : KeptAlone r c v = kept_alone c (r ∷ []) r v refl (one_kept-is (kept_at c) r v m) in
      let read : ReadsDeclaration (function f (and_sort s.first s.more) own.0) x v =
      function_read all.0 ss a c v s e own.0 own.1 in
      record {
        declaration = function f (and_sort s.first s.more) own.0;
        reads = subst (λ l. ReadsDeclaration (function f (and_sort s.first s.more) own.0) x l)
            (declared-right (declared_of f ss r) d v y k) read;
        is =
            ap (λ l. declared_of f l (core_sort own.0)) (sym s.kept)
            ∙ ap (declared_of f ss) own.2 ∙ declared-left (declared_of f ss r) d v y k;
      }

constant_found : (f : Option Symbol) (x z b : List Token) → ReadsOptionalName f x z
    → z ≡ ASign Colon ∷ b → (ss : List Sort) (a : List Token) (d : Declared) (y : List Token) → kept_at b ≡ Some (ss, a)
    → without_arrow f ss a ≡ Some (d, y) → DeclarationFound x d y
constant_found None x z b name colon ss a d y h k = absurd (cc)
constant_found (Some f) x z b name colon [] a d y h k = absurd (cc)
constant_found (Some f) x z b name colon (r ∷ (q ∷ qs)) a d y h k = absurd (cc)
constant_found (Some f) x z b name colon (r ∷ []) a d y h k =
    let own : KeptAlone r b a = kept_alone b (r ∷ []) r a refl h in
    record {
      declaration = constant f own.0;
      reads = (
        z,
        name,
        (b, colon, subst (λ l. ReadsSort own.0 b l) (declared-right (declared_of (Some f) [] r) d a y k) own.1),
      );
      is = ap (declared_of (Some f) []) own.2 ∙ declared-left (declared_of (Some f) [] r) d a y k;
    }

arrow_or_not : (f : Option Symbol) (x z b : List Token) → ReadsOptionalName f x z
    → z ≡ ASign Colon ∷ b → (ss : List Sort) (a : List Token) (d : Declared) (y : List Token) → kept_at b ≡ Some (ss, a)
    → (w : Option (List Token)) → after_mark RightArrow a ≡ w → after_arrow f ss a w ≡ Some (d, y)
    → DeclarationFound x d y
arrow_or_not f x z b name colon ss a d y h (Some c) m k =
    arrow_found f x z b name colon ss a c d y h (mark_found RightArrow a c m) (one_kept (kept_at c)) refl k
arrow_or_not f x z b name colon ss a d y h None m k = constant_found f x z b name colon ss a d y h k

arguments_found : (f : Option Symbol) (x z b : List Token) → ReadsOptionalName f x z
    → z ≡ ASign Colon ∷ b → (d : Declared) (y : List Token)
    → (w : KeptLeft) → kept_at b ≡ w → after_arguments f w ≡ Some (d, y) → DeclarationFound x d y
arguments_found f x z b name colon d y None m k = absurd (cc)
arguments_found f x z b name colon d y (Some (ss, a)) m k =
    arrow_or_not f x z b name colon ss a d y m (after_mark RightArrow a) refl k

colon_found : (f : Option Symbol) (x z : List Token) → ReadsOptionalName f x z → (d : Declared) (y : List Token)
    → (w : Option (List Token)) → after_mark Colon z ≡ w → after_colon f w ≡ Some (d, y) → DeclarationFound x d y
colon_found f x z name d y None m k = absurd (cc)
colon_found f x z name d y (Some b) m k = arguments_found f x z b name (mark_found Colon z b m) d y (kept_at b) refl k

nameless : (x : List Token) (d : Declared) (y : List Token) → after_colon None (after_mark Colon x) ≡ Some (d, y)
    → DeclarationFound x d y
nameless x d y k = colon_found None x x refl d y (after_mark Colon x) refl k

pub declaration_found : (x : List Token) (d : Declared) (y : List Token) → declaration_at x ≡ Some (d, y)
    → DeclarationFound x d y
declaration_found [] d y k = nameless [] d y k
declaration_found (Ident f ∷ ts) d y k = colon_found (Some f) (Ident f ∷ ts) ts refl d y (after_mark Colon ts) refl k
declaration_found (Wildcard ∷ ts) d y k = nameless (Wildcard ∷ ts) d y k
declaration_found (Reserved w ∷ ts) d y k = nameless (Reserved w ∷ ts) d y k
declaration_found (Integer z ∷ ts) d y k = nameless (Integer z ∷ ts) d y k
declaration_found (Text f ∷ ts) d y k = nameless (Text f ∷ ts) d y k
declaration_found (ASign s ∷ ts) d y k = nameless (ASign s ∷ ts) d y k
declaration_found (Bad ∷ ts) d y k = nameless (Bad ∷ ts) d y k
