-- The grammar of module texts, by cases on its productions.
--   module  = [ "module" ident ] { section }
--   section = "signature" { "sorts" { sort } | "constructors" { decl } }
--           | ( "rules" | "strategies" ) { def }
--   decl    = [ ident ] ":" sort { "*" sort } "->" sort | ident ":" sort
--   sort    = ident [ "(" sort { "," sort } ")" ]
--   def     = header "=" choice | header ":" pattern "->" pattern [ "where" choice ]
--   header  = ident [ "(" [ ident { "," ident } ] [ "|" [ ident { "," ident } ] ] ")" ]
use Rattle.std.specs.Prelude.{◌≡◌, List, [], ◌∷◌, ◌⊎◌, Some, None}
use Rattle.std.specs.declared.option.Option.{Option}
use Rattle.term_core.specs.Tree.{Symbol}
use Rattle.strategy_tokens.specs.declared.token.Token.{Token}
use Rattle.strategy_tokens.specs.declared.token.Token.TheVariants.{Ident}
use Rattle.strategy_tokens.specs.declared.token.Keyword.TheVariants.{Module, Signature as KSignature, Sorts as KSorts, Constructors, Rules, Strategies, Where}
use Rattle.strategy_tokens.specs.declared.token.Sign.{Sign}
use Rattle.strategy_tokens.specs.declared.token.Sign.TheVariants.{OpenRound, CloseRound, Comma, Colon, Bar, Equals, Arrow as RightArrow, Star}
use Rattle.term_sorts.specs.Sorts.{Sort, sort, Sorts, no_sorts, and_sort}
use Rattle.strategy_parse.specs.Written.{Declaration, constant, function, Header, Defined, definition, rule, rule_where, SignaturePart, sorts, constructors, Section, signature, definitions}
use Rattle.aterm_text.specs.Grammar.{◌▸◌}
use Rattle.strategy_parse.specs.Grammar.{Reading, Next, Word, Mark, ReadsPattern, ReadsNames, ReadsChoice}

-- ---- sorts and declarations

abbrev mutual
  pub ReadsSort : Sort → Reading
  ReadsSort (sort f no_sorts) = Next (Ident f)
  ReadsSort (sort f (and_sort s ss)) =
      Next (Ident f) ▸ Mark OpenRound ▸ ReadsSort s ▸ ReadsMoreSorts ss Comma (Mark CloseRound)

  -- the sorts after the first one, each after the sign, and then the end
  pub ReadsMoreSorts : Sorts → Sign → Reading → Reading
  ReadsMoreSorts no_sorts between end = end
  ReadsMoreSorts (and_sort s ss) between end =
      Mark between ▸ ReadsSort s ▸ ReadsMoreSorts ss between end

-- the name of a constructor, or none
abbrev pub ReadsOptionalName : Option Symbol → Reading
ReadsOptionalName None = λ u v. v ≡ u
ReadsOptionalName (Some f) = Next (Ident f)

abbrev pub ReadsDeclaration : Declaration → Reading
ReadsDeclaration (constant f s) = Next (Ident f) ▸ Mark Colon ▸ ReadsSort s
ReadsDeclaration (function f no_sorts r) = λ u v. ⊥
ReadsDeclaration (function f (and_sort s ss) r) =
    ReadsOptionalName f ▸ Mark Colon ▸ ReadsSort s ▸ ReadsMoreSorts ss Star (Mark RightArrow) ▸ ReadsSort r

-- ---- definitions

-- the parameters in brackets: strategies, and after a `|` terms
abbrev pub ReadsParameters : List Symbol → List Symbol → Reading
ReadsParameters ss ts =
    λ u v. ((ts ≡ []) × ReadsNames ss CloseRound u v) ⊎ (ReadsNames ss Bar ▸ ReadsNames ts CloseRound) u v

abbrev pub ReadsHeader : Header → Reading
ReadsHeader h =
    Next (Ident h.name) ▸ (λ x y. (Mark OpenRound ▸ ReadsParameters h.strategies h.terms) x y
    ⊎ ((y ≡ x) × (h.strategies ≡ []) × (h.terms ≡ [])))

abbrev pub ReadsDefined : Defined → Reading
ReadsDefined (definition h a) = ReadsHeader h ▸ Mark Equals ▸ ReadsChoice a
ReadsDefined (rule h p q) =
    ReadsHeader h ▸ Mark Colon ▸ ReadsPattern p ▸ Mark RightArrow ▸ ReadsPattern q
ReadsDefined (rule_where h p q a) =
    ReadsHeader h ▸ Mark Colon ▸ ReadsPattern p ▸ Mark RightArrow ▸ ReadsPattern q ▸ Word Where ▸ ReadsChoice a

-- ---- sections

-- any number of these, one after the other
abbrev pub ReadsAll : {X : Type 0} → (X → Reading) → List X → Reading
ReadsAll Reads [] = λ u v. v ≡ u
ReadsAll Reads (x ∷ xs) = Reads x ▸ ReadsAll Reads xs

abbrev pub ReadsSignaturePart : SignaturePart → Reading
ReadsSignaturePart (sorts ss) = Word KSorts ▸ ReadsAll ReadsSort ss
ReadsSignaturePart (constructors ds) = Word Constructors ▸ ReadsAll ReadsDeclaration ds

abbrev pub ReadsSection : Section → Reading
ReadsSection (signature ss) = Word KSignature ▸ ReadsAll ReadsSignaturePart ss
ReadsSection (definitions ds) =
    (λ x y. Word Rules x y ⊎ Word Strategies x y) ▸ ReadsAll ReadsDefined ds

-- the name after `module`, which isn't used, or none
abbrev pub ReadsTitle : Reading
ReadsTitle u v =
    ((f : Symbol) × (Word Module ▸ Next (Ident f)) u v) ⊎ (v ≡ u)

-- the text is a module of these sections
abbrev pub ReadsModule : List Section → List Token → Type 0
ReadsModule ss u = (ReadsTitle ▸ ReadsAll ReadsSection ss) u []
