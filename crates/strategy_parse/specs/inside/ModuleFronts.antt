-- What a list of tokens in a module begins with, and the rest, as functions: names, the headers of
-- definitions, sorts and declarations.
use Rattle.std.specs.Prelude.{ℕ, zero, suc, List, [], ◌∷◌, ◌++◌, if◌then◌else◌, length, Some, None}
use Rattle.std.specs.declared.option.Option.{Option}
use Rattle.term_core.specs.Tree.{Symbol}
use Rattle.term_sorts.specs.Sorts.{Sort, sort, sorts_of, plain}
use Rattle.strategy_syntax.specs.Modules as syntax
use Rattle.strategy_tokens.specs.declared.token.Token.{Token}
use Rattle.strategy_tokens.specs.declared.token.Token.TheVariants.{Ident, Bad}
use Rattle.strategy_tokens.specs.declared.token.Sign.{Sign}
use Rattle.strategy_tokens.specs.declared.token.Sign.TheVariants.{OpenRound, CloseRound, Comma, Colon, Bar, Arrow as RightArrow, Star}
use Rattle.strategy_parse.specs.declared.modules.sorts.SortState.{SortState}
use Rattle.strategy_parse.specs.declared.modules.sorts.SortState.TheVariants.{Begins, Named, Closed}
use Rattle.strategy_parse.specs.declared.modules.sorts.Turn.{Turn}
use Rattle.strategy_parse.specs.declared.modules.sorts.Turn.TheVariants.{Reads, Ends, Stuck}
use Rattle.strategy_parse.specs.declared.modules.declarations.Declared.{Declared}
use Rattle.strategy_parse.specs.declared.modules.declarations.Declared.TheVariants.{Constructor as AConstructor, Injection as AnInjection}
use Rattle.strategy_tokens.specs.Marks.{is_mark}
use Rattle.strategy_parse.specs.Written.{Header}
use Rattle.strategy_parse.specs.Core.{injected_sort}
use Rattle.strategy_parse.specs.inside.NextToken.{next_token}
use Rattle.strategy_parse.specs.inside.SortStacks.{OpenSort, SortStack, no_stack}

-- the rest after a sign, if it comes first
abbrev pub after_mark : Sign → List Token → Option (List Token)
after_mark s [] = None
after_mark s (t ∷ ts) = if (is_mark s t) then Some ts else None

-- the rest after an identifier, if one comes first
abbrev pub after_ident : List Token → Option (List Token)
after_ident (Ident f ∷ ts) = Some ts
after_ident x = None

-- ---- names and headers

abbrev pub NamesLeft : Type 0
NamesLeft = Option (List Symbol × List Token)

-- further names, each after a comma
abbrev pub more_names : List Symbol → List Token → NamesLeft
more_names done [] = Some (done, [])
more_names done (t ∷ []) = if (is_mark Comma t) then None else Some (done, t ∷ [])
more_names done (t ∷ (Ident f ∷ ts)) =
    if (is_mark Comma t) then more_names (done ++ f ∷ []) ts else Some (done, t ∷ (Ident f ∷ ts))
more_names done (t ∷ (u ∷ ts)) = if (is_mark Comma t) then None else Some (done, t ∷ (u ∷ ts))

abbrev pub names_at : List Token → NamesLeft
names_at [] = Some ([], [])
names_at (Ident f ∷ ts) = more_names (f ∷ []) ts
names_at (t ∷ ts) = Some ([], t ∷ ts)

abbrev pub HeaderLeft : Type 0
HeaderLeft = Option (Header × List Token)

abbrev pub make_header : Symbol → List Symbol → List Symbol → Header
make_header f ss ts = record { name = f; strategies = ss; terms = ts }

abbrev pub close_header : Header → Option (List Token) → HeaderLeft
close_header h None = None
close_header h (Some x) = Some (h, x)

abbrev pub after_terms : Symbol → List Symbol → NamesLeft → HeaderLeft
after_terms f ss None = None
after_terms f ss (Some (ts, x)) = close_header (make_header f ss ts) (after_mark CloseRound x)

abbrev pub after_bar : Symbol → List Symbol → Option (List Token) → HeaderLeft
after_bar f ss None = None
after_bar f ss (Some x) = after_terms f ss (names_at x)

abbrev pub without_terms : Symbol → List Symbol → List Token → Option (List Token) → HeaderLeft
without_terms f ss x (Some y) = Some (make_header f ss [], y)
without_terms f ss x None = after_bar f ss (after_mark Bar x)

abbrev pub after_strategies : Symbol → NamesLeft → HeaderLeft
after_strategies f None = None
after_strategies f (Some (ss, x)) = without_terms f ss x (after_mark CloseRound x)

-- the parameters after their opening bracket
abbrev pub parameters_at : Symbol → List Token → HeaderLeft
parameters_at f x = after_strategies f (names_at x)

abbrev pub after_name : Symbol → List Token → Option (List Token) → HeaderLeft
after_name f x (Some y) = parameters_at f y
after_name f x None = Some (make_header f [] [], x)

abbrev pub header_at : List Token → HeaderLeft
header_at (Ident f ∷ ts) = after_name f ts (after_mark OpenRound ts)
header_at x = None

-- ---- sorts

-- after a whole sort, with this many open brackets
abbrev pub after_sort : ℕ → Token → Turn
after_sort zero t = Ends
after_sort (suc n) t =
    if (is_mark Comma t) then Reads Begins (suc n) else
    if (is_mark CloseRound t) then Reads Closed n else Stuck

abbrev pub begin_sort : ℕ → Token → Turn
begin_sort n (Ident f) = Reads Named n
begin_sort n t = Stuck

abbrev pub sort_step : SortState → ℕ → Token → Turn
sort_step Begins n t = begin_sort n t
sort_step Named n t = if (is_mark OpenRound t) then Reads Begins (suc n) else after_sort n t
sort_step Closed n t = after_sort n t

abbrev pub SortsLeft : Type 0
SortsLeft = Option (ℕ × List Token)

abbrev pub sort_goes : (SortState → ℕ → SortsLeft) → SortsLeft → Turn → SortsLeft
sort_goes k end (Reads p d) = k p d
sort_goes k end Ends = end
sort_goes k end Stuck = None

-- the number of sorts at the start, if n have begun, and the rest
abbrev pub sorts_from : SortState → ℕ → ℕ → List Token → SortsLeft
sorts_from p d n [] = sort_goes (λ q e. None) (Some (n, [])) (sort_step p d Bad)
sorts_from p d n (t ∷ ts) =
    sort_goes (λ q e. sorts_from q e n ts)
    (if (is_mark Star t) then sorts_from Begins 0 (suc n) ts else Some (n, t ∷ ts))
    (sort_step p d t)

abbrev pub sorts_at : List Token → SortsLeft
sorts_at x = sorts_from Begins 0 1 x

-- one sort, and the rest
abbrev pub one_sort : SortsLeft → Option (List Token)
one_sort (Some (suc zero, x)) = Some x
one_sort r = None

abbrev pub sort_at : List Token → Option (List Token)
sort_at x = one_sort (sorts_at x)

-- ---- sorts that are kept

abbrev pub with_sort : SortStack → Symbol → List Sort → SortStack
with_sort k f ss = record { around = k.around; sorts = k.sorts ++ sort (plain f) (sorts_of ss) ∷ [] }

abbrev pub opened : SortStack → Symbol → SortStack
opened k f = record { around = record { name = f; before = k.sorts } ∷ k.around; sorts = [] }

abbrev pub closed : List OpenSort → List Sort → SortStack
closed [] ss = record { around = []; sorts = ss }
closed (o ∷ os) ss = with_sort (record { around = os; sorts = o.before }) o.name ss

-- a token is read, and this one comes next
abbrev pub stacked : SortStack → Token → Token → SortStack
stacked k (Ident f) next = if (is_mark OpenRound next) then opened k f else with_sort k f []
stacked k t next = if (is_mark CloseRound t) then closed k.around k.sorts else k

abbrev pub KeptLeft : Type 0
KeptLeft = Option (List Sort × List Token)

abbrev pub keep_goes : (SortState → ℕ → KeptLeft) → KeptLeft → Turn → KeptLeft
keep_goes k end (Reads p d) = k p d
keep_goes k end Ends = end
keep_goes k end Stuck = None

-- the sorts at the start, and the rest
abbrev pub kept_from : SortState → ℕ → SortStack → List Token → KeptLeft
kept_from p d k [] = keep_goes (λ q e. None) (Some (k.sorts, [])) (sort_step p d Bad)
kept_from p d k (t ∷ ts) =
    keep_goes (λ q e. kept_from q e (stacked k t (next_token ts)) ts)
    (if (is_mark Star t) then kept_from Begins 0 k ts else Some (k.sorts, t ∷ ts))
    (sort_step p d t)

abbrev pub kept_at : List Token → KeptLeft
kept_at x = kept_from Begins 0 no_stack x

-- one sort, and the rest
abbrev pub one_kept : KeptLeft → Option (Sort × List Token)
one_kept (Some (s ∷ [], x)) = Some (s, x)
one_kept r = None

-- ---- declarations

abbrev pub DeclaredLeft : Type 0
DeclaredLeft = Option (Declared × List Token)

-- a constructor with its sorts, or an injection
abbrev pub declared_of : Option Symbol → List Sort → Sort → Declared
declared_of None ss r = AnInjection (record { from = injected_sort ss; to = r })
declared_of (Some f) ss r = AConstructor (record { name = f; arguments = ss; result = r })

abbrev pub after_result : Option Symbol → List Sort → Option (Sort × List Token) → DeclaredLeft
after_result f ss None = None
after_result f ss (Some (r, x)) = Some (declared_of f ss r, x)

-- if no arrow follows, it is a name with one sort
abbrev pub without_arrow : Option Symbol → List Sort → List Token → DeclaredLeft
without_arrow (Some f) (s ∷ []) x = Some (declared_of (Some f) [] s, x)
without_arrow f ss x = None

abbrev pub after_arrow : Option Symbol → List Sort → List Token → Option (List Token) → DeclaredLeft
after_arrow f ss x (Some y) = after_result f ss (one_kept (kept_at y))
after_arrow f ss x None = without_arrow f ss x

abbrev pub after_arguments : Option Symbol → KeptLeft → DeclaredLeft
after_arguments f None = None
after_arguments f (Some (ss, x)) = after_arrow f ss x (after_mark RightArrow x)

abbrev pub after_colon : Option Symbol → Option (List Token) → DeclaredLeft
after_colon f None = None
after_colon f (Some x) = after_arguments f (kept_at x)

abbrev pub declaration_at : List Token → DeclaredLeft
declaration_at (Ident f ∷ ts) = after_colon (Some f) (after_mark Colon ts)
declaration_at x = after_colon None (after_mark Colon x)

-- the module of it alone
abbrev pub module_with : Declared → syntax.Module
module_with (AConstructor d) = record {
  constructors = record { name = d.name; arity = length d.arguments } ∷ [];
  declarations = d ∷ [];
  injections = [];
  definitions = [];
}
module_with (AnInjection i) = record { constructors = []; declarations = []; injections = i ∷ []; definitions = [] }
