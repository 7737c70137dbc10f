-- All faults of modules and of strategies, in the order in which they count.
use Rattle.std.specs.Prelude.{◌≡◌, ℕ, ◌+◌, Bool, true, false, not, ◌&&◌, ◌==◌, List, [], ◌∷◌, ◌++◌, length, map, flat_map, if◌then◌else◌, codes, is_some, Some, None, ⊤}
use Rattle.std.specs.declared.option.Option.{Option}
use Rattle.term_core.specs.Tree.{Symbol, Head, application, same_name}
use Rattle.prim_core.specs.Signature as primitive
use Rattle.strategy_syntax.specs.Syntax.{Pattern, wildcard, variable, at, number, compound, with_tail, annotated, Patterns, no_patterns, and_pattern, pattern_list, Strategy, id, fail, matches, builds, seq, guard, test, scope, uses, congruence, tail_congruence, all, one, some, child, rec, prim, Strategies, no_strategies, and_strategy, strategy_list}
use Rattle.strategy_syntax.specs.Modules.{Definition, Module}
use Rattle.strategy_check.specs.declared.fault.FaultKind.{FaultKind}
use Rattle.strategy_check.specs.declared.fault.FaultKind.TheVariants.{Parameter, Twice, Clash, Unknown, Undeclared, Wild, Primitive}
use Rattle.strategy_check.specs.declared.fault.CheckFault.{CheckFault}
use Rattle.strategy_check.specs.declared.fault.CheckFault.TheVariants.{Memory, Fault as Told}
use Rattle.strategy_syntax.specs.Lists.{is_among, with_new, repeated}
use Rattle.strategy_names.specs.Binders.{Binder, binder_number, bound_from}
use Rattle.strategy_check.specs.Tables.{DefinitionKey, same_key, Table, is_defined, is_declared, Modules, key_of, keys_of, table_of}

-- a kind, a name and two numbers, as they are printed
pub record Fault : Type 0 where
  pub kind : FaultKind
  pub name : Symbol
  pub first : ℕ
  pub second : ℕ

-- one fault, if the test holds
abbrev pub fault_if : Bool → FaultKind → Symbol → ℕ → ℕ → List Fault
fault_if b kind f n m = if b then record { kind = kind; name = f; first = n; second = m } ∷ [] else []

-- the primitives of a host
abbrev pub Primitives : Type 0
Primitives = List primitive.Signature

abbrev pub is_primitive : Primitives → Symbol → ℕ → Bool
is_primitive P n k = is_some (primitive.index_of n.text k P)

-- `_`
abbrev pub underscore : Symbol
underscore = record { text = codes "_"; is_quoted = false }

-- `parameter x 0 0`: x is repeated in a list of names
abbrev pub repeated_names : List Symbol → List Fault
repeated_names xs =
    map (λ x. record { kind = Parameter; name = x; first = 0; second = 0 }) (repeated same_name [] xs)

-- ---- patterns

-- `undeclared C n 0`: no module declares the constructor of the pattern. Strings, lists and tuples
-- need no declaration.
abbrev pub head_faults : Table → Head → ℕ → List Fault
head_faults T (application f) n = fault_if (not f.is_quoted && not (is_declared T f n)) Undeclared f n 0
head_faults T head n = []

-- `wild x 0 0` is a fault only in patterns that build: `_` or `x@p`
abbrev mutual
  pub pattern_faults : Table → Bool → Pattern → List Fault
  pattern_faults T building wildcard = fault_if building Wild underscore 0 0
  pattern_faults T building (variable x) = []
  pattern_faults T building (at x p) = fault_if building Wild x 0 0 ++ pattern_faults T building p
  pattern_faults T building (number z) = []
  pattern_faults T building (compound h ps) =
      head_faults T h (length (pattern_list ps)) ++ faults_of_patterns T building ps
  pattern_faults T building (with_tail ps p) =
      faults_of_patterns T building ps ++ pattern_faults T building p
  pattern_faults T building (annotated p ps) =
      pattern_faults T building p ++ faults_of_patterns T building ps

  pub faults_of_patterns : Table → Bool → Patterns → List Fault
  faults_of_patterns T building no_patterns = []
  faults_of_patterns T building (and_pattern p ps) =
      pattern_faults T building p ++ faults_of_patterns T building ps

-- ---- strategies, where the strategy names in scope have these binders

-- The name f with n strategies and m terms is a strategy name in scope, which takes none, else a
-- definition, else, without terms, a constructor of n arguments, else unknown.
abbrev pub name_faults : Table → List Binder → Symbol → ℕ → ℕ → List Fault
name_faults T names f n m =
    if is_some (binder_number f names) then fault_if (not (n + m == 0)) Parameter f n m
    else fault_if (not (is_defined T f n m) && not (m == 0 && is_declared T f n)) Unknown f n m

abbrev mutual
  pub strategy_faults : Table → Primitives → List Binder → Strategy → List Fault
  strategy_faults T P names id = []
  strategy_faults T P names fail = []
  strategy_faults T P names (matches p) = pattern_faults T false p
  strategy_faults T P names (builds p) = pattern_faults T true p
  strategy_faults T P names (seq r s) = strategy_faults T P names r ++ strategy_faults T P names s
  strategy_faults T P names (guard q r s) =
      strategy_faults T P names q ++ (strategy_faults T P names r ++ strategy_faults T P names s)
  strategy_faults T P names (test s) = strategy_faults T P names s
  strategy_faults T P names (scope xs s) = repeated_names xs ++ strategy_faults T P names s
  strategy_faults T P names (uses f ss ps) =
      name_faults T names f (length (strategy_list ss)) (length (pattern_list ps))
      ++ (faults_of_strategies T P names ss ++ faults_of_patterns T true ps)
  strategy_faults T P names (congruence h ss) = faults_of_strategies T P names ss
  strategy_faults T P names (tail_congruence ss s) =
      faults_of_strategies T P names ss ++ strategy_faults T P names s
  strategy_faults T P names (all s) = strategy_faults T P names s
  strategy_faults T P names (one s) = strategy_faults T P names s
  strategy_faults T P names (some s) = strategy_faults T P names s
  strategy_faults T P names (child i s) = strategy_faults T P names s
  strategy_faults T P names (rec f s) =
      strategy_faults T P (record { name = f; number = length names } ∷ names) s
  strategy_faults T P names (prim n ps) =
      fault_if (not (is_primitive P n (length (pattern_list ps)))) Primitive n (length (pattern_list ps)) 0
      ++ faults_of_patterns T true ps

  pub faults_of_strategies : Table → Primitives → List Binder → Strategies → List Fault
  faults_of_strategies T P names no_strategies = []
  faults_of_strategies T P names (and_strategy s ss) =
      strategy_faults T P names s ++ faults_of_strategies T P names ss

-- ---- definitions and modules

-- the header of a definition, given those of earlier modules
abbrev pub header_faults : Table → List DefinitionKey → Definition → List Fault
header_faults T earlier d =
    let n = length d.strategy_parameters in
    let m = length d.term_parameters in
    repeated_names (d.strategy_parameters ++ d.term_parameters)
    ++ (fault_if (is_among same_key (key_of d) earlier) Twice d.name n m
    ++ fault_if (m == 0 && is_declared T d.name n) Clash d.name n 0)

-- the strategy parameters of a definition
abbrev pub parameter_names : Definition → List Binder
parameter_names d = bound_from 0 d.strategy_parameters []

abbrev pub definition_faults : Table → Primitives → List DefinitionKey → Definition → List Fault
definition_faults T P earlier d =
    header_faults T earlier d ++ strategy_faults T P (parameter_names d) d.body

abbrev pub module_faults : Table → Primitives → List DefinitionKey → Module → List Fault
module_faults T P earlier m = flat_map (definition_faults T P earlier) m.definitions

abbrev pub faults_from : Table → Primitives → List DefinitionKey → Modules → List Fault
faults_from T P earlier [] = []
faults_from T P earlier (m ∷ ms) =
    module_faults T P earlier m.1
    ++ faults_from T P (with_new same_key earlier (keys_of m.1.definitions)) ms

-- the faults of the modules, which are in the order of their names
abbrev pub faults : Modules → Primitives → List Fault
faults ms P = faults_from (table_of ms) P [] ms

-- the fault that counts
abbrev pub first : List Fault → Option Fault
first [] = None
first (f ∷ fs) = Some f

-- The error reports this fault; for want of memory it reports nothing.
abbrev pub IsTold : CheckFault → Option Fault → Type 0
IsTold Memory o = ⊤
IsTold (Told kind f n m) o = o ≡ Some (record { kind = kind; name = f; first = n; second = m })
