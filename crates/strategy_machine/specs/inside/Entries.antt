-- What the entries of the table represent, and the invariant on them.
use Rattle.std.specs.Prelude.{◌≡◌, ◌<◌, ◌+◌, ◌^◌, ℕ, suc, List, [], ◌∷◌, ◌++◌, length}
use Rattle.strategy_syntax.specs.Resolved.{ResolvedStrategy, param}
use Rattle.strategy_meaning.specs.Scopes.{Scope, inside, Closures, no_closures, and_closure, cells_in, numbers_from}
use Rattle.strategy_machine.specs.Table.{Addition, variables, name, Widening, scope_from, widened, IsThere}
use Rattle.strategy_machine.specs.declared.scopes.Adds.{Adds}
use Rattle.strategy_machine.specs.declared.scopes.Adds.TheVariants.{Variables, Name}
use Rattle.strategy_machine.specs.declared.scopes.ScopeEntry.{ScopeEntry}
use Rattle.strategy_machine.specs.declared.scopes.Closure.{Closure as TableClosure}

abbrev pub names_in : Scope → Closures
names_in (inside cells names) = names

abbrev pub closure_count : Closures → ℕ
closure_count no_closures = 0
closure_count (and_closure s E more) = suc (closure_count more)

abbrev pub addition_of : Adds → Addition
addition_of (Variables first n) = variables first n
addition_of (Name k) = name k.strategy.now k.written_in

abbrev pub widening_of : ScopeEntry → Widening
widening_of e = record { outer = e.outer; adds = addition_of e.adds }

abbrev pub AddsFit : ℕ → Adds → Type 0
AddsFit b (Variables first n) = first + n < 2 ^ 64
AddsFit b (Name k) = k.written_in < b

-- its cells fit in `usize`
abbrev pub AddsRoom : Adds → Type 0
AddsRoom (Variables first n) = first + n < 2 ^ 64
AddsRoom (Name k) = Unit {0}

abbrev pub added_cells : Addition → List ℕ
added_cells (variables first n) = numbers_from first n
added_cells (name s k) = []

abbrev pub added_names : Adds → List TableClosure
added_names (Variables first n) = []
added_names (Name k) = k ∷ []

-- An entry after b scopes, which refers only to these.
pub record RestsOnOlder (known : List Scope) (b : ℕ) (e : ScopeEntry) : Type 0 where
  pub outer : IsThere b e.outer
  pub variables : e.variables ≡ length (cells_in (scope_from known e.outer))
  pub names : e.names ≡ closure_count (names_in (scope_from known e.outer))
  pub adds : AddsFit b e.adds

abbrev pub RestOnOlder : List Scope → List ScopeEntry → Type 0
RestOnOlder known [] = Unit {0}
RestOnOlder known (e ∷ es) =
    RestsOnOlder known (length known) e × RestOnOlder (known ++ widened known (widening_of e) ∷ []) es

-- they are the names from i on, in order
abbrev pub AreNames : ℕ → List ResolvedStrategy → Type 0
AreNames i [] = Unit {0}
AreNames i (s ∷ ss) = (s ≡ param i) × AreNames (suc i) ss
