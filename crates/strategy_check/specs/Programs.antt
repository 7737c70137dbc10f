-- The program of modules, and strategies resolved in it.
use Rattle.std.specs.Prelude.{ℕ, ◌+◌, Bool, false, ◌==◌, List, [], ◌∷◌, length, map, filter, Some, None}
use Rattle.std.specs.declared.option.Option.{Option}
use Rattle.strategy_syntax.specs.Resolved.{ResolvedStrategy, id, fail, guard}
use Rattle.strategy_syntax.specs.Syntax.{Strategy}
use Rattle.strategy_syntax.specs.Modules.{Definition}
use Rattle.strategy_syntax.specs.declared.resolved.Resolved.{Resolved}
use Rattle.term_core.specs.Tree.{Symbol}
use Rattle.strategy_names.specs.Binders.{bound_from}
use Rattle.strategy_check.specs.Tables.{DefinitionKey, Table, definition_number, table_of, Modules, definitions_of}
use Rattle.strategy_check.specs.Faults.{Fault, Primitives, strategy_faults}
use Rattle.strategy_names.specs.Free.{free_variables}
use Rattle.strategy_check.specs.Resolving.{Scope, resolved_strategy}

-- The definitions and declarations, and the body of each definition at its number.
pub record Program : Type 0 where
  pub table : Table
  pub bodies : List Resolved

-- ---- one body

-- a body's free variables, without the term parameters
abbrev pub free_of : Definition → List Symbol
free_of d = free_variables d.term_parameters d.body

-- The scope of a body: its parameters, which have the first numbers, and its free variables, which
-- are numbered from first on. The variables inside are numbered from count on.
abbrev pub scope_of : ℕ → ℕ → Definition → Scope
scope_of first count d = record {
  variables = bound_from 0 d.term_parameters (bound_from first (free_of d) []);
  count = count;
  names = bound_from 0 d.strategy_parameters [];
}

-- ---- the bodies of one definition, which have the same key

-- the number of their free variables
abbrev pub variable_count : List Definition → ℕ
variable_count [] = 0
variable_count (d ∷ ds) = length (free_of d) + variable_count ds

-- Each is resolved with free variables of its own: parameters come first, then the free variables
-- of all the bodies, body by body, then the variables inside.
abbrev pub resolved_bodies : Table → Primitives → ℕ → ℕ → List Definition → List ResolvedStrategy
resolved_bodies T P first count [] = []
resolved_bodies T P first count (d ∷ ds) =
    resolved_strategy T P (scope_of first count d) d.body
    ∷ resolved_bodies T P (first + length (free_of d)) count ds

-- They are tried in the order of the text: `b1 <+ (b2 <+ ..)`.
abbrev pub joined : List ResolvedStrategy → ResolvedStrategy
joined [] = fail
joined (r ∷ []) = r
joined (r ∷ q ∷ rs) = guard r id (joined (q ∷ rs))

-- the number of terms that they take: all take the same number
abbrev pub term_count : List Definition → ℕ
term_count [] = 0
term_count (d ∷ ds) = length d.term_parameters

-- the definition of all of them
abbrev pub joined_definition : Table → Primitives → List Definition → Resolved
joined_definition T P ds =
    let count = variable_count ds in record {
      variables = count;
      strategy = joined (resolved_bodies T P (term_count ds) (term_count ds + count) ds);
    }

-- ---- all modules

abbrev pub is_number : ℕ → Option ℕ → Bool
is_number i None = false
is_number i (Some j) = i == j

-- the definitions with the key of this number, in the order of the texts
abbrev pub of_number : Table → List Definition → ℕ → List Definition
of_number T ds i =
    filter (λ d. is_number i (definition_number T d.name (length d.strategy_parameters) (length d.term_parameters))) ds

-- those of each key, from number i on
abbrev pub groups_from : Table → List Definition → ℕ → List DefinitionKey → List (List Definition)
groups_from T ds i [] = []
groups_from T ds i (k ∷ ks) = of_number T ds i ∷ groups_from T ds (i + 1) ks

abbrev pub groups : Table → List Definition → List (List Definition)
groups T ds = groups_from T ds 0 T.definitions

abbrev pub program : Modules → Primitives → Program
program ms P =
    let T = table_of ms in record {
      table = T;
      bodies = map (joined_definition T P) (groups T (definitions_of ms));
    }

-- ---- a strategy to apply, whose free variables are its own

abbrev pub faults_of : Program → Primitives → Strategy → List Fault
faults_of p P s = strategy_faults p.table P [] s

abbrev pub resolved : Program → Primitives → Strategy → Resolved
resolved p P s =
    let xs = free_variables [] s in record {
      variables = length xs;
      strategy = resolved_strategy p.table P (record {
        variables = bound_from 0 xs [];
        count = length xs;
        names = [];
      }) s;
    }
