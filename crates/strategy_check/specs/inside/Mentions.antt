-- What strategies mention of the table of all modules: keys of definitions, and constructors. A
-- name in scope mentions nothing.
use Rattle.std.specs.Prelude.{◌≡◌, ℕ, Bool, true, false, List, [], ◌∷◌, length, is_some, option_map, ⊤}
use Rattle.term_core.specs.Tree.{Symbol, Head, application, list, tuple}
use Rattle.strategy_syntax.specs.Syntax.{Pattern, wildcard, variable, at, number, compound, with_tail, annotated, Patterns, no_patterns, and_pattern, pattern_list, Strategy, id, fail, matches, builds, seq, guard, test, scope, uses, congruence, tail_congruence, all, one, some, child, rec, prim, Strategies, no_strategies, and_strategy, strategy_list}
use Rattle.strategy_syntax.specs.Modules.{Definition}
use Rattle.strategy_syntax.specs.Renumbering.{new_number}
use Rattle.strategy_names.specs.Binders.{Binder, binder_number}
use Rattle.strategy_check.specs.Faults.{parameter_names}
use Rattle.strategy_check.specs.Tables.{Table, definition_number, is_defined, is_declared}

abbrev pub HeadCovered : Table → Head → ℕ → Type 0
HeadCovered M (application f) n = is_declared M f n ≡ true
HeadCovered M list n = ⊤
HeadCovered M tuple n = ⊤

-- all that a pattern mentions is in the table M
abbrev mutual
  pub PatternCovered : Table → Pattern → Type 0
  PatternCovered M wildcard = ⊤
  PatternCovered M (variable x) = ⊤
  PatternCovered M (at x p) = PatternCovered M p
  PatternCovered M (number z) = ⊤
  PatternCovered M (compound h ps) =
      HeadCovered M h (length (pattern_list ps)) × PatternsCovered M ps
  PatternCovered M (with_tail ps p) = PatternsCovered M ps × PatternCovered M p
  PatternCovered M (annotated p ps) = PatternCovered M p × PatternsCovered M ps

  pub PatternsCovered : Table → Patterns → Type 0
  PatternsCovered M no_patterns = ⊤
  PatternsCovered M (and_pattern p ps) = PatternCovered M p × PatternsCovered M ps

-- a name outside the scope, with n strategies and m terms, is there as a definition and as a
-- constructor
abbrev pub NameCovered : Table → Bool → Symbol → ℕ → ℕ → Type 0
NameCovered M true f n m = ⊤
NameCovered M false f n m = (is_defined M f n m ≡ true) × (is_declared M f n ≡ true)

-- all that a strategy mentions is in the table M, with these strategy names in scope
abbrev mutual
  pub Covered : Table → List Binder → Strategy → Type 0
  Covered M names id = ⊤
  Covered M names fail = ⊤
  Covered M names (matches p) = PatternCovered M p
  Covered M names (builds p) = PatternCovered M p
  Covered M names (seq r s) = Covered M names r × Covered M names s
  Covered M names (guard q r s) = Covered M names q × (Covered M names r × Covered M names s)
  Covered M names (test s) = Covered M names s
  Covered M names (scope xs s) = Covered M names s
  Covered M names (uses f ss ps) =
      NameCovered M (is_some (binder_number f names)) f (length (strategy_list ss)) (length (pattern_list ps))
      × (AllCovered M names ss × PatternsCovered M ps)
  Covered M names (congruence h ss) = AllCovered M names ss
  Covered M names (tail_congruence ss s) = AllCovered M names ss × Covered M names s
  Covered M names (all s) = Covered M names s
  Covered M names (one s) = Covered M names s
  Covered M names (some s) = Covered M names s
  Covered M names (child i s) = Covered M names s
  Covered M names (rec f s) = Covered M (record { name = f; number = length names } ∷ names) s
  Covered M names (prim n ps) = PatternsCovered M ps

  pub AllCovered : Table → List Binder → Strategies → Type 0
  AllCovered M names no_strategies = ⊤
  AllCovered M names (and_strategy s ss) = Covered M names s × AllCovered M names ss

-- all that the bodies of definitions mention is in the table M
abbrev pub BodyCovered : Table → Definition → Type 0
BodyCovered M d = Covered M (parameter_names d) d.body

abbrev pub BodiesCovered : Table → List Definition → Type 0
BodiesCovered M [] = ⊤
BodiesCovered M (d ∷ ds) = BodyCovered M d × BodiesCovered M ds

-- ---- from a table T to a table T'

-- What is in M and in T is in T', too.
pub record Keeps (M : Table) (T : Table) (T' : Table) : Type 0 where
  pub definitions : (f : Symbol) (n m : ℕ)
      → is_defined M f n m ≡ true → is_defined T f n m ≡ true → is_defined T' f n m ≡ true
  pub constructors : (f : Symbol) (n : ℕ)
      → is_declared M f n ≡ true → is_declared T f n ≡ true → is_declared T' f n ≡ true

-- What is in M has the number in T' that the list gives for its number in T.
abbrev pub Renumbers : Table → List ℕ → Table → Table → Type 0
Renumbers M numbers T T' =
    (f : Symbol) (n m : ℕ) → is_defined M f n m ≡ true
    → definition_number T' f n m ≡ option_map (new_number numbers) (definition_number T f n m)
