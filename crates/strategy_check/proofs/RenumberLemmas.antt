-- A strategy resolved in another table is the same with other numbers, if all that it mentions has
-- these numbers there.
use Rattle.std.proofs.Common.{◌≡◌, ℕ, ◌+◌, Bool, true, false, cond, List, [], ◌∷◌, ◌++◌, length, map, filter, Option, Some, None, is_some, refl, ap, ◌∙◌}
use Rattle.std.specs.Prelude.{option_map}
use Rattle.term_core.specs.Tree.{Symbol}
use Rattle.strategy_syntax.specs.Syntax.{pattern_list, Strategy, id, fail, matches, builds, seq, guard, test, scope, uses, congruence, tail_congruence, all, one, some, child, rec, prim, Strategies, no_strategies, and_strategy, strategy_list}
use Rattle.strategy_syntax.specs.Modules.{Definition}
use Rattle.strategy_syntax.specs.Renumbering.{new_number, renumbered, all_renumbered}
use Rattle.strategy_syntax.specs.Resolved as resolved
use Rattle.strategy_syntax.specs.Resolved.{ResolvedPatterns, ResolvedStrategy, ResolvedStrategies}
use Rattle.strategy_names.specs.Binders.{binder_number}
use Rattle.strategy_check.specs.Tables.{DefinitionKey, Table, definition_number}
use Rattle.strategy_check.specs.Faults.{Primitives}
use Rattle.strategy_check.specs.Resolving.{Scope, with_variables, with_name, resolved_patterns, name_or_other, definition_or_constructor, resolved_strategy, resolved_strategies}
use Rattle.strategy_check.specs.Programs.{free_of, scope_of, variable_count, term_count, resolved_bodies, joined, joined_definition, is_number, of_number, groups_from}
use Rattle.strategy_check.specs.inside.Mentions.{NameCovered, Covered, AllCovered, BodiesCovered, Renumbers}
use Rattle.strategy_check.specs.inside.Replacing.{renumbered_definition}

-- a name that is a definition or a constructor
renumbered-number : (numbers : List ℕ) (f : Symbol) (o : Option ℕ) (ss : ResolvedStrategies) (ps : ResolvedPatterns)
    → definition_or_constructor f (option_map (new_number numbers) o) (all_renumbered numbers ss) ps
    ≡ renumbered numbers (definition_or_constructor f o ss ps)
renumbered-number numbers f None ss ps = refl
renumbered-number numbers f (Some k) ss ps = refl

joined-renumbered : (numbers : List ℕ) (rs : List ResolvedStrategy)
    → joined (map (renumbered numbers) rs) ≡ renumbered numbers (joined rs)
joined-renumbered numbers [] = refl
joined-renumbered numbers (r ∷ []) = refl
joined-renumbered numbers (r ∷ (q ∷ rs)) =
    ap (resolved.guard (renumbered numbers r) resolved.id) (joined-renumbered numbers (q ∷ rs))

module _ (M : Table) where
  pub covered-append : (ds es : List Definition) → BodiesCovered M ds → BodiesCovered M es → BodiesCovered M (ds ++ es)
  covered-append [] es left right = right
  covered-append (d ∷ ds) es left right = (left.0, covered-append ds es left.1 right)

  covered-filter : (p : Definition → Bool) (ds : List Definition) → BodiesCovered M ds → BodiesCovered M (filter p ds)
  covered-filter p [] covered = tt
  covered-filter p (d ∷ ds) covered = by (p d) (covered-filter p ds covered.1) where
    by : (b : Bool) → BodiesCovered M (filter p ds) → BodiesCovered M (cond b (d ∷ filter p ds) (filter p ds))
    by true rest = (covered.0, rest)
    by false rest = rest

module _ (M : Table) (numbers : List ℕ) (T : Table) (T' : Table) (P : Primitives)
    (renumbers : Renumbers M numbers T T') where
  renumbered-name : (f : Symbol) (n m : ℕ) (o : Option ℕ) (ss : ResolvedStrategies) (ps : ResolvedPatterns)
      → NameCovered M (is_some o) f n m
      → name_or_other o (definition_or_constructor f (definition_number T' f n m) (all_renumbered numbers ss) ps)
      ≡ renumbered numbers (name_or_other o (definition_or_constructor f (definition_number T f n m) ss ps))
  renumbered-name f n m (Some x) ss ps covered = refl
  renumbered-name f n m None ss ps covered =
      ap (λ o. definition_or_constructor f o (all_renumbered numbers ss) ps) (renumbers f n m covered.0)
      ∙ renumbered-number numbers f (definition_number T f n m) ss ps

  mutual
    pub renumbered-strategy : (E : Scope) (s : Strategy) → Covered M E.names s
        → resolved_strategy T' P E s ≡ renumbered numbers (resolved_strategy T P E s)
    renumbered-strategy E id covered = refl
    renumbered-strategy E fail covered = refl
    renumbered-strategy E (matches p) covered = refl
    renumbered-strategy E (builds p) covered = refl
    renumbered-strategy E (seq r s) covered =
        λ i. resolved.seq (renumbered-strategy E r covered.0 i) (renumbered-strategy E s covered.1 i)
    renumbered-strategy E (guard q r s) covered = λ i.
        resolved.guard (renumbered-strategy E q covered.0 i) (renumbered-strategy E r covered.1.0 i)
        (renumbered-strategy E s covered.1.1 i)
    renumbered-strategy E (test s) covered = ap resolved.test (renumbered-strategy E s covered)
    renumbered-strategy E (scope xs s) covered =
        ap (resolved.scope (length xs)) (renumbered-strategy (with_variables E xs) s covered)
    renumbered-strategy E (uses f ss ps) covered =
        let n = length (strategy_list ss) in
        let m = length (pattern_list ps) in
        ap (λ rs. name_or_other (binder_number f E.names)
        (definition_or_constructor f (definition_number T' f n m) rs (resolved_patterns E.variables ps)))
        (renumbered-strategies E ss covered.1.0)
        ∙ renumbered-name f n m (binder_number f E.names) (resolved_strategies T P E ss)
        (resolved_patterns E.variables ps) covered.0
    renumbered-strategy E (congruence h ss) covered = ap (resolved.congruence h) (renumbered-strategies E ss covered)
    renumbered-strategy E (tail_congruence ss s) covered = λ i.
        resolved.tail_congruence (renumbered-strategies E ss covered.0 i) (renumbered-strategy E s covered.1 i)
    renumbered-strategy E (all s) covered = ap resolved.all (renumbered-strategy E s covered)
    renumbered-strategy E (one s) covered = ap resolved.one (renumbered-strategy E s covered)
    renumbered-strategy E (some s) covered = ap resolved.some (renumbered-strategy E s covered)
    renumbered-strategy E (child i s) covered = ap (resolved.child i) (renumbered-strategy E s covered)
    renumbered-strategy E (rec f s) covered = ap resolved.rec (renumbered-strategy (with_name E f) s covered)
    renumbered-strategy E (prim n ps) covered = refl

    pub renumbered-strategies : (E : Scope) (ss : Strategies) → AllCovered M E.names ss
        → resolved_strategies T' P E ss ≡ all_renumbered numbers (resolved_strategies T P E ss)
    renumbered-strategies E no_strategies covered = refl
    renumbered-strategies E (and_strategy s ss) covered = λ i.
        resolved.and_strategy (renumbered-strategy E s covered.0 i) (renumbered-strategies E ss covered.1 i)

  renumbered-bodies : (first count : ℕ) (ds : List Definition) → BodiesCovered M ds
      → resolved_bodies T' P first count ds ≡ map (renumbered numbers) (resolved_bodies T P first count ds)
  renumbered-bodies first count [] covered = refl
  renumbered-bodies first count (d ∷ ds) covered = λ i.
      renumbered-strategy (scope_of first count d) d.body covered.0 i
      ∷ renumbered-bodies (first + length (free_of d)) count ds covered.1 i

  pub renumbered-joined : (ds : List Definition) → BodiesCovered M ds
      → joined_definition T' P ds ≡ renumbered_definition numbers (joined_definition T P ds)
  renumbered-joined ds covered =
      let count = variable_count ds in
      ap (λ (s : ResolvedStrategy). record (joined_definition T P ds) { strategy = s })
      (ap joined (renumbered-bodies (term_count ds) (term_count ds + count) ds covered)
      ∙ joined-renumbered numbers (resolved_bodies T P (term_count ds) (term_count ds + count) ds))

  -- the groups of these definitions by their numbers in a table
  module _ (U : Table) (ds : List Definition) (covered : BodiesCovered M ds) where
    pub renumbered-groups : (i : ℕ) (ks : List DefinitionKey)
        → map (joined_definition T' P) (groups_from U ds i ks)
        ≡ map (renumbered_definition numbers) (map (joined_definition T P) (groups_from U ds i ks))
    renumbered-groups i [] = refl
    renumbered-groups i (k ∷ ks) = λ l.
        renumbered-joined (of_number U ds i) (covered-filter M (λ d. is_number i
        (definition_number U d.name (length d.strategy_parameters) (length d.term_parameters))) ds covered) l
        ∷ renumbered-groups (i + 1) ks l
