-- Matching a pattern against a term, and building its instance. Bindings are a list of cells, each
-- empty or with a term; a scope maps the number of a variable to a cell, and here it is the list of
-- these cells, by their numbers. Match and build are those of "A Core Language for Rewriting" by
-- Visser and Benaissa; lists with a tail are the Stratego manual's; what patterns say about
-- annotations is our own.
use Rattle.std.specs.Prelude.{ℕ, ℤ, Bool, false, cond, List, [], ◌∷◌, ◌++◌, length, take, drop, slice_get, slice_set, Some, None, option_map, option_and_then}
use Rattle.std.specs.declared.option.Option.{Option}
use Rattle.std.specs.Ordering.{int_eq}
use Rattle.term_core.specs.Tree.{Head, application, list, tuple, Tree, integer, branch, none, to_list, of_list, children, annotations, with_annotations, bare, integer_term, list_term}
use Rattle.strategy_syntax.specs.Resolved.{ResolvedPattern, wildcard, variable, at, number, compound, with_tail, annotated, ResolvedPatterns, no_resolved_patterns, and_resolved_pattern, resolved_pattern_list}
use Rattle.strategy_meaning.specs.Same.{same_head, same_tree}

-- the term in each cell, if there is one
abbrev pub Bindings : Type 0
Bindings = List (Option Tree)

-- ---- parts of a term

abbrev pub is_integer : ℤ → Tree → Bool
is_integer y (integer z notes) = int_eq y z
is_integer y (branch h kids notes) = false

abbrev pub is_headed : Head → Tree → Bool
is_headed h (integer z notes) = false
is_headed h (branch k kids notes) = same_head h k

-- the elements, if the term is a list
abbrev pub elements : Tree → Option (List Tree)
elements (integer z notes) = None
elements (branch (application f) kids notes) = None
elements (branch list kids notes) = Some (to_list kids)
elements (branch tuple kids notes) = None

-- ---- matching

-- An empty cell takes the term, annotations and all; one that holds a term has to hold an equal one.
abbrev pub put_or_same : Bindings → ℕ → Tree → Option (Option Tree) → Option Bindings
put_or_same B i t None = None
put_or_same B i t (Some None) = Some (slice_set B i (Some t))
put_or_same B i t (Some (Some u)) = cond (same_tree u t) (Some B) None

-- binds variable x to a term
abbrev pub bind : List ℕ → ℕ → Tree → Bindings → Option Bindings
bind E x t B = option_and_then (λ i. put_or_same B i t (slice_get B i)) (slice_get E x)

-- The bindings after a match, or nothing. Only a pattern with an annotation part looks at
-- annotations: the rest of it matches the term without them. A tail matches the list of the rest,
-- which has none.
abbrev mutual
  pub match_pattern : ResolvedPattern → Tree → List ℕ → Bindings → Option Bindings
  match_pattern wildcard t E B = Some B
  match_pattern (variable x) t E B = bind E x t B
  match_pattern (at x p) t E B = option_and_then (λ B1. match_pattern p t E B1) (bind E x t B)
  match_pattern (number z) t E B = cond (is_integer z t) (Some B) None
  match_pattern (compound h ps) t E B =
      cond (is_headed h t) (match_patterns ps (children t) E B) None
  match_pattern (with_tail ps p) t E B =
      option_and_then (λ us. option_and_then
      (λ B1. match_pattern p (list_term (drop (length (resolved_pattern_list ps)) us)) E B1)
      (match_patterns ps (take (length (resolved_pattern_list ps)) us) E B)) (elements t)
  match_pattern (annotated p ps) t E B =
      option_and_then (λ B1. match_patterns ps (annotations t) E B1) (match_pattern p (bare t) E B)

  -- patterns and terms in equal number, from left to right
  pub match_patterns : ResolvedPatterns → List Tree → List ℕ → Bindings → Option Bindings
  match_patterns no_resolved_patterns [] E B = Some B
  match_patterns no_resolved_patterns (t ∷ ts) E B = None
  match_patterns (and_resolved_pattern p ps) [] E B = None
  match_patterns (and_resolved_pattern p ps) (t ∷ ts) E B =
      option_and_then (λ B1. match_patterns ps ts E B1) (match_pattern p t E B)

-- ---- building

-- what variable x is bound to
abbrev pub bound_to : List ℕ → ℕ → Bindings → Option Tree
bound_to E x B = option_and_then (λ i. option_and_then (λ o. o) (slice_get B i)) (slice_get E x)

-- The instance of a pattern, or nothing if a variable has no binding, a tail is no list, or the
-- pattern contains `_` or `x@p`. Annotations are those of the pattern and those of bindings.
abbrev mutual
  pub build_pattern : ResolvedPattern → List ℕ → Bindings → Option Tree
  build_pattern wildcard E B = None
  build_pattern (variable x) E B = bound_to E x B
  build_pattern (at x p) E B = None
  build_pattern (number z) E B = Some (integer_term z)
  build_pattern (compound h ps) E B =
      option_map (λ us. branch h (of_list us) none) (build_patterns ps E B)
  build_pattern (with_tail ps p) E B =
      option_and_then (λ us. option_map (λ vs. list_term (us ++ vs))
      (option_and_then elements (build_pattern p E B))) (build_patterns ps E B)
  build_pattern (annotated p ps) E B =
      option_and_then (λ u. option_map (with_annotations u) (build_patterns ps E B))
      (build_pattern p E B)

  pub build_patterns : ResolvedPatterns → List ℕ → Bindings → Option (List Tree)
  build_patterns no_resolved_patterns E B = Some []
  build_patterns (and_resolved_pattern p ps) E B =
      option_and_then (λ u. option_map (λ us. u ∷ us) (build_patterns ps E B)) (build_pattern p E B)
