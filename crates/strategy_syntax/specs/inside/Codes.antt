-- How the logic stores patterns and strategies: as terms. A term's annotations hold the root, its
-- children the parts.
use Rattle.std.specs.Prelude.{◌≡◌, ℕ, pos, nat_abs, ◌==◌, cond, List, [], ◌∷◌, refl, false}
use Rattle.std.proofs.Common.{ap}
use Rattle.std.specs.Coded.{Coded, code_by}
use Rattle.term_core.specs.Tree.{Symbol, Head, application, list, tuple, Tree, Trees, integer, branch, none, more}
use Rattle.term_core.specs.inside.TreeCode.{tree_code}
use Rattle.strategy_syntax.specs.Syntax.{Pattern, wildcard, variable, at, number, compound, with_tail, annotated, Patterns, no_patterns, and_pattern, Strategy, id, fail, matches, builds, seq, guard, test, scope, uses, congruence, tail_congruence, all, one, some, child, rec, prim, Strategies, no_strategies, and_strategy}

-- ---- the fields of the roots

abbrev pub symbol_tree : Symbol → Tree
symbol_tree f = branch (application f) none none

abbrev pub tree_symbol : Tree → Symbol
tree_symbol (integer z notes) = record { text = []; is_quoted = false }
tree_symbol (branch (application f) ts notes) = f
tree_symbol (branch list ts notes) = record { text = []; is_quoted = false }
tree_symbol (branch tuple ts notes) = record { text = []; is_quoted = false }

abbrev pub head_tree : Head → Tree
head_tree h = branch h none none

abbrev pub tree_head : Tree → Head
tree_head (integer z notes) = list
tree_head (branch h ts notes) = h

abbrev pub number_tree : ℕ → Tree
number_tree n = integer (pos n) none

abbrev pub tree_number : Tree → ℕ
tree_number (integer z notes) = nat_abs z
tree_number (branch h ts notes) = 0

-- the tree with a number and a field at its root, and these children
abbrev pub tagged : ℕ → Tree → Trees → Tree
tagged tag beside ts = branch list ts (more (number_tree tag) (more beside none))

abbrev pub nothing : Tree
nothing = branch list none none

abbrev pub first_of : Trees → Tree
first_of none = nothing
first_of (more t ts) = t

abbrev pub after_first : Trees → Trees
after_first none = none
after_first (more t ts) = ts

abbrev pub symbols_tree : List Symbol → Trees
symbols_tree [] = none
symbols_tree (f ∷ fs) = more (symbol_tree f) (symbols_tree fs)

abbrev pub trees_symbols : Trees → List Symbol
trees_symbols none = []
trees_symbols (more t ts) = tree_symbol t ∷ trees_symbols ts

pub symbols_again : (fs : List Symbol) → trees_symbols (symbols_tree fs) ≡ fs
symbols_again [] = refl
symbols_again (f ∷ fs) = ap (λ l. f ∷ l) (symbols_again fs)

-- ---- patterns

abbrev mutual
  pub pattern_tree : Pattern → Tree
  pattern_tree wildcard = tagged 0 nothing none
  pattern_tree (variable x) = tagged 1 (symbol_tree x) none
  pattern_tree (at x p) = tagged 2 (symbol_tree x) (more (pattern_tree p) none)
  pattern_tree (number z) = integer z none
  pattern_tree (compound h ps) = tagged 3 (head_tree h) (patterns_tree ps)
  pattern_tree (with_tail ps p) = tagged 4 nothing (more (pattern_tree p) (patterns_tree ps))
  pattern_tree (annotated p ps) = tagged 5 nothing (more (pattern_tree p) (patterns_tree ps))

  pub patterns_tree : Patterns → Trees
  patterns_tree no_patterns = none
  patterns_tree (and_pattern p ps) = more (pattern_tree p) (patterns_tree ps)

abbrev on_pattern : (Pattern → Patterns → Pattern) → Patterns → Pattern
on_pattern f no_patterns = wildcard
on_pattern f (and_pattern p ps) = f p ps

abbrev made : ℕ → Tree → Patterns → Pattern
made tag beside ps =
    cond (tag == 0) wildcard (cond (tag == 1) (variable (tree_symbol beside))
    (cond (tag == 2) (on_pattern (λ p qs. at (tree_symbol beside) p) ps)
    (cond (tag == 3) (compound (tree_head beside) ps)
    (cond (tag == 4) (on_pattern (λ p qs. with_tail qs p) ps)
    (on_pattern (λ p qs. annotated p qs) ps)))))

abbrev mutual
  pub tree_pattern : Tree → Pattern
  tree_pattern (integer z notes) = number z
  tree_pattern (branch h ts notes) =
      made (tree_number (first_of notes)) (first_of (after_first notes)) (trees_patterns ts)

  pub trees_patterns : Trees → Patterns
  trees_patterns none = no_patterns
  trees_patterns (more t ts) = and_pattern (tree_pattern t) (trees_patterns ts)

mutual
  pub pattern_again : (p : Pattern) → tree_pattern (pattern_tree p) ≡ p
  pattern_again wildcard = refl
  pattern_again (variable x) = refl
  pattern_again (at x p) = ap (at x) (pattern_again p)
  pattern_again (number z) = refl
  pattern_again (compound h ps) = ap (compound h) (patterns_again ps)
  pattern_again (with_tail ps p) = λ i. with_tail (patterns_again ps i) (pattern_again p i)
  pattern_again (annotated p ps) = λ i. annotated (pattern_again p i) (patterns_again ps i)

  pub patterns_again : (ps : Patterns) → trees_patterns (patterns_tree ps) ≡ ps
  patterns_again no_patterns = refl
  patterns_again (and_pattern p ps) = λ i. and_pattern (pattern_again p i) (patterns_again ps i)

abbrev pub pattern_code : Coded Pattern
pattern_code = code_by Tree tree_code pattern_tree tree_pattern pattern_again

-- ---- strategies

-- the fields of a root: a name or a number, names, and patterns
abbrev beside : Tree → Trees → Trees → Tree
beside t names ps = branch tuple ps (more t names)

abbrev tree_of_tuple : Tree → Tree
tree_of_tuple (integer z notes) = nothing
tree_of_tuple (branch h ts notes) = first_of notes

abbrev names_of_tuple : Tree → List Symbol
names_of_tuple (integer z notes) = []
names_of_tuple (branch h ts notes) = trees_symbols (after_first notes)

abbrev patterns_of_tuple : Tree → Patterns
patterns_of_tuple (integer z notes) = no_patterns
patterns_of_tuple (branch h ts notes) = trees_patterns ts

abbrev alone : Tree
alone = beside nothing none none

abbrev mutual
  pub strategy_tree : Strategy → Tree
  strategy_tree id = tagged 0 alone none
  strategy_tree fail = tagged 1 alone none
  strategy_tree (matches p) = tagged 2 (beside (pattern_tree p) none none) none
  strategy_tree (builds p) = tagged 3 (beside (pattern_tree p) none none) none
  strategy_tree (seq a b) =
      tagged 4 alone (more (strategy_tree a) (more (strategy_tree b) none))
  strategy_tree (guard a b c) =
      tagged 5 alone (more (strategy_tree a) (more (strategy_tree b) (more (strategy_tree c) none)))
  strategy_tree (test a) = tagged 6 alone (more (strategy_tree a) none)
  strategy_tree (scope xs a) =
      tagged 7 (beside nothing (symbols_tree xs) none) (more (strategy_tree a) none)
  strategy_tree (uses f ss ps) =
      tagged 8 (beside (symbol_tree f) none (patterns_tree ps)) (strategies_tree ss)
  strategy_tree (congruence h ss) = tagged 9 (beside (head_tree h) none none) (strategies_tree ss)
  strategy_tree (tail_congruence ss a) =
      tagged 10 alone (more (strategy_tree a) (strategies_tree ss))
  strategy_tree (all a) = tagged 11 alone (more (strategy_tree a) none)
  strategy_tree (one a) = tagged 12 alone (more (strategy_tree a) none)
  strategy_tree (some a) = tagged 13 alone (more (strategy_tree a) none)
  strategy_tree (child i a) =
      tagged 14 (beside (number_tree i) none none) (more (strategy_tree a) none)
  strategy_tree (rec x a) =
      tagged 15 (beside (symbol_tree x) none none) (more (strategy_tree a) none)
  strategy_tree (prim n ps) = tagged 16 (beside (symbol_tree n) none (patterns_tree ps)) none

  pub strategies_tree : Strategies → Trees
  strategies_tree no_strategies = none
  strategies_tree (and_strategy s ss) = more (strategy_tree s) (strategies_tree ss)

abbrev on_one : (Strategy → Strategies → Strategy) → Strategies → Strategy
on_one f no_strategies = id
on_one f (and_strategy a ss) = f a ss

abbrev on_two : (Strategy → Strategy → Strategies → Strategy) → Strategies → Strategy
on_two f no_strategies = id
on_two f (and_strategy a ss) = on_one (f a) ss

abbrev on_three : Strategies → Strategy
on_three no_strategies = id
on_three (and_strategy a ss) = on_two (λ b c rest. guard a b c) ss

abbrev made_strategy : ℕ → Tree → Strategies → Strategy
made_strategy tag t ss =
    cond (tag == 0) id (cond (tag == 1) fail
    (cond (tag == 2) (matches (tree_pattern (tree_of_tuple t)))
    (cond (tag == 3) (builds (tree_pattern (tree_of_tuple t)))
    (cond (tag == 4) (on_two (λ a b rest. seq a b) ss) (cond (tag == 5) (on_three ss)
    (cond (tag == 6) (on_one (λ a rest. test a) ss)
    (cond (tag == 7) (on_one (λ a rest. scope (names_of_tuple t) a) ss)
    (cond (tag == 8) (uses (tree_symbol (tree_of_tuple t)) ss (patterns_of_tuple t))
    (cond (tag == 9) (congruence (tree_head (tree_of_tuple t)) ss)
    (cond (tag == 10) (on_one (λ a rest. tail_congruence rest a) ss)
    (cond (tag == 11) (on_one (λ a rest. all a) ss) (cond (tag == 12) (on_one (λ a rest. one a) ss)
    (cond (tag == 13) (on_one (λ a rest. some a) ss)
    (cond (tag == 14) (on_one (λ a rest. child (tree_number (tree_of_tuple t)) a) ss)
    (cond (tag == 15) (on_one (λ a rest. rec (tree_symbol (tree_of_tuple t)) a) ss)
    (prim (tree_symbol (tree_of_tuple t)) (patterns_of_tuple t)))))))))))))))))

abbrev mutual
  pub tree_strategy : Tree → Strategy
  tree_strategy (integer z notes) = id
  tree_strategy (branch h ts notes) =
      made_strategy (tree_number (first_of notes)) (first_of (after_first notes))
      (trees_strategies ts)

  pub trees_strategies : Trees → Strategies
  trees_strategies none = no_strategies
  trees_strategies (more t ts) = and_strategy (tree_strategy t) (trees_strategies ts)

mutual
  pub strategy_again : (s : Strategy) → tree_strategy (strategy_tree s) ≡ s
  strategy_again id = refl
  strategy_again fail = refl
  strategy_again (matches p) = ap matches (pattern_again p)
  strategy_again (builds p) = ap builds (pattern_again p)
  strategy_again (seq a b) = λ i. seq (strategy_again a i) (strategy_again b i)
  strategy_again (guard a b c) =
      λ i. guard (strategy_again a i) (strategy_again b i) (strategy_again c i)
  strategy_again (test a) = ap test (strategy_again a)
  strategy_again (scope xs a) = λ i. scope (symbols_again xs i) (strategy_again a i)
  strategy_again (uses f ss ps) = λ i. uses f (strategies_again ss i) (patterns_again ps i)
  strategy_again (congruence h ss) = ap (congruence h) (strategies_again ss)
  strategy_again (tail_congruence ss a) =
      λ i. tail_congruence (strategies_again ss i) (strategy_again a i)
  strategy_again (all a) = ap all (strategy_again a)
  strategy_again (one a) = ap one (strategy_again a)
  strategy_again (some a) = ap some (strategy_again a)
  strategy_again (child n a) = ap (child n) (strategy_again a)
  strategy_again (rec x a) = ap (rec x) (strategy_again a)
  strategy_again (prim n ps) = ap (prim n) (patterns_again ps)

  pub strategies_again : (ss : Strategies) → trees_strategies (strategies_tree ss) ≡ ss
  strategies_again no_strategies = refl
  strategies_again (and_strategy s ss) =
      λ i. and_strategy (strategy_again s i) (strategies_again ss i)

abbrev pub strategy_code : Coded Strategy
strategy_code = code_by Tree tree_code strategy_tree tree_strategy strategy_again
