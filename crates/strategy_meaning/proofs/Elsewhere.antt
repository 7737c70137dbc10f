-- Runs in two places, whose callers have other cells, levels and room, have the same answers.
use Rattle.std.proofs.Common.{◌≡◌, ◌≤◌, ℕ, ◌+◌, zero, suc, List, [], ◌∷◌, ◌++◌, length, map, replicate, take, drop, Bool, true, false, ◌&&◌, cond, refl, ap, ap₂, ◌∙◌, subst, arith, slice_get, slice_set, Some, None, ◌⊎◌, inl, inr, append-nil, length-append}
use Rattle.std.specs.declared.option.Option.{Option}
use Rattle.std.specs.Prelude.{option_and_then, option_map, nat_le, unwrap_or, ◌-◌}
use Rattle.std.proofs.lemmas.List.{append_assoc, length-set, set-append_right, length-take-le}
use Rattle.std.proofs.lemmas.Bool.{leb-true, le-leb}
use Rattle.std.proofs.lemmas.Bool.Decides.{nat_tests}
use Rattle.std.proofs.Math.Seq.{take-append-add}
use Rattle.term_core.specs.Tree.{Tree, none, branch, of_list, children, annotations, bare, with_annotations, list_term}
use Rattle.term_core.specs.Size.{fits}
use Rattle.term_core.proofs.TreeLemmas.{size_pos}
use Rattle.term_paths.specs.Edits.{Edits}
use Rattle.strategy_syntax.specs.Resolved.{ResolvedPattern, wildcard, variable, at, number, compound, with_tail, annotated, ResolvedPatterns, no_resolved_patterns, and_resolved_pattern, resolved_pattern_list, ResolvedStrategy, id, fail, matches, builds, seq, guard, test, scope, param, call, congruence, tail_congruence, all, one, some, child, rec, prim, ResolvedStrategies, no_strategies, and_strategy, resolved_list}
use Rattle.strategy_meaning.specs.Same.{same_tree}
use Rattle.strategy_meaning.specs.Matching.{Bindings, match_pattern, match_patterns, build_pattern, build_patterns, bind, put_or_same, elements, is_integer, is_headed}
use Rattle.strategy_meaning.specs.Scopes.{Scope, inside, Closures, no_closures, and_closure, Closure, closure_at, stands_for, with_variables, with_name, with_closure, numbers_from, argument, arguments}
use Rattle.strategy_meaning.specs.Answer.{Answer, done, failed, stopped, spent, big, Act, either, if_done, with_edits, and_then}
use Rattle.strategy_meaning.specs.Laws.{in_room}
use Rattle.strategy_meaning.specs.Meaning.{World, Evaluation, with_some, on_child, each, leftmost, those_done, on_child_number, is_over, is_list_from, rest_of, on_rest, built, built_all, cut, opened, form, run, run_bounded}
use Rattle.strategy_meaning.specs.Closed.{pattern_from, patterns_from, strategy_from, strategies_from, CellsMatch, ScopesMatch, NamesMatch, Tells, ClosedRunsAreTheSame}

and-left : (a b : Bool) → a && b ≡ true → a ≡ true
and-left true b e = refl
and-left false b e = e

and-right : (a b : Bool) → a && b ≡ true → b ≡ true
and-right true b e = e
and-right false b e = absurd (cc)

both : (a b : Bool) → a ≡ true → b ≡ true → a && b ≡ true
both true b h k = k
both false b h k = h

-- ---- lists after others

get_after : {X : Type 0} (xs ys : List X) (k : ℕ) → slice_get (xs ++ ys) (length xs + k) ≡ slice_get ys k
get_after [] ys k = ap (slice_get ys) (omega arith)
get_after (x ∷ xs) ys k =
    let next : length (x ∷ xs) + k ≡ suc (length xs + k) = omega arith in
    ap (slice_get (x ∷ (xs ++ ys))) next ∙ get_after xs ys k

set_after : {X : Type 0} (xs ys : List X) (k : ℕ) (y : X)
    → slice_set (xs ++ ys) (length xs + k) y ≡ xs ++ slice_set ys k y
set_after xs ys k y =
    let past : length xs ≤ length xs + k = omega arith in
    let rest : (length xs + k) - length xs ≡ k = omega arith in
    set-append_right xs ys (length xs) (length xs + k) y refl past ∙ ap (λ i. xs ++ slice_set ys i y) rest

-- the front of a longer list
take_after : {X : Type 0} (xs ns ys : List X) → take (length (xs ++ ns)) (xs ++ ys) ≡ xs ++ take (length ns) ys
take_after xs ns ys = ap (λ n. take n (xs ++ ys)) (length-append xs ns) ∙ take-append-add xs ys (length ns)

-- ---- variables and names

module _ (p q : ℕ) where
  -- the two cells of a variable, or neither
  abbrev Found : Option ℕ → Option ℕ → Type 0
  Found o r = ((k : ℕ) × (o ≡ Some (p + k)) × (r ≡ Some (q + k))) ⊎ ((o ≡ None) × (r ≡ None))

  found : (m x : ℕ) (cs ds : List ℕ) → CellsMatch p q m cs ds → m ≤ x → Found (slice_get cs x) (slice_get ds x)
  found m x [] [] h le = inr (refl, refl)
  found m x [] (d ∷ ds) h le = absurd h
  found m x (c ∷ cs) [] h le = absurd h
  found zero zero (c ∷ cs) (d ∷ ds) h le = inl (h.0.0, ap Some h.0.1, ap Some h.0.2)
  found zero (suc x) (c ∷ cs) (d ∷ ds) h le = found zero x cs ds h.1 (omega arith)
  found (suc m) zero (c ∷ cs) (d ∷ ds) h le = absurd (omega (arith, le))
  found (suc m) (suc x) (c ∷ cs) (d ∷ ds) h le = found m x cs ds h (omega (arith, le))

  cells_weaker : (m : ℕ) (cs ds : List ℕ) → CellsMatch p q zero cs ds → CellsMatch p q m cs ds
  cells_weaker m [] [] h = tt
  cells_weaker m [] (d ∷ ds) h = absurd h
  cells_weaker m (c ∷ cs) [] h = absurd h
  cells_weaker zero (c ∷ cs) (d ∷ ds) h = h
  cells_weaker (suc m) (c ∷ cs) (d ∷ ds) h = cells_weaker m cs ds h.1

  cells_more : (m : ℕ) (cs ds ns ms : List ℕ) → CellsMatch p q m cs ds → CellsMatch p q zero ns ms
      → CellsMatch p q m (cs ++ ns) (ds ++ ms)
  cells_more m [] [] ns ms h g = cells_weaker m ns ms g
  cells_more m [] (d ∷ ds) ns ms h g = absurd h
  cells_more m (c ∷ cs) [] ns ms h g = absurd h
  cells_more zero (c ∷ cs) (d ∷ ds) ns ms h g = (h.0, cells_more zero cs ds ns ms h.1 g)
  cells_more (suc m) (c ∷ cs) (d ∷ ds) ns ms h g = cells_more m cs ds ns ms h g

  new_cells : (n i a c : ℕ) → a ≡ p + i → c ≡ q + i → CellsMatch p q zero (numbers_from a n) (numbers_from c n)
  new_cells zero i a c e f = tt
  new_cells (suc n) i a c e f = ((i, e, f), new_cells n (i + 1) (a + 1) (c + 1) (omega (arith, e)) (omega (arith, f)))

  with_more : (m n i a c : ℕ) (E F : Scope) → a ≡ p + i → c ≡ q + i → ScopesMatch p q m E F
      → ScopesMatch p q m (with_variables E a n) (with_variables F c n)
  with_more m n i a c (inside cs ns) (inside ds ms) e f h = (cells_more m cs ds _ _ h.0 (new_cells n i a c e f), h.1)

  -- what a name stands for in both, or nothing
  abbrev SameName : Option Closure → Option Closure → Type 0
  SameName None o = o ≡ None
  SameName (Some k) o = (r : Closure) × (o ≡ Some r) × (k.strategy ≡ r.strategy)
      × ((m : ℕ) × (strategy_from m k.strategy ≡ true) × ScopesMatch p q m k.written_in r.written_in)

  name_at : (ns ms : Closures) (x : ℕ) → NamesMatch p q ns ms → SameName (closure_at ns x) (closure_at ms x)
  name_at no_closures no_closures x h = refl
  name_at no_closures (and_closure r F ms) x h = absurd h
  name_at (and_closure s E ns) no_closures x h = absurd h
  name_at (and_closure s E ns) (and_closure r F ms) zero h = (record { strategy = r; written_in = F }, refl, h.0, h.1)
  name_at (and_closure s E ns) (and_closure r F ms) (suc x) h = name_at ns ms x h.2

  stands : (m x : ℕ) (E F : Scope) → ScopesMatch p q m E F → SameName (stands_for E x) (stands_for F x)
  stands m x (inside cs ns) (inside ds ms) h = name_at ns ms x h.1

  names_more : (m : ℕ) (ns ms : Closures) (s : ResolvedStrategy) (E F : Scope) → NamesMatch p q ns ms
      → strategy_from m s ≡ true → ScopesMatch p q m E F
      → NamesMatch p q (with_closure ns s E) (with_closure ms s F)
  names_more m no_closures no_closures s E F h e g = (refl, (m, e, g), tt)
  names_more m no_closures (and_closure r G ms) s E F h e g = absurd h
  names_more m (and_closure t D ns) no_closures s E F h e g = absurd h
  names_more m (and_closure t D ns) (and_closure r G ms) s E F h e g = (h.0, h.1, names_more m ns ms s E F h.2 e g)

  with_one : (m : ℕ) (s : ResolvedStrategy) (E F G H : Scope) → ScopesMatch p q m E F
      → strategy_from m s ≡ true → ScopesMatch p q m G H → ScopesMatch p q m (with_name E s G) (with_name F s H)
  with_one m s (inside cs ns) (inside ds ms) G H h e g = (h.0, names_more m ns ms s G H h.1 e g)

  -- what two strategies stand for as arguments
  abbrev SameArgument : Closure → Closure → Type 0
  SameArgument k r = (k.strategy ≡ r.strategy)
      × ((m : ℕ) × (strategy_from m k.strategy ≡ true) × ScopesMatch p q m k.written_in r.written_in)

  name_argument : (m x : ℕ) (E F : Scope) (o r : Option Closure) → ScopesMatch p q m E F → SameName o r
      → SameArgument (unwrap_or o (record { strategy = param x; written_in = E }))
      (unwrap_or r (record { strategy = param x; written_in = F }))
  name_argument m x E F None r h e = rw e (refl, (m, refl, h))
  name_argument m x E F (Some k) r h e = rw e.1 (e.2, e.3)

  one_argument : (m : ℕ) (s : ResolvedStrategy) (E F : Scope) → ScopesMatch p q m E F
      → strategy_from m s ≡ true → SameArgument (argument E s) (argument F s)
  one_argument m (param x) E F h e = name_argument m x E F (stands_for E x) (stands_for F x) h (stands m x E F h)
  one_argument m id E F h e = (refl, (m, e, h))
  one_argument m fail E F h e = (refl, (m, e, h))
  one_argument m (matches a) E F h e = (refl, (m, e, h))
  one_argument m (builds a) E F h e = (refl, (m, e, h))
  one_argument m (seq a c) E F h e = (refl, (m, e, h))
  one_argument m (guard a c d) E F h e = (refl, (m, e, h))
  one_argument m (test a) E F h e = (refl, (m, e, h))
  one_argument m (scope n a) E F h e = (refl, (m, e, h))
  one_argument m (call f ss ps) E F h e = (refl, (m, e, h))
  one_argument m (congruence a ss) E F h e = (refl, (m, e, h))
  one_argument m (tail_congruence ss a) E F h e = (refl, (m, e, h))
  one_argument m (all a) E F h e = (refl, (m, e, h))
  one_argument m (one a) E F h e = (refl, (m, e, h))
  one_argument m (some a) E F h e = (refl, (m, e, h))
  one_argument m (child n a) E F h e = (refl, (m, e, h))
  one_argument m (rec a) E F h e = (refl, (m, e, h))
  one_argument m (prim n ps) E F h e = (refl, (m, e, h))

  all_arguments : (m : ℕ) (ss : ResolvedStrategies) (E F : Scope) → ScopesMatch p q m E F
      → strategies_from m ss ≡ true → NamesMatch p q (arguments E ss) (arguments F ss)
  all_arguments m no_strategies E F h e = tt
  all_arguments m (and_strategy s ss) E F h e =
      let one = one_argument m s E F h (and-left (strategy_from m s) (strategies_from m ss) e) in
      (one.0, one.1, all_arguments m ss E F h (and-right (strategy_from m s) (strategies_from m ss) e))

-- ---- every variable has a number from 0 on

mutual
  pattern_all : (x : ResolvedPattern) → pattern_from zero x ≡ true
  pattern_all wildcard = refl
  pattern_all (variable x) = le-leb zero x (omega arith)
  pattern_all (at x a) = both (nat_le zero x) (pattern_from zero a) (le-leb zero x (omega arith)) (pattern_all a)
  pattern_all (number z) = refl
  pattern_all (compound h ps) = patterns_all ps
  pattern_all (with_tail ps a) = both (patterns_from zero ps) (pattern_from zero a) (patterns_all ps) (pattern_all a)
  pattern_all (annotated a ps) = both (pattern_from zero a) (patterns_from zero ps) (pattern_all a) (patterns_all ps)

  patterns_all : (ps : ResolvedPatterns) → patterns_from zero ps ≡ true
  patterns_all no_resolved_patterns = refl
  patterns_all (and_resolved_pattern a ps) =
      both (pattern_from zero a) (patterns_from zero ps) (pattern_all a) (patterns_all ps)

mutual
  strategy_all : (s : ResolvedStrategy) → strategy_from zero s ≡ true
  strategy_all id = refl
  strategy_all fail = refl
  strategy_all (matches a) = pattern_all a
  strategy_all (builds a) = pattern_all a
  strategy_all (seq a c) = both (strategy_from zero a) (strategy_from zero c) (strategy_all a) (strategy_all c)
  strategy_all (guard a c d) =
      both (strategy_from zero a) (strategy_from zero c && strategy_from zero d) (strategy_all a)
      (both (strategy_from zero c) (strategy_from zero d) (strategy_all c) (strategy_all d))
  strategy_all (test a) = strategy_all a
  strategy_all (scope n a) = strategy_all a
  strategy_all (param x) = refl
  strategy_all (call f ss ps) =
      both (strategies_from zero ss) (patterns_from zero ps) (strategies_all ss) (patterns_all ps)
  strategy_all (congruence a ss) = strategies_all ss
  strategy_all (tail_congruence ss a) =
      both (strategies_from zero ss) (strategy_from zero a) (strategies_all ss) (strategy_all a)
  strategy_all (all a) = strategy_all a
  strategy_all (one a) = strategy_all a
  strategy_all (some a) = strategy_all a
  strategy_all (child n a) = strategy_all a
  strategy_all (rec a) = strategy_all a
  strategy_all (prim n ps) = patterns_all ps

  strategies_all : (ss : ResolvedStrategies) → strategies_from zero ss ≡ true
  strategies_all no_strategies = refl
  strategies_all (and_strategy a ss) =
      both (strategy_from zero a) (strategies_from zero ss) (strategy_all a) (strategies_all ss)

-- ---- strategies in a list

abbrev AllOk : (ResolvedStrategy → Type 0) → List ResolvedStrategy → Type 0
AllOk ok [] = Unit {0}
AllOk ok (s ∷ ss) = ok s × AllOk ok ss

all_from : (m : ℕ) (ss : ResolvedStrategies)
    → strategies_from m ss ≡ true → AllOk (λ s. strategy_from m s ≡ true) (resolved_list ss)
all_from m no_strategies e = tt
all_from m (and_strategy s ss) e = (
  and-left (strategy_from m s) (strategies_from m ss) e,
  all_from m ss (and-right (strategy_from m s) (strategies_from m ss) e),
)

all_copies : (m n : ℕ) (s : ResolvedStrategy)
    → strategy_from m s ≡ true → AllOk (λ r. strategy_from m r ≡ true) (replicate n s)
all_copies m zero s e = tt
all_copies m (suc n) s e = (e, all_copies m n s e)

-- ---- matching and building, where the callers have bound B and C

module _ (B C : Bindings) where
  abbrev Cells : ℕ → List ℕ → List ℕ → Type 0
  Cells m cs ds = CellsMatch (length B) (length C) m cs ds

  -- the bindings after a match on both sides: those of the callers, and the same new ones, as many as before
  abbrev Bound : Bindings → Option Bindings → Option Bindings → Type 0
  Bound N None o = o ≡ None
  Bound N (Some D) o = (M : Bindings) × (D ≡ B ++ M) × (length M ≡ length N) × (o ≡ Some (C ++ M))

  bound_as : (N M : Bindings) (o r : Option Bindings) → length M ≡ length N → Bound M o r → Bound N o r
  bound_as N M None r e h = h
  bound_as N M (Some D) r e h = (h.0, h.1, h.2 ∙ e, h.3)

  bound_then : (N : Bindings) (o r : Option Bindings) (f g : Bindings → Option Bindings) → Bound N o r
      → ((M : Bindings) → Bound M (f (B ++ M)) (g (C ++ M))) → Bound N (option_and_then f o) (option_and_then g r)
  bound_then N None r f g h k = rw h refl
  bound_then N (Some D) r f g h k = rw (h.1, h.3) (bound_as N h.0 (f (B ++ h.0)) (g (C ++ h.0)) h.2 (k h.0))

  bound_if : (N : Bindings) (v : Bool) (o r : Option Bindings) → Bound N o r → Bound N (cond v o None) (cond v r None)
  bound_if N true o r h = h
  bound_if N false o r h = refl

  put_bound : (N : Bindings) (k : ℕ) (t : Tree) (o : Option (Option Tree))
      → Bound N (put_or_same (B ++ N) (length B + k) t o) (put_or_same (C ++ N) (length C + k) t o)
  put_bound N k t None = refl
  put_bound N k t (Some None) =
      (slice_set N k (Some t), set_after B N k (Some t), length-set N k (Some t), ap Some (set_after C N k (Some t)))
  put_bound N k t (Some (Some u)) = bound_if N (same_tree u t) (Some (B ++ N)) (Some (C ++ N)) (N, refl, refl, refl)

  bind_found : (N : Bindings) (t : Tree) (o r : Option ℕ) → Found (length B) (length C) o r
      → Bound N (option_and_then (λ i. put_or_same (B ++ N) i t (slice_get (B ++ N) i)) o)
      (option_and_then (λ i. put_or_same (C ++ N) i t (slice_get (C ++ N) i)) r)
  bind_found N t o r (inl h) =
      rw (h.1, h.2, get_after B N h.0, get_after C N h.0) (put_bound N h.0 t (slice_get N h.0))
  bind_found N t o r (inr h) = rw (h.0, h.1) refl

  bind_bound : (N : Bindings) (m x : ℕ) (t : Tree) (cs ds : List ℕ) → Cells m cs ds
      → nat_le m x ≡ true → Bound N (bind cs x t (B ++ N)) (bind ds x t (C ++ N))
  bind_bound N m x t cs ds h e =
      bind_found N t (slice_get cs x) (slice_get ds x) (found (length B) (length C) m x cs ds h (leb-true m x e))

  -- the elements, and then the list of the rest
  tail_bound : (N : Bindings) (n : ℕ) (front : List Tree → List ℕ → Bindings → Option Bindings)
      (rest : Tree → List ℕ → Bindings → Option Bindings) (cs ds : List ℕ) (o : Option (List Tree))
      → ((us : List Tree) → Bound N (front us cs (B ++ N)) (front us ds (C ++ N)))
      → ((u : Tree) (M : Bindings) → Bound M (rest u cs (B ++ M)) (rest u ds (C ++ M)))
      → Bound N (option_and_then
      (λ us. option_and_then (λ D. rest (list_term (drop n us)) cs D) (front (take n us) cs (B ++ N))) o)
      (option_and_then
      (λ us. option_and_then (λ D. rest (list_term (drop n us)) ds D) (front (take n us) ds (C ++ N))) o)
  tail_bound N n front rest cs ds None h g = refl
  tail_bound N n front rest cs ds (Some us) h g =
      bound_then N _ _ _ _ (h (take n us)) (λ M. g (list_term (drop n us)) M)

  mutual
    match_bound : (N : Bindings) (m : ℕ) (x : ResolvedPattern) (t : Tree) (cs ds : List ℕ) → Cells m cs ds
        → pattern_from m x ≡ true
        → Bound N (match_pattern x t cs (B ++ N)) (match_pattern x t ds (C ++ N))
    match_bound N m wildcard t cs ds h e = (N, refl, refl, refl)
    match_bound N m (variable x) t cs ds h e = bind_bound N m x t cs ds h e
    match_bound N m (at x a) t cs ds h e =
        bound_then N _ _ _ _ (bind_bound N m x t cs ds h (and-left (nat_le m x) (pattern_from m a) e))
        (λ M. match_bound M m a t cs ds h (and-right (nat_le m x) (pattern_from m a) e))
    match_bound N m (number z) t cs ds h e =
        bound_if N (is_integer z t) (Some (B ++ N)) (Some (C ++ N)) (N, refl, refl, refl)
    match_bound N m (compound k ps) t cs ds h e =
        bound_if N (is_headed k t) _ _ (all_bound N m ps (children t) cs ds h e)
    match_bound N m (with_tail ps a) t cs ds h e =
        tail_bound N (length (resolved_pattern_list ps)) (λ us E D. match_patterns ps us E D)
        (λ us E D. match_pattern a us E D) cs ds (elements t)
        (λ us. all_bound N m ps us cs ds h (and-left (patterns_from m ps) (pattern_from m a) e))
        (λ u M. match_bound M m a u cs ds h (and-right (patterns_from m ps) (pattern_from m a) e))
    match_bound N m (annotated a ps) t cs ds h e =
        bound_then N _ _ _ _ (match_bound N m a (bare t) cs ds h (and-left (pattern_from m a) (patterns_from m ps) e))
        (λ M. all_bound M m ps (annotations t) cs ds h (and-right (pattern_from m a) (patterns_from m ps) e))

    all_bound : (N : Bindings) (m : ℕ) (ps : ResolvedPatterns) (ts : List Tree) (cs ds : List ℕ) → Cells m cs ds
        → patterns_from m ps ≡ true
        → Bound N (match_patterns ps ts cs (B ++ N)) (match_patterns ps ts ds (C ++ N))
    all_bound N m no_resolved_patterns [] cs ds h e = (N, refl, refl, refl)
    all_bound N m no_resolved_patterns (t ∷ ts) cs ds h e = refl
    all_bound N m (and_resolved_pattern a ps) [] cs ds h e = refl
    all_bound N m (and_resolved_pattern a ps) (t ∷ ts) cs ds h e =
        bound_then N _ _ _ _ (match_bound N m a t cs ds h (and-left (pattern_from m a) (patterns_from m ps) e))
        (λ M. all_bound M m ps ts cs ds h (and-right (pattern_from m a) (patterns_from m ps) e))

  -- what is built is the same
  value_found : (N : Bindings) (o r : Option ℕ) → Found (length B) (length C) o r
      → option_and_then (λ i. option_and_then (λ x. x) (slice_get (C ++ N) i)) r
      ≡ option_and_then (λ i. option_and_then (λ x. x) (slice_get (B ++ N) i)) o
  value_found N o r (inl h) = rw (h.1, h.2, get_after B N h.0, get_after C N h.0) refl
  value_found N o r (inr h) = rw (h.0, h.1) refl

  mutual
    build_same : (N : Bindings) (m : ℕ) (x : ResolvedPattern) (cs ds : List ℕ) → Cells m cs ds
        → pattern_from m x ≡ true → build_pattern x ds (C ++ N) ≡ build_pattern x cs (B ++ N)
    build_same N m wildcard cs ds h e = refl
    build_same N m (variable x) cs ds h e =
        value_found N (slice_get cs x) (slice_get ds x) (found (length B) (length C) m x cs ds h (leb-true m x e))
    build_same N m (at x a) cs ds h e = refl
    build_same N m (number z) cs ds h e = refl
    build_same N m (compound k ps) cs ds h e =
        ap (option_map (λ us. branch k (of_list us) none)) (builds_same N m ps cs ds h e)
    build_same N m (with_tail ps a) cs ds h e =
        ap₂ (λ (o : Option (List Tree)) (r : Option Tree).
        option_and_then (λ us. option_map (λ vs. list_term (us ++ vs)) (option_and_then elements r)) o)
        (builds_same N m ps cs ds h (and-left (patterns_from m ps) (pattern_from m a) e))
        (build_same N m a cs ds h (and-right (patterns_from m ps) (pattern_from m a) e))
    build_same N m (annotated a ps) cs ds h e =
        ap₂ (λ (o : Option Tree) (r : Option (List Tree)). option_and_then (λ u. option_map (with_annotations u) r) o)
        (build_same N m a cs ds h (and-left (pattern_from m a) (patterns_from m ps) e))
        (builds_same N m ps cs ds h (and-right (pattern_from m a) (patterns_from m ps) e))

    builds_same : (N : Bindings) (m : ℕ) (ps : ResolvedPatterns) (cs ds : List ℕ) → Cells m cs ds
        → patterns_from m ps ≡ true → build_patterns ps ds (C ++ N) ≡ build_patterns ps cs (B ++ N)
    builds_same N m no_resolved_patterns cs ds h e = refl
    builds_same N m (and_resolved_pattern a ps) cs ds h e =
        ap₂ (λ (o : Option Tree) (r : Option (List Tree)). option_and_then (λ u. option_map (λ us. u ∷ us) r) o)
        (build_same N m a cs ds h (and-left (pattern_from m a) (patterns_from m ps) e))
        (builds_same N m ps cs ds h (and-right (pattern_from m a) (patterns_from m ps) e))

  -- ---- answers

  -- The same answer; that of the second run is open where that of the first is too big.
  abbrev pub Alike : Bindings → Answer → Answer → Type 0
  Alike N (done t D b e) a = (M : Bindings) × (D ≡ B ++ M) × (length M ≡ length N) × (a ≡ done t (C ++ M) b e)
  Alike N (failed b) a = a ≡ failed b
  Alike N (stopped spent) a = a ≡ stopped spent
  Alike N (stopped big) a = Unit {0}

  abbrev pub ActsAlike : Act → Act → Type 0
  ActsAlike f g = (b : ℕ) (N : Bindings) (t : Tree) → Alike N (f b (B ++ N) t) (g b (C ++ N) t)

  alike_as : (N M : Bindings) (a a' : Answer) → length M ≡ length N → Alike M a a' → Alike N a a'
  alike_as N M (done t D b e) a' l h = (h.0, h.1, h.2 ∙ l, h.3)
  alike_as N M (failed b) a' l h = h
  alike_as N M (stopped spent) a' l h = h
  alike_as N M (stopped big) a' l h = h

  either-alike : (N : Bindings) (a a' : Answer)
      (go go' : Tree → Bindings → ℕ → Edits → Answer) (back back' : ℕ → Answer) → Alike N a a'
      → ((t : Tree) (M : Bindings) (b : ℕ) (e : Edits) → Alike M (go t (B ++ M) b e) (go' t (C ++ M) b e))
      → ((b : ℕ) → Alike N (back b) (back' b))
      → Alike N (either a go back) (either a' go' back')
  either-alike N (done t D b e) a' go go' back back' h hgo hback =
      rw (h.1, h.3) (alike_as N h.0 (go t (B ++ h.0) b e) (go' t (C ++ h.0) b e) h.2 (hgo t h.0 b e))
  either-alike N (failed b) a' go go' back back' h hgo hback = rw h (hback b)
  either-alike N (stopped spent) a' go go' back back' h hgo hback = rw h refl
  either-alike N (stopped big) a' go go' back back' h hgo hback = tt

  if_done-alike : (N : Bindings) (a a' : Answer) (go go' : Tree → Bindings → ℕ → Edits → Answer) → Alike N a a'
      → ((t : Tree) (M : Bindings) (b : ℕ) (e : Edits) → Alike M (go t (B ++ M) b e) (go' t (C ++ M) b e))
      → Alike N (if_done a go) (if_done a' go')
  if_done-alike N a a' go go' h hgo = either-alike N a a' go go' failed failed h hgo (λ b. refl)

  edits-alike : (N : Bindings) (e : Edits) (a a' : Answer) → Alike N a a' → Alike N (with_edits e a) (with_edits e a')
  edits-alike N e a a' h = if_done-alike N a a' _ _ h (λ t M b f. (M, refl, refl, refl))

  and_then-alike : (N : Bindings) (a a' : Answer) (f g : Act) → Alike N a a' → ActsAlike f g
      → Alike N (and_then a f) (and_then a' g)
  and_then-alike N a a' f g h k = if_done-alike N a a' _ _ h (λ t M b e. edits-alike M e _ _ (k b M t))

  some-alike : {A : Type 0} (N : Bindings) (o : Option A) (b : ℕ)
      (go go' : A → Answer) → ((x : A) → Alike N (go x) (go' x)) → Alike N (with_some o b go) (with_some o b go')
  some-alike N None b go go' h = refl
  some-alike N (Some x) b go go' h = h x

  one-alike : (f g : Act) (i : ℕ) → ActsAlike f g → ActsAlike (on_child f i) (on_child g i)
  one-alike f g i h b N t =
      some-alike N (slice_get (children t) i) b _ _
      (λ u. if_done-alike N _ _ _ _ (h b N u) (λ v M c e. (M, refl, refl, refl)))

  each-alike : (f g : ResolvedStrategy → Act) (ok : ResolvedStrategy → Type 0) (ss : List ResolvedStrategy) (i : ℕ)
      → ((s : ResolvedStrategy) → ok s → ActsAlike (f s) (g s))
      → AllOk ok ss → ActsAlike (each f ss i) (each g ss i)
  each-alike f g ok [] i h k b N t = (N, refl, refl, refl)
  each-alike f g ok (x ∷ ss) i h k b N t =
      and_then-alike N _ _ _ _ (one-alike (f x) (g x) i (h x k.0) b N t)
      (λ c M u. each-alike f g ok ss (i + 1) h k.1 c M u)

  leftmost-alike : (f g : Act) (n i : ℕ) → ActsAlike f g → ActsAlike (leftmost f n i) (leftmost g n i)
  leftmost-alike f g zero i h b N t = refl
  leftmost-alike f g (suc n) i h b N t =
      either-alike N _ _ _ _ _ _ (one-alike f g i h b N t) (λ u M c e. (M, refl, refl, refl))
      (λ c. leftmost-alike f g n (i + 1) h c N t)

  those-alike : (f g : Act) (n : ℕ) (any : Bool) (i : ℕ) → ActsAlike f g
      → ActsAlike (those_done f n any i) (those_done g n any i)
  those-alike f g zero true i h b N t = (N, refl, refl, refl)
  those-alike f g zero false i h b N t = refl
  those-alike f g (suc n) any i h b N t =
      either-alike N _ _ _ _ _ _ (one-alike f g i h b N t)
      (λ u M c e. edits-alike M e _ _ (those-alike f g n true (i + 1) h c M u))
      (λ c. those-alike f g n any (i + 1) h c N t)

  number-alike : (f g : Act) (n : ℕ) → ActsAlike f g → ActsAlike (on_child_number f n) (on_child_number g n)
  number-alike f g zero h b N t = refl
  number-alike f g (suc i) h b N t = one-alike f g i h b N t

  rest-alike : (f g : Act) (n : ℕ) → ActsAlike f g → ActsAlike (on_rest f n) (on_rest g n)
  rest-alike f g n h b N t =
      if_done-alike N _ _ _ _ (h b N (rest_of n t))
      (λ u M c e. some-alike M (elements u) c _ _ (λ us. (M, refl, refl, refl)))

  if-alike : (N : Bindings) (v : Bool) (a a' : Answer) (b : ℕ) → Alike N a a'
      → Alike N (cond v a (failed b)) (cond v a' (failed b))
  if-alike N true a a' b h = h
  if-alike N false a a' b h = refl

  match-alike : (N : Bindings) (o r : Option Bindings) (b : ℕ) (t : Tree) → Bound N o r
      → Alike N (with_some o b (λ D. done t D b [])) (with_some r b (λ D. done t D b []))
  match-alike N None r b t h = rw h refl
  match-alike N (Some D) r b t h =
      (h.0, h.1, h.2, ap (λ (o : Option Bindings). with_some o b (λ D1. done t D1 b [])) h.3)

  -- new cells, which go again
  cut-alike : (N new : Bindings) (a a' : Answer) → Alike (N ++ new) a a'
      → Alike N (cut (length (B ++ N)) a) (cut (length (C ++ N)) a')
  cut-alike N new (done t D b e) a' h =
      let M = h.0 in
      let enough : length N ≤ length M = omega (arith, h.2, length-append N new) in (
        take (length N) M,
        ap (take (length (B ++ N))) h.1 ∙ take_after B N M,
        length-take-le (length N) M enough,
        ap (cut (length (C ++ N))) h.3 ∙ ap (λ (D1 : Bindings). done t D1 b e) (take_after C N M),
      )
  cut-alike N new (failed b) a' h = ap (cut (length (C ++ N))) h
  cut-alike N new (stopped spent) a' h = ap (cut (length (C ++ N))) h
  cut-alike N new (stopped big) a' h = tt

  -- ---- with rooms and levels, where what fits in the first fits in the second

  module _ (room more : ℕ) (Level : ℕ → ℕ → Type 0) (up : (k l : ℕ) → Level k l → Level (k + 1) (l + 1))
      (fit : (k l : ℕ) (u : Tree) → Level k l → fits room k u ≡ true → fits more l u ≡ true) where
    abbrev pub PartsAlike : Evaluation → Evaluation → Type 0
    PartsAlike part other = (E F : Scope) (m k l : ℕ) (s : ResolvedStrategy) → Level k l → strategy_from m s ≡ true
        → ScopesMatch (length B) (length C) m E F → ActsAlike (part E k s) (other F l s)

    built-alike : (N : Bindings) (o r : Option Tree) (k l b : ℕ) (go go' : Tree → Answer) → Level k l
        → r ≡ o → ((u : Tree) → Alike N (go u) (go' u))
        → Alike N (built room o k b go) (built more r l b go')
    built-alike N None r k l b go go' low e h = rw e refl
    built-alike N (Some u) r k l b go go' low e h = rw e (by (fits room k u) refl)
      where
        by : (v : Bool)
            → fits room k u ≡ v → Alike N (cond v (go u) (stopped big)) (cond (fits more l u) (go' u) (stopped big))
        by true is = rw (fit k l u low is) (h u)
        by false is = tt

    built_all-alike : (N : Bindings) (m : ℕ) (ps : ResolvedPatterns) (cs ds : List ℕ) (k l b : ℕ)
        (go go' : List Tree → Answer) → Level k l → Cells m cs ds → patterns_from m ps ≡ true
        → ((us : List Tree) → Alike N (go us) (go' us))
        → Alike N (built_all room ps cs (B ++ N) k b go) (built_all more ps ds (C ++ N) l b go')
    built_all-alike N m no_resolved_patterns cs ds k l b go go' low h e f = f []
    built_all-alike N m (and_resolved_pattern a ps) cs ds k l b go go' low h e f =
        built-alike N _ _ k l b _ _ low (build_same N m a cs ds h (and-left (pattern_from m a) (patterns_from m ps) e))
        (λ u. built_all-alike N m ps cs ds k l b _ _ low h (and-right (pattern_from m a) (patterns_from m ps) e)
        (λ us. f (u ∷ us)))

    opened-alike : (part other : Evaluation) (E F : Scope) (m k l : ℕ) (new : Bindings) (s : ResolvedStrategy)
        (N : Bindings) (b : ℕ) (t : Tree) → PartsAlike part other → Level k l
        → strategy_from m s ≡ true → ScopesMatch (length B) (length C) m E F
        → Alike N (opened part E new k s b (B ++ N) t) (opened other F new l s b (C ++ N) t)
    opened-alike part other E F m k l new s N b t h low e g =
        rw (append_assoc B N new, append_assoc C N new) (cut-alike N new (part E k s b (B ++ (N ++ new)) t)
        (other F l s b (C ++ (N ++ new)) t) (h E F m k l s low e g b (N ++ new) t))

    form-alike : (W : World) (part other : Evaluation) → PartsAlike part other
        → PartsAlike (form (in_room room W) part) (form (in_room more W) other)
    form-alike W part other h E F m k l id low e g b N t = (N, refl, refl, refl)
    form-alike W part other h E F m k l fail low e g b N t = refl
    form-alike W part other h (inside cs ns) (inside ds ms) m k l (matches a) low e g b N t =
        match-alike N _ _ b t (match_bound N m a t cs ds g.0 e)
    form-alike W part other h (inside cs ns) (inside ds ms) m k l (builds a) low e g b N t =
        built-alike N _ _ k l b _ _ low (build_same N m a cs ds g.0 e) (λ u. (N, refl, refl, refl))
    form-alike W part other h E F m k l (seq s1 s2) low e g b N t =
        let one = and-left (strategy_from m s1) (strategy_from m s2) e in
        let two = and-right (strategy_from m s1) (strategy_from m s2) e in
        and_then-alike N _ _ _ _ (h E F m k l s1 low one g b N t) (h E F m k l s2 low two g)
    form-alike W part other h E F m k l (guard s1 s2 s3) low e g b N t =
        let rest = and-right (strategy_from m s1) (strategy_from m s2 && strategy_from m s3) e in
        either-alike N _ _ _ _ _ _
        (h E F m k l s1 low (and-left (strategy_from m s1) (strategy_from m s2 && strategy_from m s3) e) g b N t)
        (λ u M c f.
        edits-alike M f _ _ (h E F m k l s2 low (and-left (strategy_from m s2) (strategy_from m s3) rest) g c M u))
        (λ c. h E F m k l s3 low (and-right (strategy_from m s2) (strategy_from m s3) rest) g c N t)
    form-alike W part other h E F m k l (test s1) low e g b N t =
        if_done-alike N _ _ _ _ (h E F m k l s1 low e g b N t) (λ u M c f. (M, refl, refl, refl))
    form-alike W part other h E F m k l (scope n s1) low e g b N t =
        opened-alike part other (with_variables E (length (B ++ N)) n) (with_variables F (length (C ++ N)) n) m k l
        (replicate n None) s1 N b t h low e
        (with_more (length B) (length C) m n (length N) (length (B ++ N)) (length (C ++ N)) E F (length-append B N)
        (length-append C N) g)
    form-alike W part other h E F m k l (param x) low e g b N t =
        by (stands_for E x) (stands_for F x) (stands (length B) (length C) m x E F g)
      where
        by : (o r : Option Closure) → SameName (length B) (length C) o r
            → Alike N (with_some o b (λ z. part z.written_in k z.strategy b (B ++ N) t))
            (with_some r b (λ z. other z.written_in l z.strategy b (C ++ N) t))
        by None r f = rw f refl
        by (Some z) r f =
            rw (f.1) (subst (λ (s : ResolvedStrategy).
            Alike N (part z.written_in k z.strategy b (B ++ N) t) (other f.0.written_in l s b (C ++ N) t)) f.2
            (h z.written_in f.0.written_in f.3.0 k l z.strategy low f.3.1 f.3.2 b N t))
    form-alike W part other h (inside cs ns) (inside ds ms) m k l (call f ss ps) low e g b N t =
        built_all-alike N m ps cs ds k l b _ _ low g.0 (and-right (strategies_from m ss) (patterns_from m ps) e)
        (λ us. some-alike N (slice_get W.bodies f) b _ _
        (λ d. opened-alike part other _ _ zero k l (map Some us ++ replicate d.variables None) d.strategy N b t h low
        (strategy_all d.strategy) (
          new_cells (length B) (length C) (length us + d.variables) (length N)
              (length (B ++ N)) (length (C ++ N)) (length-append B N) (length-append C N),
          all_arguments (length B) (length C) m ss (inside cs ns) (inside ds ms) g
              (and-left (strategies_from m ss) (patterns_from m ps) e),
        )))
    form-alike W part other h E F m k l (congruence a ss) low e g b N t =
        if-alike N (is_over a (length (resolved_list ss)) t) _ _ b
        (each-alike _ _ (λ s. strategy_from m s ≡ true) (resolved_list ss) 0
        (λ s ok. h E F m (k + 1) (l + 1) s (up k l low) ok g) (all_from m ss e) b N t)
    form-alike W part other h E F m k l (tail_congruence ss s1) low e g b N t =
        if-alike N (is_list_from (length (resolved_list ss)) (elements t)) _ _ b
        (and_then-alike N _ _ _ _
        (each-alike _ _ (λ s. strategy_from m s ≡ true) (resolved_list ss) 0
        (λ s ok. h E F m (k + 1) (l + 1) s (up k l low) ok g)
        (all_from m ss (and-left (strategies_from m ss) (strategy_from m s1) e)) b N t)
        (rest-alike (part E k s1) (other F l s1) (length (resolved_list ss))
        (h E F m k l s1 low (and-right (strategies_from m ss) (strategy_from m s1) e) g)))
    form-alike W part other h E F m k l (all s1) low e g b N t =
        each-alike _ _ (λ s. strategy_from m s ≡ true) (replicate (length (children t)) s1) 0
        (λ s ok. h E F m (k + 1) (l + 1) s (up k l low) ok g)
        (all_copies m (length (children t)) s1 e) b N t
    form-alike W part other h E F m k l (one s1) low e g b N t =
        leftmost-alike _ _ (length (children t)) 0 (h E F m (k + 1) (l + 1) s1 (up k l low) e g) b N t
    form-alike W part other h E F m k l (some s1) low e g b N t =
        those-alike _ _ (length (children t)) false 0 (h E F m (k + 1) (l + 1) s1 (up k l low) e g) b N t
    form-alike W part other h E F m k l (child n s1) low e g b N t =
        number-alike _ _ n (h E F m (k + 1) (l + 1) s1 (up k l low) e g) b N t
    form-alike W part other h E F m k l (rec s1) low e g b N t =
        h (with_name E (rec s1) E) (with_name F (rec s1) F) m k l s1 low e
        (with_one (length B) (length C) m (rec s1) E F E F g e g) b N t
    form-alike W part other h (inside cs ns) (inside ds ms) m k l (prim n ps) low e g b N t =
        built_all-alike N m ps cs ds k l b _ _ low g.0 e
        (λ us. built-alike N _ _ k l b _ _ low refl (λ u. (N, refl, refl, refl)))

    pub bounded-alike : (W : World) (n : ℕ)
        → PartsAlike (run_bounded (in_room room W) n) (run_bounded (in_room more W) n)
    bounded-alike W zero E F m k l s low e g b N t = refl
    bounded-alike W (suc n) E F m k l s low e g zero N t = refl
    bounded-alike W (suc n) E F m k l s low e g (suc b) N t =
        form-alike W (run_bounded (in_room room W) n) (run_bounded (in_room more W) n) (bounded-alike W n) E F m k l s
        low e g b N t

-- ---- the law

nothing_new : (M : Bindings) → length M ≡ zero → M ≡ []
nothing_new [] e = refl
nothing_new (x ∷ M) e = absurd (omega (arith, e))

alike_tells : (B C : Bindings) (a a' : Answer) → Alike B C [] a a' → Tells B C a a'
alike_tells B C (done t D b e) a' h =
    let none = nothing_new h.0 h.2 in (
      h.1 ∙ ap (λ M. B ++ M) none ∙ append-nil B,
      h.3 ∙ ap (λ (M : Bindings). done t (C ++ M) b e) none ∙ ap (λ (D1 : Bindings). done t D1 b e) (append-nil C),
    )
alike_tells B C (failed b) a' h = h
alike_tells B C (stopped spent) a' h = h
alike_tells B C (stopped big) a' h = tt

fits_higher : (room k l : ℕ) (u : Tree) → l ≤ k → fits room k u ≡ true → fits room l u ≡ true
fits_higher room k l u h is = grind (arith, nat_tests)

fits_nowhere : (k : ℕ) (u : Tree) → fits zero k u ≡ true → ⊥
fits_nowhere k u is = grind (arith, nat_tests, size_pos u)

pub closed_runs_are_the_same : ClosedRunsAreTheSame
closed_runs_are_the_same W E F m k l s b B C t e g = (
  λ le. tells W.room W.room (λ x y. y ≤ x) (λ x y h. omega (arith, h)) (λ x y u h is. fits_higher W.room x y u h is) le,
  tells zero W.room (λ x y. Unit {0}) (λ x y h. tt) (λ x y u h is. absurd (fits_nowhere x u is)) tt,
)
  where
    tells : (room more : ℕ) (Level : ℕ → ℕ → Type 0) (up : (x y : ℕ) → Level x y → Level (x + 1) (y + 1))
        → ((x y : ℕ) (u : Tree) → Level x y → fits room x u ≡ true → fits more y u ≡ true) → Level k l
        → Tells B C (run (in_room room W) E k s b B t) (run (in_room more W) F l s b C t)
    tells room more Level up fit low =
        alike_tells B C _ _
        (subst (λ (D : Bindings). Alike B C [] (run (in_room room W) E k s b D t) (run (in_room more W) F l s b C t))
        (append-nil B)
        (subst (λ (D : Bindings).
        Alike B C [] (run (in_room room W) E k s b (B ++ []) t) (run (in_room more W) F l s b D t)) (append-nil C)
        (bounded-alike B C room more Level up fit W b E F m k l s low e g b [] t)))
