-- What a strategy does, given a number of steps: `form` is the table, with one clause for each
-- form.
--
-- The forms of Visser and Benaissa, "A Core Language for Rewriting", with their meaning there: id,
-- fail, seq, left choice (the guard `s1 < id + s2`), rec, congruences, child, all, one, match,
-- build, where (test) and scope; but `one` takes the leftmost child, where theirs may take any.
-- From the Stratego manual, written out here: guards, some, lists with a tail, calls of definitions
-- with strategies and terms, primitives. Our own: the steps that each form costs, the levels at
-- which built terms have to fit, annotations, and the edits.
--
-- A form is evaluated in a scope E, at a level l (the number of terms above the current one), with
-- c steps left after its own, bindings B and the current term t. Steps that a part used stay used;
-- its bindings stay if it succeeded, and are dropped if it failed. A part that stops makes the
-- whole stop.
use Rattle.std.specs.Prelude.{ℕ, zero, suc, ◌+◌, nat_le, Bool, true, false, cond, ◌==◌, ◌&&◌, List, [], ◌∷◌, ◌++◌, length, take, drop, replicate, map, slice_get, Some, None, option_and_then}
use Rattle.std.specs.declared.option.Option.{Option}
use Rattle.term_core.specs.Tree.{Head, Tree, children, with_children, with_child, list_term}
use Rattle.term_core.specs.Size.{fits}
use Rattle.term_paths.specs.Edits.{prefixed}
use Rattle.prim_core.specs.Signature.{Signature}
use Rattle.strategy_syntax.specs.Resolved.{ResolvedPatterns, no_resolved_patterns, and_resolved_pattern, ResolvedStrategy, id, fail, matches, builds, seq, guard, test, scope, param, call, congruence, tail_congruence, all, one, some, child, rec, prim, ResolvedStrategies, resolved_list}
use Rattle.strategy_syntax.specs.declared.resolved.Resolved.{Resolved}
use Rattle.strategy_meaning.specs.Matching.{Bindings, match_pattern, build_pattern, is_headed, elements}
use Rattle.strategy_meaning.specs.Scopes.{Scope, inside, no_closures, cells_in, stands_for, with_variables, with_name, numbers_from, arguments}
use Rattle.strategy_meaning.specs.Answer.{Answer, done, failed, stopped, spent, big, Act, either, if_done, with_edits, and_then, at_root}

-- What a run rests on: what the numbers of definitions and primitives stand for, which are the
-- bodies of a program and the primitives with the meaning of each name on terms; and the room for a
-- built term.
pub record World : Type 0 where
  pub bodies : List Resolved
  pub primitives : List Signature
  pub meaning : List ℕ → List Tree → Option Tree
  pub room : ℕ  -- the greatest size that fits

-- how a part is evaluated, in a scope and at a level
abbrev pub Evaluation : Type 0
Evaluation = Scope → ℕ → ResolvedStrategy → Act

-- continues with a value, and fails if there is none
abbrev pub with_some : {A : Type 0} → Option A → ℕ → (A → Answer) → Answer
with_some None c go = failed c
with_some (Some x) c go = go x

-- ---- children, counted from 0

-- on child i of the term; its other children, head and annotations stay the same
abbrev pub on_child : Act → ℕ → Act
on_child act i c B t =
    with_some (slice_get (children t) i) c (λ u. if_done (act c B u)
    (λ v B1 b e. done (with_child t i v) B1 b (prefixed (i ∷ []) e)))

-- each strategy on a child of its own, from child i on
abbrev pub each : (ResolvedStrategy → Act) → List ResolvedStrategy → ℕ → Act
each act [] i c B t = done t B c []
each act (s ∷ ss) i c B t =
    and_then (on_child (act s) i c B t) (λ b B1 t1. each act ss (i + 1) b B1 t1)

-- on n children from child i on, until it succeeds on one
abbrev pub leftmost : Act → ℕ → ℕ → Act
leftmost act zero i c B t = failed c
leftmost act (suc n) i c B t =
    either (on_child act i c B t) done (λ b. leftmost act n (i + 1) b B t)

-- on n children from child i on, keeping those on which it fails; `any` says whether it succeeded
-- on an earlier one, and in the end it has to have succeeded on one
abbrev pub those_done : Act → ℕ → Bool → ℕ → Act
those_done act zero any i c B t = cond any (done t B c []) (failed c)
those_done act (suc n) any i c B t =
    either (on_child act i c B t)
    (λ t1 B1 b e. with_edits e (those_done act n true (i + 1) b B1 t1))
    (λ b. those_done act n any (i + 1) b B t)

-- on child n, counted from 1
abbrev pub on_child_number : Act → ℕ → Act
on_child_number act zero c B t = failed c
on_child_number act (suc i) c B t = on_child act i c B t

-- ---- congruences

-- the term has this head and n children
abbrev pub is_over : Head → ℕ → Tree → Bool
is_over h n t = is_headed h t && (length (children t) == n)

-- a list of at least n elements
abbrev pub is_list_from : ℕ → Option (List Tree) → Bool
is_list_from n None = false
is_list_from n (Some us) = nat_le n (length us)

-- the children after the first n, as a list without annotations
abbrev pub rest_of : ℕ → Tree → Tree
rest_of n t = list_term (drop n (children t))

-- the term with other children after the first n
abbrev pub with_rest : ℕ → Tree → List Tree → Tree
with_rest n t us = with_children t (take n (children t) ++ us)

-- on the list of the rest: the result has to be a list, whose elements become the rest
abbrev pub on_rest : Act → ℕ → Act
on_rest act n c B t =
    if_done (act c B (rest_of n t)) (λ u B1 b e. with_some (elements u) b
    (λ us. done (with_rest n t us) B1 b (at_root (with_rest n t us))))

-- ---- what is built

-- continues with a built term, which has to fit in the room
abbrev pub built : ℕ → Option Tree → ℕ → ℕ → (Tree → Answer) → Answer
built room o l c go = with_some o c (λ u. cond (fits room l u) (go u) (stopped big))

-- continues with the term arguments of a call or a primitive, built one by one
abbrev pub built_all : ℕ → ResolvedPatterns → List ℕ → Bindings → ℕ → ℕ → (List Tree → Answer) → Answer
built_all room no_resolved_patterns E B l c go = go []
built_all room (and_resolved_pattern p ps) E B l c go =
    built room (build_pattern p E B) l c (λ u. built_all room ps E B l c (λ us. go (u ∷ us)))

-- the answer of the primitive with this number; nothing if it takes another number of terms
abbrev pub primitive_answer : World → ℕ → List Tree → Option Tree
primitive_answer W n us =
    option_and_then (λ p. cond (length us == p.arity) (W.meaning p.name us) None)
    (slice_get W.primitives n)

-- ---- new cells

-- the bindings cut to this length
abbrev pub cut : ℕ → Answer → Answer
cut n a = if_done a (λ t B b e. done t (take n B) b e)

-- in a scope E, with these new cells after the others; afterwards they are gone
abbrev pub opened : Evaluation → Scope → Bindings → ℕ → ResolvedStrategy → Act
opened part E new l s c B t = cut (length B) (part E l s c (B ++ new) t)

-- The body of a definition, with these strategies, which belong to E, and these terms: the terms
-- get new cells, and so do its free variables, whose cells are empty.
abbrev pub enter : Evaluation → ResolvedStrategies → Scope → List Tree → Resolved → ℕ → Act
enter part ss E us d l c B t =
    opened part (inside (numbers_from (length B) (length us + d.variables)) (arguments E ss))
    (map Some us ++ replicate d.variables None) l d.strategy c B t

-- ---- the table, where `part` evaluates the parts

abbrev pub form : World → Evaluation → Evaluation
form W part E l id c B t = done t B c []
form W part E l fail c B t = failed c
form W part E l (matches p) c B t =
    with_some (match_pattern p t (cells_in E) B) c (λ B1. done t B1 c [])
form W part E l (builds p) c B t =
    built W.room (build_pattern p (cells_in E) B) l c (λ u. done u B c (at_root u))
form W part E l (seq s1 s2) c B t = and_then (part E l s1 c B t) (part E l s2)
form W part E l (guard s1 s2 s3) c B t =
    either (part E l s1 c B t) (λ t1 B1 b e. with_edits e (part E l s2 b B1 t1))
    (λ b. part E l s3 b B t)
form W part E l (test s) c B t = if_done (part E l s c B t) (λ t1 B1 b e. done t B1 b [])
form W part E l (scope n s) c B t =
    opened part (with_variables E (length B) n) (replicate n None) l s c B t
form W part E l (param x) c B t =
    with_some (stands_for E x) c (λ k. part k.written_in l k.strategy c B t)
form W part E l (call f ss ps) c B t =
    built_all W.room ps (cells_in E) B l c
    (λ us. with_some (slice_get W.bodies f) c (λ d. enter part ss E us d l c B t))
form W part E l (congruence h ss) c B t =
    cond (is_over h (length (resolved_list ss)) t)
    (each (part E (l + 1)) (resolved_list ss) 0 c B t) (failed c)
form W part E l (tail_congruence ss s) c B t =
    cond (is_list_from (length (resolved_list ss)) (elements t))
    (and_then (each (part E (l + 1)) (resolved_list ss) 0 c B t)
    (on_rest (part E l s) (length (resolved_list ss)))) (failed c)
form W part E l (all s) c B t =
    each (part E (l + 1)) (replicate (length (children t)) s) 0 c B t
form W part E l (one s) c B t = leftmost (part E (l + 1) s) (length (children t)) 0 c B t
form W part E l (some s) c B t = those_done (part E (l + 1) s) (length (children t)) false 0 c B t
form W part E l (child n s) c B t = on_child_number (part E (l + 1) s) n c B t
form W part E l (rec s) c B t = part (with_name E (rec s) E) l s c B t
form W part E l (prim n ps) c B t =
    built_all W.room ps (cells_in E) B l c
    (λ us. built W.room (primitive_answer W n us) l c (λ u. done u B c (at_root u)))

-- ---- the whole

-- The first number only bounds the recursion: a part has fewer steps than the whole.
abbrev pub run_bounded : World → ℕ → Evaluation
run_bounded W zero E l s b B t = stopped spent
run_bounded W (suc n) E l s zero B t = stopped spent
run_bounded W (suc n) E l s (suc c) B t = form W (run_bounded W n) E l s c B t

-- the answer with b steps
abbrev pub run : World → Evaluation
run W E l s b B t = run_bounded W b E l s b B t

-- a whole strategy, with an empty cell for each of its free variables
abbrev pub run_whole : World → ℕ → Resolved → ℕ → Tree → Answer
run_whole W l r b t =
    run W (inside (numbers_from 0 r.variables) no_closures) l r.strategy b
    (replicate r.variables None) t
