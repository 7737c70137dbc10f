-- Calls of the shape of `try(s)`.
use Rattle.std.proofs.Common.{◌≡◌, ◌≤◌, ℕ, ◌+◌, zero, suc, List, [], ◌∷◌, ◌++◌, length, map, replicate, sym, ap, ◌∙◌, refl, arith, get_or, slice_get, Some, None}
use Rattle.std.proofs.lemmas.List.{append-nil}
use Rattle.term_core.specs.Tree.{Tree}
use Rattle.term_changes.specs.Standing.{Standing, standing_tree}
use Rattle.strategy_syntax.specs.Resolved.{ResolvedPattern, ResolvedPatterns, resolved_patterns_of, ResolvedStrategy, id, guard, param, call, ResolvedStrategies, no_strategies, and_strategy, resolveds_of}
use Rattle.strategy_syntax.specs.declared.resolved.Resolved.{Resolved}
use Rattle.strategy_meaning.specs.Scopes.{Scope, inside, no_closures, and_closure, cells_in, argument, arguments, numbers_from}
use Rattle.strategy_meaning.specs.Matching.{Bindings}
use Rattle.strategy_meaning.specs.Answer.{Answer, stopped, spent, either, with_edits}
use Rattle.strategy_meaning.specs.Meaning.{World, run, form, with_some, built_all, enter, cut}
use Rattle.strategy_machine.specs.Table.{scope_at}
use Rattle.strategy_machine.specs.Turns.{State}
use Rattle.strategy_machine.specs.inside.Taking.{FormIn}
use Rattle.strategy_machine.specs.inside.Tries.{IsTry}
use Rattle.strategy_machine.specs.declared.tries.Try.{Try}
use Rattle.strategy_machine.proofs.OpenLemmas.{opens_along}
use Rattle.strategy_machine.proofs.LengthLemmas.{run_has, cut_none}
use Rattle.strategy_machine.proofs.TakeLemmas.{run_step, some_is, take_stops, paid}

-- the only strategy of a list
pub alone : (ss : List ResolvedStrategy) (s : ResolvedStrategy) → length ss ≡ 1 → s ≡ get_or ss 0 s
    → resolveds_of ss ≡ and_strategy s no_strategies
alone [] s n e = absurd (omega (arith, n))
alone (r ∷ []) s n e = ap (λ (x : ResolvedStrategy). and_strategy x no_strategies) (sym e)
alone (r ∷ q ∷ ss) s n e = absurd (omega (arith, n))

pub only_one : (ss : List ResolvedStrategy) (s t : ResolvedStrategy) → length ss ≡ 1 → s ≡ get_or ss 0 s
    → t ≡ get_or ss 0 t → s ≡ t
only_one [] s t n e f = absurd (omega (arith, n))
only_one (r ∷ ss) s t n e f = e ∙ sym f

-- `id` doesn't use its scope
id_same : (W : World) (E F : Scope) (l b : ℕ) (B : Bindings) (t : Tree) → run W E l id b B t ≡ run W F l id b B t
id_same W E F l zero B t = refl
id_same W E F l (suc b) B t = refl

module _ (W : World) (E : Scope) (l : ℕ) (B : Bindings) (u : Tree) where
  -- the scope of the body
  abbrev body_scope : ResolvedStrategy → Scope
  body_scope s = inside [] (and_closure s E no_closures)

  abbrev body : ResolvedStrategy
  body = guard (param 0) id id

  enters : (d : Resolved) (ss : ResolvedStrategies) (s : ResolvedStrategy) (b : ℕ)
      → d.variables ≡ 0 → d.strategy ≡ body → ss ≡ and_strategy s no_strategies
      → argument E s ≡ record { strategy = s; written_in = E }
      → enter (run W) ss E [] d l b B u ≡ run W (body_scope s) l body b B u
  enters d ss s b v e f a =
      (λ i. after (v i) (e i) (f i))
      ∙ (λ i. cut (length B)
      (run W (inside [] (and_closure (a i).strategy (a i).written_in no_closures)) l body b (append-nil B i) u))
      ∙ cut_none (length B) (run W (body_scope s) l body b B u) (run_has W (body_scope s) l body b B u)
    where
      none : List Tree
      none = []

      after : ℕ → ResolvedStrategy → ResolvedStrategies → Answer
      after n r rs = cut (length B) (run W (inside (numbers_from (length B) (length none + n)) (arguments E rs)) l r b
          (B ++ (map Some none ++ replicate n None)) u)

  tries : (f : ℕ) (ss : List ResolvedStrategy) (ps : List ResolvedPattern) (t : Try) (b : ℕ) → IsTry W.bodies f ss ps t
      → form W (run W) E l (call f (resolveds_of ss) (resolved_patterns_of ps)) b B u
      ≡ run W (body_scope t.first.now) l body b B u
  tries f ss ps t b k =
      ap (λ (qs : ResolvedPatterns). built_all W.room qs (cells_in E) B l b go) k.patterns
      ∙ some_is _ k.body b (λ d. enter (run W) (resolveds_of ss) E [] d l b B u) k.defined
      ∙ enters k.body (resolveds_of ss) t.first.now b k.variables k.is k.strategies (k.itself.argument E)
    where
      go : List Tree → Answer
      go us = with_some (slice_get W.bodies f) b (λ d. enter (run W) (resolveds_of ss) E us d l b B u)

  few : (s : ResolvedStrategy) (b : ℕ) → b ≤ 1 → run W (body_scope s) l body b B u ≡ stopped spent
  few s zero e = refl
  few s (suc zero) e = refl
  few s (suc (suc b)) e = absurd (omega (arith, e))

  chooses : (s s2 s3 : ResolvedStrategy) (b c : ℕ) → b ≡ c + 2 → s2 ≡ id → s3 ≡ id
      → run W (body_scope s) l body b B u ≡ form W (run W) E l (guard s s2 s3) c B u
  chooses s s2 s3 b c e i2 i3 =
      run_step W (body_scope s) l body b (c + 1) B u (omega (arith, e))
      ∙ (λ i. either (run_step W (body_scope s) l (param 0) (c + 1) c B u refl i)
      (λ t1 B1 x d. with_edits d (id_same W (body_scope s) E l x B1 t1 i)) (λ x. id_same W (body_scope s) E l x B u i))
      ∙ (λ i. form W (run W) E l (guard s (sym i2 i) (sym i3 i)) c B u)

pub try_few : (W : World) (sub : Standing) (whole : Answer) (S : State) (f : ℕ) (ss : List ResolvedStrategy)
    (ps : List ResolvedPattern) (t : Try) (n : ℕ) (p : Standing)
    → IsTry W.bodies f ss ps t → S.steps ≤ 1 → FormIn W sub whole S (call f (resolveds_of ss) (resolved_patterns_of ps))
    n p → whole ≡ stopped spent
try_few W sub whole S f ss ps t n p k e h =
    let E = scope_at S.scopes n in
    take_stops W sub whole S (call f (resolveds_of ss) (resolved_patterns_of ps)) n p spent
    (tries W E S.level S.cells.bindings (standing_tree p) f ss ps t S.steps k
    ∙ few W E S.level S.cells.bindings (standing_tree p) t.first.now S.steps e) h

-- the choice starts
pub try_begins : (W : World) (sub : Standing) (whole : Answer) (S : State) (f : ℕ) (ss : List ResolvedStrategy)
    (ps : List ResolvedPattern) (t : Try) (n : ℕ) (p : Standing) (c : ℕ)
    → IsTry W.bodies f ss ps t
    → S.steps ≡ c + 2 → FormIn W sub whole S (call f (resolveds_of ss) (resolved_patterns_of ps)) n p
    → FormIn W sub whole (paid S c) (guard t.first.now t.second.now t.other.now) n p
try_begins W sub whole S f ss ps t n p c k e h =
    let E = scope_at S.scopes n in
    record {
      edits = h.edits;
      shows = h.shows;
      there = h.there;
      opens = opens_along _ _ (tries W E S.level S.cells.bindings (standing_tree p) f ss ps t S.steps k
          ∙ chooses W E S.level S.cells.bindings (standing_tree p) t.first.now t.second.now t.other.now S.steps c e
          k.second k.other) h.opens;
    }
