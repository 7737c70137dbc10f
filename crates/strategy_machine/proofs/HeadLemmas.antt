-- Failures that the root of a term shows, form by form.
use Rattle.std.proofs.Common.{◌≡◌, ℕ, ◌+◌, List, [], ◌∷◌, ◌++◌, length, map, replicate, refl, sym, ap, ◌∙◌, subst, arith, Some, None, false, Bor, slice_get, cond, true}
use Rattle.std.specs.declared.option.Option.{Option}
use Rattle.term_core.specs.Tree.{Head, Tree, children}
use Rattle.term_changes.specs.Standing.{Standing, standing_tree}
use Rattle.strategy_syntax.specs.Resolved.{ResolvedPattern, compound, no_resolved_patterns, ResolvedStrategy, fail, matches, seq, guard, test, scope, param, call, congruence, tail_congruence, ResolvedStrategies, resolved_list, resolveds_of, resolved_patterns_of}
use Rattle.strategy_syntax.proofs.ResolvedLemmas.{resolved_list-resolveds_of}
use Rattle.strategy_syntax.specs.declared.resolved.Resolved.{Resolved}
use Rattle.strategy_meaning.specs.Scopes.{Scope, inside, Closure, cells_in, stands_for, with_variables, arguments, numbers_from}
use Rattle.strategy_meaning.specs.Matching.{Bindings, elements, is_headed, match_pattern, match_patterns}
use Rattle.strategy_meaning.specs.Answer.{Answer, failed, either, if_done, with_edits, and_then, done}
use Rattle.strategy_meaning.specs.Meaning.{World, run, form, with_some, cut, is_over, is_list_from, enter}
use Rattle.strategy_machine.specs.Table.{scope_at, closure_of}
use Rattle.strategy_machine.specs.declared.scopes.Closure.{Closure as TableClosure}
use Rattle.strategy_machine.specs.inside.Missing.{Misses, HasNames, FailsAhead, Passes}
use Rattle.strategy_machine.specs.Turns.{State, HoldsIn}
use Rattle.strategy_machine.specs.inside.Taking.{FormIn}
use Rattle.strategy_machine.specs.Hands.{Begin}
use Rattle.strategy_machine.proofs.OpenLemmas.{opens_along}
use Rattle.strategy_machine.proofs.TakeLemmas.{run_step, paid}

-- ---- forms

module _ (ds : List Resolved) (known : List Scope) (n : Option ℕ) (t : Tree) where
  ahead : (s : ResolvedStrategy) (b c d : ℕ) → b ≡ c + 1
      → ((W : World) → W.bodies ≡ ds → (E : Scope) → HasNames known n E → (l : ℕ) (B : Bindings)
      → form W (run W) E l s c B t ≡ failed d)
      → FailsAhead ds known n s b t d
  ahead s b c d e f = record { fails = λ W i E k l B. run_step W E l s b c B t e ∙ f W i E k l B }

  pub fails_fail : (b c : ℕ) → b ≡ c + 1 → FailsAhead ds known n fail b t c
  fails_fail b c e = ahead fail b c c e (λ W i E k l B. refl)

  pub fails_match : (p : ResolvedPattern) (b c : ℕ) → b ≡ c + 1 → Misses p t → FailsAhead ds known n (matches p) b t c
  fails_match p b c e m = ahead (matches p) b c c e
      (λ W i E k l B. ap (λ (o : Option Bindings). with_some o c (λ B1. done t B1 c [])) (m.never (cells_in E) B))

  pub fails_seq : (s1 s2 : ResolvedStrategy) (b c d : ℕ) → b ≡ c + 1 → FailsAhead ds known n s1 c t d
      → FailsAhead ds known n (seq s1 s2) b t d
  fails_seq s1 s2 b c d e h =
      ahead (seq s1 s2) b c d e (λ W i E k l B. ap (λ (a : Answer). and_then a (run W E l s2)) (h.fails W i E k l B))

  pub fails_guard : (s1 s2 s3 : ResolvedStrategy) (b c d f : ℕ) → b ≡ c + 1 → FailsAhead ds known n s1 c t d
      → FailsAhead ds known n s3 d t f
      → FailsAhead ds known n (guard s1 s2 s3) b t f
  fails_guard s1 s2 s3 b c d f e h g = ahead (guard s1 s2 s3) b c f e (λ W i E k l B.
      ap (λ (a : Answer). either a (λ t1 B1 x y. with_edits y (run W E l s2 x B1 t1)) (λ x. run W E l s3 x B t))
      (h.fails W i E k l B) ∙ g.fails W i E k l B)

  pub fails_test : (s : ResolvedStrategy) (b c d : ℕ) → b ≡ c + 1 → FailsAhead ds known n s c t d
      → FailsAhead ds known n (test s) b t d
  fails_test s b c d e h = ahead (test s) b c d e
      (λ W i E k l B. ap (λ (a : Answer). if_done a (λ t1 B1 x y. done t B1 x [])) (h.fails W i E k l B))

  pub fails_over : (h : Head) (ss : ResolvedStrategies) (b c : ℕ)
      → b ≡ c + 1 → is_over h (length (resolved_list ss)) t ≡ false
      → FailsAhead ds known n (congruence h ss) b t c
  fails_over h ss b c e f = ahead (congruence h ss) b c c e (λ W i E k l B. rw f refl)

  pub fails_tail : (ss : ResolvedStrategies) (s : ResolvedStrategy) (b c : ℕ)
      → b ≡ c + 1 → is_list_from (length (resolved_list ss)) (elements t) ≡ false
      → FailsAhead ds known n (tail_congruence ss s) b t c
  fails_tail ss s b c e f = ahead (tail_congruence ss s) b c c e (λ W i E k l B. rw f refl)

  names_inside : (n : Option ℕ) (E : Scope) (first count : ℕ) → HasNames known n E
      → HasNames known n (with_variables E first count)
  names_inside None E first count h = tt
  names_inside (Some m) (inside cells names) first count h = h

  pub fails_scope : (x : ℕ) (s : ResolvedStrategy) (b c d : ℕ) → b ≡ c + 1 → FailsAhead ds known n s c t d
      → FailsAhead ds known n (scope x s) b t d
  fails_scope x s b c d e h = ahead (scope x s) b c d e (λ W i E k l B.
      ap (cut (length B))
      (h.fails W i (with_variables E (length B) x) (names_inside n E (length B) x k) l (B ++ replicate x None)))

  pub fails_call : (f : ℕ) (ss : ResolvedStrategies) (r : Resolved) (b c d : ℕ) → b ≡ c + 1 → slice_get ds f ≡ Some r
      → FailsAhead ds known None r.strategy c t d
      → FailsAhead ds known n (call f ss no_resolved_patterns) b t d
  fails_call f ss r b c d e is h = ahead (call f ss no_resolved_patterns) b c d e (λ W i E k l B.
      ap (λ (o : Option Resolved). with_some o c (λ x. enter (run W) ss E [] x l c B t))
      (ap (λ (xs : List Resolved). slice_get xs f) i ∙ is)
      ∙ ap (cut (length B)) (h.fails W i (inside (numbers_from (length B) (length us + r.variables)) (arguments E ss))
      tt l (B ++ (map Some us ++ replicate r.variables None))))
    where
      us : List Tree
      us = []

pub fails_param : (ds : List Resolved) (known : List Scope) (n x : ℕ) (t : Tree) (k : TableClosure) (b c d : ℕ)
    → b ≡ c + 1
    → stands_for (scope_at known n) x ≡ Some (closure_of known k)
    → FailsAhead ds known (Some k.written_in) k.strategy.now c t d → FailsAhead ds known (Some n) (param x) b t d
fails_param ds known n x t k b c d e is h = ahead ds known (Some n) t (param x) b c d e (λ W i E names l B.
    ap (λ (o : Option Closure). with_some o c (λ z. run W z.written_in l z.strategy c B t)) (names x ∙ is)
    ∙ h.fails W i (scope_at known k.written_in) (λ y. refl) l B)

pub rule_fails : (ds : List Resolved) (known : List Scope) (n : Option ℕ) (t : Tree) (x : ℕ) (p : ResolvedPattern)
    (then : ResolvedStrategy) (b c : ℕ) → b ≡ c + 3 → Misses p t
    → FailsAhead ds known n (scope x (seq (matches p) then)) b t c
rule_fails ds known n t x p then b c e m =
    fails_scope ds known n t x (seq (matches p) then) b (c + 2) c (omega (arith, e))
    (fails_seq ds known n t (matches p) then (c + 2) (c + 1) c (omega arith)
    (fails_match ds known n t p (c + 1) c (omega arith) m))

-- ---- a choice whose first branch fails ahead

pub take_other : (W : World) (sub : Standing) (whole : Answer) (S : State) (ds : List Resolved)
    (s1 s2 s3 : Bor ResolvedStrategy) (n : ℕ) (p : Standing) (c : ℕ)
    → W.bodies ≡ ds → FailsAhead ds S.scopes (Some n) s1.now S.steps (standing_tree p) c
    → FormIn W sub whole S (guard s1.now s2.now s3.now) n p → HoldsIn W sub whole (paid S c) (Begin s3 n p)
take_other W sub whole S ds s1 s2 s3 n p c i f h = record {
  now = p;
  edits = h.edits;
  shows = h.shows;
  in_hand = (h.there, refl);
  opens = opens_along _ _
      (ap (λ (a : Answer). either a (λ t1 B1 b e. with_edits e (run W (scope_at S.scopes n) S.level s2.now b B1 t1))
      (λ b. run W (scope_at S.scopes n) S.level s3.now b S.cells.bindings (standing_tree p)))
      (f.fails W i (scope_at S.scopes n) (λ x. refl) S.level S.cells.bindings)) h.opens;
}

-- ---- alternatives passed over

pub passes_none : (s : ResolvedStrategy) (b : ℕ) (t : Tree) → Passes s b t s b
passes_none s b t = record { same = λ W E l B. refl }

pub passes_as : (s r q o : ResolvedStrategy) (b c : ℕ) (t : Tree) → s ≡ r → q ≡ o → Passes r b t q c → Passes s b t o c
passes_as s r q o b c t e f h = record {
  same = λ W E l B. ap (λ (x : ResolvedStrategy). run W E l x b B t) e ∙ h.same W E l B
      ∙ ap (λ (x : ResolvedStrategy). run W E l x c B t) f;
}

pub passes_more : (s r q : ResolvedStrategy) (b c d : ℕ) (t : Tree) → Passes s b t r c → Passes r c t q d
    → Passes s b t q d
passes_more s r q b c d t h g = record { same = λ W E l B. h.same W E l B ∙ g.same W E l B }

-- a rule for another root, with the choice around it
pub passes_rule : (s s2 s3 then : ResolvedStrategy) (n : ℕ) (p : ResolvedPattern) (b c : ℕ) (t : Tree)
    → s ≡ scope n (seq (matches p) then) → b ≡ c + 4 → Misses p t
    → Passes (guard s s2 s3) b t s3 c
passes_rule s s2 s3 then n p b c t is e m = record {
  same = λ W E l B.
      run_step W E l (guard s s2 s3) b (c + 3) B t (omega (arith, e))
      ∙ ap (λ (a : Answer). either a (λ t1 B1 x y. with_edits y (run W E l s2 x B1 t1)) (λ x. run W E l s3 x B t))
      (ap (λ (r : ResolvedStrategy). run W E l r (c + 3) B t) is
      ∙ (rule_fails W.bodies [] None t n p then (c + 3) c (omega arith) m).fails W refl E tt l B);
}

pub passed_fails : (ds : List Resolved) (known : List Scope) (n : Option ℕ) (s r : ResolvedStrategy) (b c : ℕ)
    (t : Tree) (d : ℕ) → Passes s b t r c
    → FailsAhead ds known n r c t d → FailsAhead ds known n s b t d
passed_fails ds known n s r b c t d h g = record { fails = λ W i E k l B. h.same W E l B ∙ g.fails W i E k l B }

pub take_passed : (W : World) (sub : Standing) (whole : Answer) (S : State) (s r : Bor ResolvedStrategy) (n : ℕ)
    (p : Standing) (c d : ℕ)
    → Passes s.now c (standing_tree p) r.now d → HoldsIn W sub whole (paid S c) (Begin s n p)
    → HoldsIn W sub whole (paid S d) (Begin r n p)
take_passed W sub whole S s r n p c d h g = record {
  now = g.now;
  edits = g.edits;
  shows = g.shows;
  in_hand = g.in_hand;
  opens = opens_along _ _ (h.same W (scope_at S.scopes n) S.level S.cells.bindings) g.opens;
}

-- ---- on the way inward

pub ahead_is : (ds : List Resolved) (known : List Scope) (n : Option ℕ) (s r : ResolvedStrategy) (b : ℕ) (t : Tree)
    (d : ℕ) → s ≡ r
    → FailsAhead ds known n r b t d → FailsAhead ds known n s b t d
ahead_is ds known n s r b t d e h = subst (λ (x : ResolvedStrategy). FailsAhead ds known n x b t d) (sym e) h

pub not_over_many : (h : Head) (ss : List ResolvedStrategy) (t : Tree)
    → is_over h (length ss) t ≡ false → is_over h (length (resolved_list (resolveds_of ss))) t ≡ false
not_over_many h ss t e = ap (λ (l : List ResolvedStrategy). is_over h (length l) t) (resolved_list-resolveds_of ss) ∙ e

pub not_list_many : (ss : List ResolvedStrategy) (t : Tree) → is_list_from (length ss) (elements t)
    ≡ false → is_list_from (length (resolved_list (resolveds_of ss))) (elements t) ≡ false
not_list_many ss t e =
    ap (λ (l : List ResolvedStrategy). is_list_from (length l) (elements t)) (resolved_list-resolveds_of ss) ∙ e

pub no_patterns : (ps : List ResolvedPattern) → length ps ≡ 0 → resolved_patterns_of ps ≡ no_resolved_patterns
no_patterns [] e = refl
no_patterns (p ∷ ps) e = absurd (omega (arith, e))

-- a head without parts matches a term with this head and no children, and binds nothing
pub whole_leaf : (h : Head) (ps : List ResolvedPattern) (t : Tree)
    → length ps ≡ 0 → is_headed h t ≡ true → children t ≡ [] → (E : List ℕ) (B : Bindings)
    → match_pattern (compound h (resolved_patterns_of ps)) t E B ≡ Some B
whole_leaf h ps t none head leaf E B =
    (λ i. cond (head i) (match_patterns (no_patterns ps none i) (leaf i) E B) None)
