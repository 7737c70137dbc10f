-- What holds of each success, with its edits, is shown once for all forms.
use Rattle.std.proofs.Common.{◌≡◌, ℕ, ◌+◌, zero, suc, List, [], ◌∷◌, ◌++◌, length, map, replicate, Bool, true, false, cond, refl, slice_get, Some, None}
use Rattle.std.specs.declared.option.Option.{Option}
use Rattle.term_core.specs.Tree.{Tree, children, with_child}
use Rattle.term_core.specs.Size.{fits}
use Rattle.term_paths.specs.Edits.{Edits, prefixed}
use Rattle.strategy_syntax.specs.Resolved.{ResolvedPatterns, no_resolved_patterns, and_resolved_pattern, ResolvedStrategy, id, fail, matches, builds, seq, guard, test, scope, param, call, congruence, tail_congruence, all, one, some, child, rec, prim, resolved_list}
use Rattle.strategy_meaning.specs.Matching.{Bindings, match_pattern, build_pattern, elements}
use Rattle.strategy_meaning.specs.Scopes.{Scope, cells_in, stands_for, with_variables, with_name}
use Rattle.strategy_meaning.specs.Answer.{Answer, done, failed, stopped, big, IfDone, Act, either, with_edits, and_then, at_root}
use Rattle.strategy_meaning.specs.Meaning.{World, primitive_answer, Evaluation, with_some, on_child, each, leftmost, those_done, on_child_number, is_over, is_list_from, rest_of, with_rest, on_rest, built, built_all, opened, form, run_bounded}

-- A relation between a term, the result and its edits at a level, which every way to a success
-- preserves: the term is unchanged, one success follows another, a term is built, a child is
-- replaced, or the elements after the first n are.
pub record Composes (K : ℕ → Tree → Tree → Edits → Type 0) : Type 0 where
  pub left : (l : ℕ) (t : Tree) → K l t t []
  pub after : (l : ℕ) (t u v : Tree) (e f : Edits) → K l t u e → K l u v f → K l t v (e ++ f)
  pub built : (room l : ℕ) (t u : Tree) → fits room l u ≡ true → K l t u (at_root u)
  pub below : (l : ℕ) (t u v : Tree) (i : ℕ) (e : Edits) → slice_get (children t) i ≡ Some u
      → K (l + 1) u v e → K l t (with_child t i v) (prefixed (i ∷ []) e)
  pub rest : (l : ℕ) (t u : Tree) (n : ℕ) (us : List Tree) (e : Edits) → K l (rest_of n t) u e
      → elements u ≡ Some us → K l t (with_rest n t us) (at_root (with_rest n t us))

pub if_done-map : (a : Answer) (P Q : Tree → Bindings → ℕ → Edits → Type 0)
    → ((u : Tree) (B : Bindings) (b : ℕ) (e : Edits) → P u B b e → Q u B b e) → IfDone a P → IfDone a Q
if_done-map (done u B b e) P Q h p = h u B b e p
if_done-map (failed b) P Q h p = tt
if_done-map (stopped why) P Q h p = tt

module _ (K : ℕ → Tree → Tree → Edits → Type 0) (k : Composes K) where
  abbrev pub Gives : ℕ → Tree → Answer → Type 0
  Gives l t a = IfDone a (λ u B b e. K l t u e)

  abbrev ActGives : ℕ → Act → Type 0
  ActGives l f = (c : ℕ) (B : Bindings) (t : Tree) → Gives l t (f c B t)

  abbrev pub PartGives : Evaluation → Type 0
  PartGives part = (E : Scope) (l : ℕ) (s : ResolvedStrategy) → ActGives l (part E l s)

  either-gives : (P : Tree → Edits → Type 0) (l : ℕ) (t : Tree) (a : Answer)
      (go : Tree → Bindings → ℕ → Edits → Answer) (back : ℕ → Answer)
      → IfDone a (λ u B b e. P u e)
      → ((u : Tree) (B : Bindings) (b : ℕ) (e : Edits) → P u e → Gives l t (go u B b e))
      → ((b : ℕ) → Gives l t (back b)) → Gives l t (either a go back)
  either-gives P l t (done u B b e) go back h hgo hback = hgo u B b e h
  either-gives P l t (failed b) go back h hgo hback = hback b
  either-gives P l t (stopped why) go back h hgo hback = tt

  edits-give : (l : ℕ) (t u : Tree) (e : Edits) (a : Answer) → K l t u e → Gives l u a → Gives l t (with_edits e a)
  edits-give l t u e (done v B b f) h g = k.after l t u v e f h g
  edits-give l t u e (failed b) h g = tt
  edits-give l t u e (stopped why) h g = tt

  and_then-gives : (l : ℕ) (t : Tree) (a : Answer) (f : Act) → Gives l t a → ActGives l f → Gives l t (and_then a f)
  and_then-gives l t a f h g =
      either-gives (K l t) l t a _ _ h (λ u B b e r. edits-give l t u e (f b B u) r (g b B u)) (λ b. tt)

  some-gives : {A : Type 0} (l : ℕ) (t : Tree) (o : Option A) (c : ℕ)
      (go : A → Answer) → ((x : A) → o ≡ Some x → Gives l t (go x)) → Gives l t (with_some o c go)
  some-gives l t None c go h = tt
  some-gives l t (Some x) c go h = h x refl

  one-gives : (f : Act) (i l : ℕ) → ActGives (l + 1) f → ActGives l (on_child f i)
  one-gives f i l h c B t =
      some-gives l t (slice_get (children t) i) c _
      (λ u is.
      either-gives (K (l + 1) u) l t (f c B u) _ _ (h c B u) (λ v B1 b e r. k.below l t u v i e is r) (λ b. tt))

  each-gives : (f : ResolvedStrategy → Act) (ss : List ResolvedStrategy) (i l : ℕ)
      → ((s : ResolvedStrategy) → ActGives (l + 1) (f s)) → ActGives l (each f ss i)
  each-gives f [] i l h c B t = k.left l t
  each-gives f (x ∷ ss) i l h c B t =
      and_then-gives l t (on_child (f x) i c B t) _ (one-gives (f x) i l (h x) c B t) (each-gives f ss (i + 1) l h)

  leftmost-gives : (f : Act) (n i l : ℕ) → ActGives (l + 1) f → ActGives l (leftmost f n i)
  leftmost-gives f zero i l h c B t = tt
  leftmost-gives f (suc n) i l h c B t =
      either-gives (K l t) l t (on_child f i c B t) _ _ (one-gives f i l h c B t) (λ u B1 b e r. r)
      (λ b. leftmost-gives f n (i + 1) l h b B t)

  those-give : (f : Act) (n : ℕ) (any : Bool) (i l : ℕ) → ActGives (l + 1) f → ActGives l (those_done f n any i)
  those-give f zero true i l h c B t = k.left l t
  those-give f zero false i l h c B t = tt
  those-give f (suc n) any i l h c B t =
      either-gives (K l t) l t (on_child f i c B t) _ _ (one-gives f i l h c B t)
      (λ u B1 b e r. edits-give l t u e _ r (those-give f n true (i + 1) l h b B1 u))
      (λ b. those-give f n any (i + 1) l h b B t)

  number-gives : (f : Act) (n l : ℕ) → ActGives (l + 1) f → ActGives l (on_child_number f n)
  number-gives f zero l h c B t = tt
  number-gives f (suc i) l h c B t = one-gives f i l h c B t

  rest-gives : (f : Act) (n l : ℕ) → ActGives l f → ActGives l (on_rest f n)
  rest-gives f n l h c B t =
      either-gives (K l (rest_of n t)) l t (f c B (rest_of n t)) _ _ (h c B (rest_of n t))
      (λ u B1 b e r. some-gives l t (elements u) b _ (λ us is. k.rest l t u n us e r is)) (λ b. tt)

  if-gives : (l : ℕ) (t : Tree) (v : Bool) (a : Answer) (b : ℕ) → Gives l t a → Gives l t (cond v a (failed b))
  if-gives l t true a b h = h
  if-gives l t false a b h = tt

  built-gives : (room l : ℕ) (t : Tree) (o : Option Tree) (c : ℕ)
      (go : Tree → Answer) → ((u : Tree) → fits room l u ≡ true → Gives l t (go u)) → Gives l t (built room o l c go)
  built-gives room l t o c go h = some-gives l t o c _ (λ u is. by u (fits room l u) (h u)) where
    by : (u : Tree) (v : Bool) → (v ≡ true → Gives l t (go u)) → Gives l t (cond v (go u) (stopped big))
    by u true g = g refl
    by u false g = tt

  built_all-gives : (room l : ℕ) (t : Tree) (ps : ResolvedPatterns) (E : List ℕ) (B : Bindings) (c : ℕ)
      (go : List Tree → Answer)
      → ((us : List Tree) → Gives l t (go us)) → Gives l t (built_all room ps E B l c go)
  built_all-gives room l t no_resolved_patterns E B c go h = h []
  built_all-gives room l t (and_resolved_pattern p ps) E B c go h =
      built-gives room l t (build_pattern p E B) c _ (λ u fit. built_all-gives room l t ps E B c _ (λ us. h (u ∷ us)))

  opened-gives : (part : Evaluation) (E : Scope) (new : Bindings) (l : ℕ) (x : ResolvedStrategy) → PartGives part
      → ActGives l (opened part E new l x)
  opened-gives part E new l x h c B t =
      either-gives (K l t) l t (part E l x c (B ++ new) t) _ _ (h E l x c (B ++ new) t) (λ u B1 b e r. r) (λ b. tt)

  pub form-gives : (W : World) (part : Evaluation) → PartGives part → PartGives (form W part)
  form-gives W part h E l id c B t = k.left l t
  form-gives W part h E l fail c B t = tt
  form-gives W part h E l (matches p) c B t =
      some-gives l t (match_pattern p t (cells_in E) B) c _ (λ B1 is. k.left l t)
  form-gives W part h E l (builds p) c B t =
      built-gives W.room l t (build_pattern p (cells_in E) B) c _ (λ u fit. k.built W.room l t u fit)
  form-gives W part h E l (seq s1 s2) c B t = and_then-gives l t _ _ (h E l s1 c B t) (h E l s2)
  form-gives W part h E l (guard s1 s2 s3) c B t =
      either-gives (K l t) l t (part E l s1 c B t) _ _ (h E l s1 c B t)
      (λ u B1 b e r. edits-give l t u e _ r (h E l s2 b B1 u)) (λ b. h E l s3 b B t)
  form-gives W part h E l (test s1) c B t =
      either-gives (K l t) l t (part E l s1 c B t) _ _ (h E l s1 c B t) (λ u B1 b e r. k.left l t) (λ b. tt)
  form-gives W part h E l (scope n s1) c B t =
      opened-gives part (with_variables E (length B) n) (replicate n None) l s1 h c B t
  form-gives W part h E l (param x) c B t =
      some-gives l t (stands_for E x) c _ (λ z is. h z.written_in l z.strategy c B t)
  form-gives W part h E l (call f ss ps) c B t =
      built_all-gives W.room l t ps (cells_in E) B c _ (λ us. some-gives l t (slice_get W.bodies f) c _
      (λ d is. opened-gives part _ (map Some us ++ replicate d.variables None) l d.strategy h c B t))
  form-gives W part h E l (congruence x ss) c B t =
      if-gives l t (is_over x (length (resolved_list ss)) t) _ c
      (each-gives _ (resolved_list ss) 0 l (h E (l + 1)) c B t)
  form-gives W part h E l (tail_congruence ss s1) c B t =
      if-gives l t (is_list_from (length (resolved_list ss)) (elements t)) _ c
      (and_then-gives l t _ _ (each-gives _ (resolved_list ss) 0 l (h E (l + 1)) c B t)
      (rest-gives _ (length (resolved_list ss)) l (h E l s1)))
  form-gives W part h E l (all s1) c B t =
      each-gives _ (replicate (length (children t)) s1) 0 l (h E (l + 1)) c B t
  form-gives W part h E l (one s1) c B t = leftmost-gives _ (length (children t)) 0 l (h E (l + 1) s1) c B t
  form-gives W part h E l (some s1) c B t = those-give _ (length (children t)) false 0 l (h E (l + 1) s1) c B t
  form-gives W part h E l (child n s1) c B t = number-gives _ n l (h E (l + 1) s1) c B t
  form-gives W part h E l (rec s1) c B t = h (with_name E (rec s1) E) l s1 c B t
  form-gives W part h E l (prim n ps) c B t =
      built_all-gives W.room l t ps (cells_in E) B c _
      (λ us. built-gives W.room l t (primitive_answer W n us) c _ (λ u fit. k.built W.room l t u fit))

  pub bounded-gives : (W : World) (n : ℕ) → PartGives (run_bounded W n)
  bounded-gives W zero E l s b B t = tt
  bounded-gives W (suc n) E l s zero B t = tt
  bounded-gives W (suc n) E l s (suc c) B t = form-gives W (run_bounded W n) (bounded-gives W n) E l s c B t
