-- Related evaluations give related answers to each form.
use Rattle.std.proofs.Common.{◌≡◌, ℕ, ◌+◌, zero, suc, List, [], ◌∷◌, ◌++◌, length, map, replicate, Bool, true, false, cond, refl, slice_get, Some, None}
use Rattle.std.specs.declared.option.Option.{Option}
use Rattle.term_core.specs.Tree.{Tree, children}
use Rattle.term_core.specs.Size.{fits}
use Rattle.term_paths.specs.Edits.{Edits}
use Rattle.strategy_syntax.specs.Resolved.{ResolvedPatterns, no_resolved_patterns, and_resolved_pattern, ResolvedStrategy, id, fail, matches, builds, seq, guard, test, scope, param, call, congruence, tail_congruence, all, one, some, child, rec, prim, resolved_list}
use Rattle.strategy_meaning.specs.Matching.{Bindings, match_pattern, build_pattern, elements}
use Rattle.strategy_meaning.specs.Scopes.{Scope, cells_in, stands_for, with_variables, with_name}
use Rattle.strategy_meaning.specs.Answer.{Answer, done, failed, stopped, spent, big, Act, either, if_done, with_edits, and_then}
use Rattle.strategy_meaning.specs.Laws.{in_room}
use Rattle.strategy_meaning.specs.Meaning.{World, primitive_answer, Evaluation, with_some, on_child, each, leftmost, those_done, on_child_number, is_over, is_list_from, rest_of, on_rest, built, built_all, opened, form}

-- The same answer, with the steps left related by S; if the first is spent, Q holds of the second,
-- and if it is too big, P.
abbrev pub Related : (ℕ → ℕ → Type 0) → (Answer → Type 0) → (Answer → Type 0) → Answer → Answer → Type 0
Related S Q P (done t B b e) a = (c : ℕ) × (a ≡ done t B c e) × S b c
Related S Q P (failed b) a = (c : ℕ) × (a ≡ failed c) × S b c
Related S Q P (stopped spent) a = Q a
Related S Q P (stopped big) a = P a

abbrev pub Keeps : (Answer → Type 0) → Type 0
Keeps Q = (a : Answer) (go : Tree → Bindings → ℕ → Edits → Answer) (back : ℕ → Answer) → Q a → Q (either a go back)

-- What fits in the first room fits in the second; after a term that doesn't, P holds.
pub record IsRoomier (P : Answer → Type 0) (room more : ℕ) : Type 0 where
  pub fit : (l : ℕ) (u : Tree) → fits room l u ≡ true → fits more l u ≡ true
  pub over : (l : ℕ) (u : Tree) (a : Answer) → fits room l u ≡ false → P (cond (fits more l u) a (stopped big))

module _ (S : ℕ → ℕ → Type 0) (Q P : Answer → Type 0) (keeps : Keeps Q) (keeps_big : Keeps P) (room more : ℕ)
    (roomier : IsRoomier P room more) where
  abbrev R : Answer → Answer → Type 0
  R a a' = Related S Q P a a'

  abbrev pub ActsAlike : Act → Act → Type 0
  ActsAlike f g = (b c : ℕ) (B : Bindings) (t : Tree) → S b c → R (f b B t) (g c B t)

  abbrev pub Alike : Evaluation → Evaluation → Type 0
  Alike part other = (E : Scope) (l : ℕ) (s : ResolvedStrategy) → ActsAlike (part E l s) (other E l s)

  either-related : (a a' : Answer) (go go' : Tree → Bindings → ℕ → Edits → Answer) (back back' : ℕ → Answer) → R a a'
      → ((t : Tree) (B : Bindings) (b c : ℕ) (e : Edits) → S b c → R (go t B b e) (go' t B c e))
      → ((b c : ℕ) → S b c → R (back b) (back' c)) → R (either a go back) (either a' go' back')
  either-related (done t B b e) a' go go' back back' h hgo hback = rw h.1 (hgo t B b h.0 e h.2)
  either-related (failed b) a' go go' back back' h hgo hback = rw h.1 (hback b h.0 h.2)
  either-related (stopped spent) a' go go' back back' h hgo hback = keeps a' go' back' h
  either-related (stopped big) a' go go' back back' h hgo hback = keeps_big a' go' back' h

  failed-related : (b c : ℕ) → S b c → R (failed b) (failed c)
  failed-related b c h = (c, refl, h)

  done-related : (t : Tree) (B : Bindings) (b c : ℕ) (e : Edits) → S b c → R (done t B b e) (done t B c e)
  done-related t B b c e h = (c, refl, h)

  if_done-related : (a a' : Answer) (go go' : Tree → Bindings → ℕ → Edits → Answer) → R a a'
      → ((t : Tree) (B : Bindings) (b c : ℕ) (e : Edits) → S b c → R (go t B b e) (go' t B c e))
      → R (if_done a go) (if_done a' go')
  if_done-related a a' go go' h hgo = either-related a a' go go' failed failed h hgo failed-related

  edits-related : (e : Edits) (a a' : Answer) → R a a' → R (with_edits e a) (with_edits e a')
  edits-related e a a' h = if_done-related a a' _ _ h (λ t B b c f s. (c, refl, s))

  and_then-related : (a a' : Answer) (f g : Act) → R a a' → ActsAlike f g → R (and_then a f) (and_then a' g)
  and_then-related a a' f g h k =
      if_done-related a a' _ _ h (λ t B b c e s. edits-related e (f b B t) (g c B t) (k b c B t s))

  some-related : {A : Type 0} (o : Option A) (b c : ℕ) (go go' : A → Answer) → S b c → ((x : A) → R (go x) (go' x))
      → R (with_some o b go) (with_some o c go')
  some-related None b c go go' s h = (c, refl, s)
  some-related (Some x) b c go go' s h = h x

  one-related : (f g : Act) (i : ℕ) → ActsAlike f g → ActsAlike (on_child f i) (on_child g i)
  one-related f g i h b c B t s =
      some-related (slice_get (children t) i) b c _ _ s
      (λ u. if_done-related (f b B u) (g c B u) _ _ (h b c B u s) (λ v B1 b1 c1 e s1. (c1, refl, s1)))

  each-related : (f g : ResolvedStrategy → Act) (ss : List ResolvedStrategy) (i : ℕ)
      → ((s : ResolvedStrategy) → ActsAlike (f s) (g s)) → ActsAlike (each f ss i) (each g ss i)
  each-related f g [] i h b c B t s = (c, refl, s)
  each-related f g (x ∷ ss) i h b c B t s =
      and_then-related (on_child (f x) i b B t) (on_child (g x) i c B t) _ _ (one-related (f x) (g x) i (h x) b c B t s)
      (λ b1 c1 B1 t1 s1. each-related f g ss (i + 1) h b1 c1 B1 t1 s1)

  leftmost-related : (f g : Act) (n i : ℕ) → ActsAlike f g → ActsAlike (leftmost f n i) (leftmost g n i)
  leftmost-related f g zero i h b c B t s = (c, refl, s)
  leftmost-related f g (suc n) i h b c B t s =
      either-related (on_child f i b B t) (on_child g i c B t) _ _ _ _ (one-related f g i h b c B t s) done-related
      (λ b1 c1 s1. leftmost-related f g n (i + 1) h b1 c1 B t s1)

  those-related : (f g : Act) (n : ℕ) (any : Bool) (i : ℕ) → ActsAlike f g
      → ActsAlike (those_done f n any i) (those_done g n any i)
  those-related f g zero true i h b c B t s = (c, refl, s)
  those-related f g zero false i h b c B t s = (c, refl, s)
  those-related f g (suc n) any i h b c B t s =
      either-related (on_child f i b B t) (on_child g i c B t) _ _ _ _ (one-related f g i h b c B t s)
      (λ t1 B1 b1 c1 e s1. edits-related e _ _ (those-related f g n true (i + 1) h b1 c1 B1 t1 s1))
      (λ b1 c1 s1. those-related f g n any (i + 1) h b1 c1 B t s1)

  number-related : (f g : Act) (n : ℕ) → ActsAlike f g → ActsAlike (on_child_number f n) (on_child_number g n)
  number-related f g zero h b c B t s = (c, refl, s)
  number-related f g (suc i) h b c B t s = one-related f g i h b c B t s

  rest-related : (f g : Act) (n : ℕ) → ActsAlike f g → ActsAlike (on_rest f n) (on_rest g n)
  rest-related f g n h b c B t s =
      if_done-related (f b B (rest_of n t)) (g c B (rest_of n t)) _ _ (h b c B (rest_of n t) s)
      (λ u B1 b1 c1 e s1. some-related (elements u) b1 c1 _ _ s1 (λ us. (c1, refl, s1)))

  -- the same test before both
  if-related : (v : Bool) (a a' : Answer) (b c : ℕ) → R a a' → S b c → R (cond v a (failed b)) (cond v a' (failed c))
  if-related true a a' b c h s = h
  if-related false a a' b c h s = (c, refl, s)

  built-related : (o : Option Tree) (l b c : ℕ) (go go' : Tree → Answer) → S b c → ((u : Tree) → R (go u) (go' u))
      → R (built room o l b go) (built more o l c go')
  built-related o l b c go go' s h = some-related o b c _ _ s (λ u. by u (fits room l u) refl) where
    by : (u : Tree) (v : Bool)
        → fits room l u ≡ v → R (cond v (go u) (stopped big)) (cond (fits more l u) (go' u) (stopped big))
    by u true is = rw (roomier.fit l u is) (h u)
    by u false is = roomier.over l u (go' u) is

  built_all-related : (ps : ResolvedPatterns) (E : List ℕ) (B : Bindings) (l b c : ℕ)
      (go go' : List Tree → Answer) → S b c
      → ((us : List Tree) → R (go us) (go' us)) → R (built_all room ps E B l b go) (built_all more ps E B l c go')
  built_all-related no_resolved_patterns E B l b c go go' s h = h []
  built_all-related (and_resolved_pattern p ps) E B l b c go go' s h =
      built-related (build_pattern p E B) l b c _ _ s (λ u. built_all-related ps E B l b c _ _ s (λ us. h (u ∷ us)))

  opened-related : (part other : Evaluation) (E : Scope) (new : Bindings) (l : ℕ) (x : ResolvedStrategy)
      → Alike part other → ActsAlike (opened part E new l x) (opened other E new l x)
  opened-related part other E new l x h b c B t s =
      if_done-related _ _ _ _ (h E l x b c (B ++ new) t s) (λ t1 B1 b1 c1 e s1. (c1, refl, s1))

  pub form-related : (W : World) (part other : Evaluation) → Alike part other
      → Alike (form (in_room room W) part) (form (in_room more W) other)
  form-related W part other h E l id b c B t s = (c, refl, s)
  form-related W part other h E l fail b c B t s = (c, refl, s)
  form-related W part other h E l (matches p) b c B t s =
      some-related (match_pattern p t (cells_in E) B) b c _ _ s (λ B1. (c, refl, s))
  form-related W part other h E l (builds p) b c B t s =
      built-related (build_pattern p (cells_in E) B) l b c _ _ s (λ u. (c, refl, s))
  form-related W part other h E l (seq s1 s2) b c B t s =
      and_then-related _ _ _ _ (h E l s1 b c B t s) (h E l s2)
  form-related W part other h E l (guard s1 s2 s3) b c B t s =
      either-related _ _ _ _ _ _ (h E l s1 b c B t s)
      (λ t1 B1 b1 c1 e s'. edits-related e _ _ (h E l s2 b1 c1 B1 t1 s'))
      (λ b1 c1 s'. h E l s3 b1 c1 B t s')
  form-related W part other h E l (test s1) b c B t s =
      if_done-related _ _ _ _ (h E l s1 b c B t s) (λ t1 B1 b1 c1 e s'. (c1, refl, s'))
  form-related W part other h E l (scope n s1) b c B t s =
      opened-related part other (with_variables E (length B) n) (replicate n None) l s1 h b c B t s
  form-related W part other h E l (param x) b c B t s =
      some-related (stands_for E x) b c _ _ s (λ k. h k.written_in l k.strategy b c B t s)
  form-related W part other h E l (call f ss ps) b c B t s =
      built_all-related ps (cells_in E) B l b c _ _ s (λ us. some-related (slice_get W.bodies f) b c _ _ s
      (λ d. opened-related part other _ (map Some us ++ replicate d.variables None) l d.strategy h b c B t s))
  form-related W part other h E l (congruence k ss) b c B t s =
      if-related (is_over k (length (resolved_list ss)) t) _ _ b c
      (each-related _ _ (resolved_list ss) 0 (h E (l + 1)) b c B t s) s
  form-related W part other h E l (tail_congruence ss s1) b c B t s =
      if-related (is_list_from (length (resolved_list ss)) (elements t)) _ _ b c
      (and_then-related _ _ _ _ (each-related _ _ (resolved_list ss) 0 (h E (l + 1)) b c B t s)
      (rest-related _ _ (length (resolved_list ss)) (h E l s1))) s
  form-related W part other h E l (all s1) b c B t s =
      each-related _ _ (replicate (length (children t)) s1) 0 (h E (l + 1)) b c B t s
  form-related W part other h E l (one s1) b c B t s =
      leftmost-related _ _ (length (children t)) 0 (h E (l + 1) s1) b c B t s
  form-related W part other h E l (some s1) b c B t s =
      those-related _ _ (length (children t)) false 0 (h E (l + 1) s1) b c B t s
  form-related W part other h E l (child n s1) b c B t s = number-related _ _ n (h E (l + 1) s1) b c B t s
  form-related W part other h E l (rec s1) b c B t s = h (with_name E (rec s1) E) l s1 b c B t s
  form-related W part other h E l (prim n ps) b c B t s =
      built_all-related ps (cells_in E) B l b c _ _ s
      (λ us. built-related (primitive_answer W n us) l b c _ _ s (λ u. (c, refl, s)))
