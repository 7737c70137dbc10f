-- A strategy leaves as many cells as there were.
use Rattle.std.proofs.Common.{◌≡◌, ℕ, ◌+◌, zero, suc, List, [], ◌∷◌, ◌++◌, length, map, replicate, take, Bool, true, false, cond, refl, ap, subst, arith, slice_get, Some, None}
use Rattle.std.specs.declared.option.Option.{Option}
use Rattle.std.specs.Prelude.{option_and_then, ⊤}
use Rattle.std.proofs.lemmas.List.{length-take-le, length-append, length-set, take_all}
use Rattle.term_core.specs.Tree.{Tree, children, annotations, bare}
use Rattle.term_core.specs.Size.{fits}
use Rattle.term_paths.specs.Edits.{Edits}
use Rattle.strategy_syntax.specs.Resolved.{ResolvedPattern, wildcard, variable, at, number, compound, with_tail, annotated, ResolvedPatterns, no_resolved_patterns, and_resolved_pattern, resolved_pattern_list, ResolvedStrategy, id, fail, matches, builds, seq, guard, test, scope, param, call, congruence, tail_congruence, all, one, some, child, rec, prim, resolved_list}
use Rattle.strategy_meaning.specs.Same.{same_tree}
use Rattle.strategy_meaning.specs.Matching.{Bindings, match_pattern, match_patterns, bind, put_or_same, build_pattern, elements, is_integer, is_headed}
use Rattle.strategy_meaning.specs.Scopes.{Scope, cells_in, stands_for, with_variables, with_name}
use Rattle.strategy_meaning.specs.Answer.{Answer, done, failed, stopped, big, Act, either, with_edits, and_then}
use Rattle.strategy_machine.specs.inside.Endings.{HasCells as Has}
use Rattle.strategy_meaning.specs.Meaning.{World, primitive_answer, Evaluation, with_some, on_child, each, leftmost, those_done, on_child_number, is_over, is_list_from, rest_of, on_rest, built, built_all, cut, opened, form, run, run_bounded}

-- ---- matching

-- if there are bindings, there are n cells
abbrev Holds : ℕ → Option Bindings → Type 0
Holds n None = ⊤
Holds n (Some B) = length B ≡ n

and_then-holds : {A : Type 0} (n : ℕ) (o : Option A) (f : A → Option Bindings) → ((x : A) → Holds n (f x))
    → Holds n (option_and_then f o)
and_then-holds n None f h = tt
and_then-holds n (Some x) f h = h x

-- the second match continues with the bindings of the first
then-holds : (n : ℕ) (o : Option Bindings) (f : Bindings → Option Bindings) → Holds n o
    → ((B : Bindings) → length B ≡ n → Holds n (f B)) → Holds n (option_and_then f o)
then-holds n None f h g = tt
then-holds n (Some B) f h g = g B h

if-holds : (n : ℕ) (v : Bool) (o : Option Bindings) → Holds n o → Holds n (cond v o None)
if-holds n true o h = h
if-holds n false o h = tt

put-holds : (B : Bindings) (i : ℕ) (t : Tree) (o : Option (Option Tree)) → Holds (length B) (put_or_same B i t o)
put-holds B i t None = tt
put-holds B i t (Some None) = length-set B i (Some t)
put-holds B i t (Some (Some u)) = if-holds (length B) (same_tree u t) (Some B) refl

bind-holds : (E : List ℕ) (x : ℕ) (t : Tree) (B : Bindings) (n : ℕ) → length B ≡ n → Holds n (bind E x t B)
bind-holds E x t B n e =
    subst (λ (k : ℕ). Holds k (bind E x t B)) e
    (and_then-holds (length B) (slice_get E x) (λ i. put_or_same B i t (slice_get B i))
    (λ i. put-holds B i t (slice_get B i)))

mutual
  match-holds : (p : ResolvedPattern) (t : Tree) (E : List ℕ) (B : Bindings) (n : ℕ)
      → length B ≡ n → Holds n (match_pattern p t E B)
  match-holds wildcard t E B n e = e
  match-holds (variable x) t E B n e = bind-holds E x t B n e
  match-holds (at x p) t E B n e =
      then-holds n (bind E x t B) _ (bind-holds E x t B n e) (λ C f. match-holds p t E C n f)
  match-holds (number z) t E B n e = if-holds n (is_integer z t) (Some B) e
  match-holds (compound h ps) t E B n e = if-holds n (is_headed h t) _ (matches-hold ps (children t) E B n e)
  match-holds (with_tail ps p) t E B n e =
      and_then-holds n (elements t) _
      (λ us. then-holds n (match_patterns ps (take (length (resolved_pattern_list ps)) us) E B) _
      (matches-hold ps (take (length (resolved_pattern_list ps)) us) E B n e) (λ C f. match-holds p _ E C n f))
  match-holds (annotated p ps) t E B n e =
      then-holds n (match_pattern p (bare t) E B) _ (match-holds p (bare t) E B n e)
      (λ C f. matches-hold ps (annotations t) E C n f)

  matches-hold : (ps : ResolvedPatterns) (ts : List Tree) (E : List ℕ) (B : Bindings) (n : ℕ)
      → length B ≡ n → Holds n (match_patterns ps ts E B)
  matches-hold no_resolved_patterns [] E B n e = e
  matches-hold no_resolved_patterns (t ∷ ts) E B n e = tt
  matches-hold (and_resolved_pattern p ps) [] E B n e = tt
  matches-hold (and_resolved_pattern p ps) (t ∷ ts) E B n e =
      then-holds n (match_pattern p t E B) _ (match-holds p t E B n e) (λ C f. matches-hold ps ts E C n f)

-- ---- answers

abbrev ActHas : Act → Type 0
ActHas f = (n c : ℕ) (B : Bindings) (t : Tree) → length B ≡ n → Has n (f c B t)

abbrev PartHas : Evaluation → Type 0
PartHas part = (E : Scope) (l : ℕ) (s : ResolvedStrategy) → ActHas (part E l s)

either-has : (n : ℕ) (a : Answer) (go : Tree → Bindings → ℕ → Edits → Answer) (back : ℕ → Answer) → Has n a
    → ((u : Tree) (B : Bindings) (b : ℕ) (e : Edits) → length B ≡ n → Has n (go u B b e)) → ((b : ℕ) → Has n (back b))
    → Has n (either a go back)
either-has n (done u B b e) go back h hgo hback = hgo u B b e h
either-has n (failed b) go back h hgo hback = hback b
either-has n (stopped why) go back h hgo hback = tt

edits-has : (n : ℕ) (e : Edits) (a : Answer) → Has n a → Has n (with_edits e a)
edits-has n e (done v B b f) g = g
edits-has n e (failed b) g = tt
edits-has n e (stopped why) g = tt

and_then-has : (n : ℕ) (a : Answer) (f : Act) → Has n a → ActHas f → Has n (and_then a f)
and_then-has n a f h g = either-has n a _ _ h (λ u B b e r. edits-has n e (f b B u) (g n b B u r)) (λ b. tt)

some-has : {A : Type 0} (n : ℕ) (o : Option A) (c : ℕ) (go : A → Answer) → ((x : A) → Has n (go x))
    → Has n (with_some o c go)
some-has n None c go h = tt
some-has n (Some x) c go h = h x

if-has : (n : ℕ) (v : Bool) (a : Answer) (b : ℕ) → Has n a → Has n (cond v a (failed b))
if-has n true a b h = h
if-has n false a b h = tt

one-has : (f : Act) (i : ℕ) → ActHas f → ActHas (on_child f i)
one-has f i h n c B t e =
    some-has n (slice_get (children t) i) c _
    (λ u. either-has n (f c B u) _ _ (h n c B u e) (λ v B1 b d r. r) (λ b. tt))

each-has : (f : ResolvedStrategy → Act) (ss : List ResolvedStrategy) (i : ℕ) → ((s : ResolvedStrategy) → ActHas (f s))
    → ActHas (each f ss i)
each-has f [] i h n c B t e = e
each-has f (x ∷ ss) i h n c B t e =
    and_then-has n (on_child (f x) i c B t) _ (one-has (f x) i (h x) n c B t e) (each-has f ss (i + 1) h)

leftmost-has : (f : Act) (k i : ℕ) → ActHas f → ActHas (leftmost f k i)
leftmost-has f zero i h n c B t e = tt
leftmost-has f (suc k) i h n c B t e =
    either-has n (on_child f i c B t) _ _ (one-has f i h n c B t e) (λ u B1 b d r. r)
    (λ b. leftmost-has f k (i + 1) h n b B t e)

those-have : (f : Act) (k : ℕ) (any : Bool) (i : ℕ) → ActHas f → ActHas (those_done f k any i)
those-have f zero true i h n c B t e = e
those-have f zero false i h n c B t e = tt
those-have f (suc k) any i h n c B t e =
    either-has n (on_child f i c B t) _ _ (one-has f i h n c B t e)
    (λ u B1 b d r. edits-has n d _ (those-have f k true (i + 1) h n b B1 u r))
    (λ b. those-have f k any (i + 1) h n b B t e)

number-has : (f : Act) (k : ℕ) → ActHas f → ActHas (on_child_number f k)
number-has f zero h n c B t e = tt
number-has f (suc i) h n c B t e = one-has f i h n c B t e

rest-has : (f : Act) (k : ℕ) → ActHas f → ActHas (on_rest f k)
rest-has f k h n c B t e =
    either-has n (f c B (rest_of k t)) _ _ (h n c B (rest_of k t) e)
    (λ u B1 b d r. some-has n (elements u) b _ (λ us. r)) (λ b. tt)

built-has : (room n l : ℕ) (o : Option Tree) (c : ℕ) (go : Tree → Answer) → ((u : Tree) → Has n (go u))
    → Has n (built room o l c go)
built-has room n l o c go h = some-has n o c _ (λ u. by u (fits room l u)) where
  by : (u : Tree) (v : Bool) → Has n (cond v (go u) (stopped big))
  by u true = h u
  by u false = tt

built_all-has : (room n l : ℕ) (ps : ResolvedPatterns) (E : List ℕ) (B : Bindings) (c : ℕ)
    (go : List Tree → Answer) → ((us : List Tree) → Has n (go us)) → Has n (built_all room ps E B l c go)
built_all-has room n l no_resolved_patterns E B c go h = h []
built_all-has room n l (and_resolved_pattern p ps) E B c go h =
    built-has room n l (build_pattern p E B) c _ (λ u. built_all-has room n l ps E B c _ (λ us. h (u ∷ us)))

-- exactly the opened cells are gone
cut-has : (B new : Bindings) (a : Answer) → Has (length (B ++ new)) a → Has (length B) (cut (length B) a)
cut-has B new (done u C b e) h = length-take-le (length B) C (omega (arith, h, length-append B new))
cut-has B new (failed b) h = tt
cut-has B new (stopped why) h = tt

opened-has : (part : Evaluation) (E : Scope) (new : Bindings) (l : ℕ) (x : ResolvedStrategy) → PartHas part
    → ActHas (opened part E new l x)
opened-has part E new l x h n c B t e =
    subst (λ (k : ℕ). Has k (opened part E new l x c B t)) e
    (cut-has B new (part E l x c (B ++ new) t) (h E l x (length (B ++ new)) c (B ++ new) t refl))

form-has : (W : World) (part : Evaluation) → PartHas part → PartHas (form W part)
form-has W part h E l id n c B t e = e
form-has W part h E l fail n c B t e = tt
form-has W part h E l (matches p) n c B t e =
    matched (match_pattern p t (cells_in E) B) (match-holds p t (cells_in E) B n e) where
      matched : (o : Option Bindings) → Holds n o → Has n (with_some o c (λ B1. done t B1 c []))
      matched None k = tt
      matched (Some C) k = k
form-has W part h E l (builds p) n c B t e = built-has W.room n l (build_pattern p (cells_in E) B) c _ (λ u. e)
form-has W part h E l (seq s1 s2) n c B t e = and_then-has n _ _ (h E l s1 n c B t e) (h E l s2)
form-has W part h E l (guard s1 s2 s3) n c B t e =
    either-has n (part E l s1 c B t) _ _ (h E l s1 n c B t e) (λ u B1 b d r. edits-has n d _ (h E l s2 n b B1 u r))
    (λ b. h E l s3 n b B t e)
form-has W part h E l (test s1) n c B t e =
    either-has n (part E l s1 c B t) _ _ (h E l s1 n c B t e) (λ u B1 b d r. r) (λ b. tt)
form-has W part h E l (scope k s1) n c B t e =
    opened-has part (with_variables E (length B) k) (replicate k None) l s1 h n c B t e
form-has W part h E l (param x) n c B t e = some-has n (stands_for E x) c _ (λ z. h z.written_in l z.strategy n c B t e)
form-has W part h E l (call f ss ps) n c B t e =
    built_all-has W.room n l ps (cells_in E) B c _ (λ us. some-has n (slice_get W.bodies f) c _
    (λ d. opened-has part _ (map Some us ++ replicate d.variables None) l d.strategy h n c B t e))
form-has W part h E l (congruence x ss) n c B t e =
    if-has n (is_over x (length (resolved_list ss)) t) _ c (each-has _ (resolved_list ss) 0 (h E (l + 1)) n c B t e)
form-has W part h E l (tail_congruence ss s1) n c B t e =
    if-has n (is_list_from (length (resolved_list ss)) (elements t)) _ c
    (and_then-has n _ _ (each-has _ (resolved_list ss) 0 (h E (l + 1)) n c B t e)
    (rest-has _ (length (resolved_list ss)) (h E l s1)))
form-has W part h E l (all s1) n c B t e = each-has _ (replicate (length (children t)) s1) 0 (h E (l + 1)) n c B t e
form-has W part h E l (one s1) n c B t e = leftmost-has _ (length (children t)) 0 (h E (l + 1) s1) n c B t e
form-has W part h E l (some s1) n c B t e = those-have _ (length (children t)) false 0 (h E (l + 1) s1) n c B t e
form-has W part h E l (child k s1) n c B t e = number-has _ k (h E (l + 1) s1) n c B t e
form-has W part h E l (rec s1) n c B t e = h (with_name E (rec s1) E) l s1 n c B t e
form-has W part h E l (prim k ps) n c B t e =
    built_all-has W.room n l ps (cells_in E) B c _ (λ us. built-has W.room n l (primitive_answer W k us) c _ (λ u. e))

bounded-has : (W : World) (k : ℕ) → PartHas (run_bounded W k)
bounded-has W zero E l s n b B t e = tt
bounded-has W (suc k) E l s n zero B t e = tt
bounded-has W (suc k) E l s n (suc c) B t e = form-has W (run_bounded W k) (bounded-has W k) E l s n c B t e

pub run_has : (W : World) (E : Scope) (l : ℕ) (s : ResolvedStrategy) (b : ℕ) (B : Bindings) (t : Tree)
    → Has (length B) (run W E l s b B t)
run_has W E l s b B t = bounded-has W b E l s (length B) b B t refl

-- so a cut to the same number of cells removes nothing
pub cut_none : (n : ℕ) (a : Answer) → Has n a → cut n a ≡ a
cut_none n (done t B b e) h = ap (λ (C : Bindings). done t C b e) (take_all n B (omega (arith, h)))
cut_none n (failed b) h = refl
cut_none n (stopped w) h = refl
