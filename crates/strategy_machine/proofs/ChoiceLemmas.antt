-- Choices whose first branch is a match and a build, or a rule, done at once.
use Rattle.std.proofs.Common.{◌≡◌, ◌<◌, ◌≤◌, ℕ, ◌+◌, zero, suc, List, [], ◌∷◌, ◌++◌, length, map, replicate, take, slice_get, sym, ap, ◌∙◌, refl, subst, arith, Some, None, true, false, Bor}
use Rattle.std.proofs.lemmas.List.{append-nil}
use Rattle.term_core.specs.Tree.{Tree}
use Rattle.term_core.specs.Size.{fits}
use Rattle.term_paths.specs.Edits.{Edits}
use Rattle.term_changes.specs.Standing.{Standing, fresh, standing_tree}
use Rattle.strategy_syntax.specs.Resolved.{ResolvedPattern, ResolvedPatterns, no_resolved_patterns, ResolvedStrategy, matches, builds, seq, guard, scope, call, ResolvedStrategies, no_strategies, resolveds_of}
use Rattle.strategy_syntax.specs.declared.resolved.Resolved.{Resolved}
use Rattle.strategy_meaning.specs.Scopes.{Scope, inside, no_closures, cells_in, numbers_from, with_variables}
use Rattle.strategy_meaning.specs.Matching.{Bindings, match_pattern, build_pattern}
use Rattle.strategy_meaning.specs.Answer.{Stop, Answer, done, failed, stopped, spent, big, either, with_edits, at_root}
use Rattle.strategy_meaning.specs.Meaning.{World, run, form, built, cut, enter}
use Rattle.strategy_machine.specs.Table.{nowhere, scope_at, scope_from, IsThere}
use Rattle.term_match.specs.CellContents.{CellContents}
use Rattle.term_match.specs.Marks.{kept, mark_of, Before, Stays}
use Rattle.term_match.specs.declared.cells.Mark.{Mark}
use Rattle.strategy_machine.specs.Trails.{Shows, path_of}
use Rattle.strategy_machine.specs.Turns.{State, HoldsIn}
use Rattle.strategy_machine.specs.inside.Taking.{FormIn}
use Rattle.strategy_machine.specs.inside.Rules.{IsRule}
use Rattle.strategy_machine.specs.declared.choices.Rule.{Rule}
use Rattle.strategy_machine.specs.declared.trail.Trail.{Trail}
use Rattle.strategy_machine.specs.Hands.{Begin}
use Rattle.strategy_machine.proofs.LeadLemmas.{leads_fresh}
use Rattle.strategy_machine.proofs.OpenLemmas.{opens_along, opens_on, opens_kept, before_self}
use Rattle.strategy_machine.proofs.LengthLemmas.{run_has, cut_none}
use Rattle.strategy_machine.proofs.RuleLemmas.{few, unmatched, matched_few, builds_one}
use Rattle.strategy_machine.proofs.TakeLemmas.{run_step, no_steps, some_is, built_is, big_is, unbuilt_is, take_stops, celled, paid}

-- What going back to a mark of the old cells keeps of them.
pub record GoesBack (old new : CellContents) : Type 0 where
  pub later : Before (mark_of old) (mark_of new)
  pub stays : Stays (mark_of old) old new
  pub bindings : new.bindings ≡ old.bindings

pub goes_back : (old mid new : CellContents) (m : Mark) → m ≡ mark_of old
    → kept old m ≡ old.bindings → Stays (mark_of old) old mid
    → new.bindings ≡ kept mid m → mark_of new ≡ m → Stays m mid new → GoesBack old new
goes_back old mid new m e k s b f t = record {
  later = subst (λ (x : Mark). Before (mark_of old) x) (sym (f ∙ e)) (before_self (mark_of old));
  stays = λ j w. t j (subst (λ (x : Mark). Before j x) (sym e) w) ∙ s j w;
  bindings = b ∙ s m (subst (λ (x : Mark). Before m x) e (before_self m)) ∙ k;
}

-- ---- the first branch is done at once

module _ (W : World) (sub : Standing) (whole : Answer) (S : State) (s1 : ResolvedStrategy)
    (s2 s3 : Bor ResolvedStrategy) (n : ℕ) (p : Standing) where
  abbrev choice : ResolvedStrategy
  choice = guard s1 s2.now s3.now

  abbrev E : Scope
  E = scope_at S.scopes n

  -- the answer of the first branch
  abbrev pub first : Answer
  first = run W E S.level s1 S.steps S.cells.bindings (standing_tree p)

  -- the answer of the choice, given that of its first branch
  abbrev pick : Answer → Answer
  pick a = either a (λ t1 B1 b e. with_edits e (run W E S.level s2.now b B1 t1))
      (λ b. run W E S.level s3.now b S.cells.bindings (standing_tree p))

  pub first_stops : (w : Stop) → first ≡ stopped w → FormIn W sub whole S choice n p → whole ≡ stopped w
  first_stops w e h = take_stops W sub whole S choice n p w (ap pick e) h

  pub first_fails : (D : CellContents) (c : ℕ) → GoesBack S.cells D → first ≡ failed c → FormIn W sub whole S choice n p
      → HoldsIn W sub whole (celled (paid S c) D) (Begin s3 n p)
  first_fails D c g e h = record {
    now = p;
    edits = h.edits;
    shows = h.shows;
    in_hand = (h.there, refl);
    opens = opens_along _ _
        (ap pick e ∙ ap (λ (C : Bindings). run W E S.level s3.now c C (standing_tree p)) (sym g.bindings))
        (opens_kept W sub whole S.cells D (mark_of S.cells) (mark_of D) S.scopes S.level S.frames (path_of S.frames) p
        h.edits _ g.later g.stays h.opens);
  }

  pub first_done : (D : CellContents) (c : ℕ) (u : Tree) (v : Standing) (trail : Trail)
      → Before (mark_of S.cells) (mark_of D) → Stays (mark_of S.cells) S.cells D
      → first ≡ done u D.bindings c (at_root u) → v ≡ fresh u
      → ((T : Edits) → Shows S.trail T → Shows trail (T ++ record { path = path_of S.frames; new = u } ∷ []))
      → FormIn W sub whole S choice n p
      → HoldsIn W sub whole
      (record { cells = D; scopes = S.scopes; trail = trail; level = S.level; frames = S.frames; steps = c })
      (Begin s2 n v)
  first_done D c u v trail b st e is sh h = record {
    now = fresh u;
    edits = h.edits ++ record { path = path_of S.frames; new = u } ∷ [];
    shows = sh h.edits h.shows;
    in_hand = (h.there, sym is);
    opens = opens_along _ _ (ap (λ x. run W E S.level s2.now c D.bindings (standing_tree x)) (sym is))
        (opens_on (path_of S.frames) p (fresh u) h.edits _ (at_root u) (run W E S.level s2.now c D.bindings u)
        (leads_fresh p u)
        (ap (λ (x : List ℕ). h.edits ++ record { path = x; new = u } ∷ []) (sym (append-nil (path_of S.frames))))
        (opens_along _ _ (ap pick e)
        (opens_kept W sub whole S.cells D (mark_of S.cells) (mark_of D) S.scopes S.level S.frames (path_of S.frames) p
        h.edits _ b st h.opens)));
  }

-- ---- a match and a build

module _ (W : World) (sub : Standing) (whole : Answer) (S : State) (q r : ResolvedPattern)
    (s2 s3 : Bor ResolvedStrategy) (n : ℕ) (p : Standing) where
  abbrev both : ResolvedStrategy
  both = seq (matches q) (builds r)

  abbrev F : Scope
  F = scope_at S.scopes n

  pub choice_few : S.steps ≤ 1 → FormIn W sub whole S (guard both s2.now s3.now) n p → whole ≡ stopped spent
  choice_few e h = first_stops W sub whole S both s2 s3 n p spent
      (few W F S.level q r S.cells.bindings (standing_tree p) S.steps e) h

  pub choice_unmatched : (D : CellContents) (c : ℕ) → GoesBack S.cells D → S.steps ≡ c + 2
      → match_pattern q (standing_tree p) (cells_in F) S.cells.bindings ≡ None
      → FormIn W sub whole S (guard both s2.now s3.now) n p → HoldsIn W sub whole (celled (paid S c) D) (Begin s3 n p)
  choice_unmatched D c g e m h = first_fails W sub whole S both s2 s3 n p D c g
      (unmatched W F S.level q r S.cells.bindings (standing_tree p) S.steps c e m) h

  -- the match succeeded with these bindings
  module _ (C : Bindings) (m : match_pattern q (standing_tree p) (cells_in F) S.cells.bindings ≡ Some C) where
    pub choice_matched_few : S.steps ≡ 2 → FormIn W sub whole S (guard both s2.now s3.now) n p → whole ≡ stopped spent
    choice_matched_few e h = first_stops W sub whole S both s2 s3 n p spent
        (matched_few W F S.level q r S.cells.bindings (standing_tree p) S.steps 0 C e m refl) h

    comes : (c : ℕ) → S.steps ≡ c + 3 → first W sub whole S both s2 s3 n p
        ≡ built W.room (build_pattern r (cells_in F) C) S.level c (λ u. done u C c (at_root u))
    comes c e = builds_one W F S.level q r S.cells.bindings (standing_tree p) S.steps c C e m

    pub choice_unbuilt : (D : CellContents) (c : ℕ) → GoesBack S.cells D
        → S.steps ≡ c + 3 → build_pattern r (cells_in F) C ≡ None
        → FormIn W sub whole S (guard both s2.now s3.now) n p → HoldsIn W sub whole (celled (paid S c) D) (Begin s3 n p)
    choice_unbuilt D c g e o h = first_fails W sub whole S both s2 s3 n p D c g
        (comes c e ∙ unbuilt_is W.room S.level c _ (λ u. done u C c (at_root u)) o) h

    pub choice_big : (c : ℕ) (u : Tree) → S.steps ≡ c + 3 → build_pattern r (cells_in F) C ≡ Some u
        → fits W.room S.level u ≡ false
        → FormIn W sub whole S (guard both s2.now s3.now) n p → whole ≡ stopped big
    choice_big c u e o f h = first_stops W sub whole S both s2 s3 n p big
        (comes c e ∙ big_is W.room S.level c u _ (λ v. done v C c (at_root v)) o f) h

  pub choice_built : (D : CellContents) (c : ℕ) (u : Tree) (v : Standing) (trail : Trail)
      → Before (mark_of S.cells) (mark_of D) → Stays (mark_of S.cells) S.cells D
      → S.steps ≡ c + 3 → match_pattern q (standing_tree p) (cells_in F) S.cells.bindings ≡ Some D.bindings
      → build_pattern r (cells_in F) D.bindings ≡ Some u → fits W.room S.level u ≡ true → v ≡ fresh u
      → ((T : Edits) → Shows S.trail T → Shows trail (T ++ record { path = path_of S.frames; new = u } ∷ []))
      → FormIn W sub whole S (guard both s2.now s3.now) n p
      → HoldsIn W sub whole
      (record { cells = D; scopes = S.scopes; trail = trail; level = S.level; frames = S.frames; steps = c })
      (Begin s2 n v)
  choice_built D c u v trail b st e m o f is sh h =
      first_done W sub whole S both s2 s3 n p D c u v trail b st
      (comes D.bindings m c e ∙ built_is W.room S.level c u _ (λ w. done w D.bindings c (at_root w)) o f) is sh h

-- ---- a rule

module _ (W : World) (F : Scope) (l k : ℕ) (q r : ResolvedPattern) (s : ResolvedStrategy)
    (is : s ≡ scope k (seq (matches q) (builds r))) (B : Bindings) (t : Tree) where
  abbrev inside_is : ℕ → Answer
  inside_is c =
      cut (length B) (run W (with_variables F (length B) k) l (seq (matches q) (builds r)) c (B ++ replicate k None) t)

  scope_is : (b c : ℕ) → b ≡ c + 1 → run W F l s b B t ≡ inside_is c
  scope_is b c e = run_step W F l s b c B t e ∙ ap (λ (x : ResolvedStrategy). form W (run W) F l x c B t) is

  scope_spent : (b : ℕ) → b < 3 → run W F l s b B t ≡ stopped spent
  scope_spent zero e = no_steps W F l s zero B t refl
  scope_spent (suc c) e = scope_is (suc c) c (omega arith)
      ∙ ap (cut (length B)) (few W (with_variables F (length B) k) l q r (B ++ replicate k None) t c (omega (arith, e)))

-- the strategy itself
pub rule_here : (ds : List Resolved) (es : List Scope) (s : ResolvedStrategy) (n : ℕ) (r : Rule)
    → (s ≡ scope r.count (seq (matches r.left.now) (builds r.right.now))) × (r.outer ≡ Some n)
    × (r.price ≡ 3) → IsRule ds es s n r
rule_here ds es s n r e = record {
  there = λ lt. subst (IsThere (length es)) (sym e.1) lt;
  spent = λ W w l b B t lt.
      scope_spent W (scope_at es n) l r.count r.left.now r.right.now s e.0 B t b (omega (arith, lt, e.2));
  is = λ W w l b c B t f.
      scope_is W (scope_at es n) l r.count r.left.now r.right.now s e.0 B t b c (omega (arith, f, e.2))
      ∙ (λ i. cut (length B) (run W (with_variables (scope_from es (sym e.1 i)) (length B) r.count) l
      (seq (matches r.left.now) (builds r.right.now)) c (B ++ replicate r.count None) t));
}

-- the body of a definition without variables, called without arguments
body_is : (W : World) (E : Scope) (l f : ℕ) (ss : ResolvedStrategies) (ps : ResolvedPatterns) (d : Resolved) (c : ℕ)
    (B : Bindings) (t : Tree)
    → ss ≡ no_strategies → ps ≡ no_resolved_patterns → slice_get W.bodies f ≡ Some d
    → d.variables ≡ 0 → form W (run W) E l (call f ss ps) c B t ≡ run W nowhere l d.strategy c B t
body_is W E l f ss ps d c B t none empty there v =
    (λ i. form W (run W) E l (call f (none i) (empty i)) c B t)
    ∙ some_is (slice_get W.bodies f) d c (λ x. enter (run W) no_strategies E us x l c B t) there
    ∙ ap (λ (j : ℕ). cut (length B) (run W (inside (numbers_from (length B) (length us + j)) no_closures) l d.strategy c
    (B ++ (map Some us ++ replicate j None)) t)) v
    ∙ ap (λ (C : Bindings). cut (length B) (run W nowhere l d.strategy c C t)) (append-nil B)
    ∙ cut_none (length B) _ (run_has W nowhere l d.strategy c B t)
  where
    us : List Tree
    us = []

pub no_arguments : (ss : List ResolvedStrategy) → length ss ≡ 0 → resolveds_of ss ≡ no_strategies
no_arguments [] e = refl
no_arguments (s ∷ ss) e = absurd (omega (arith, e))

pub rule_called : (ds : List Resolved) (es : List Scope) (s : ResolvedStrategy) (n f : ℕ) (ss : ResolvedStrategies)
    (ps : ResolvedPatterns) (d : Resolved) (r : Rule)
    → s ≡ call f ss ps → ss ≡ no_strategies → ps ≡ no_resolved_patterns → slice_get ds f ≡ Some d → d.variables ≡ 0
    → (d.strategy ≡ scope r.count (seq (matches r.left.now) (builds r.right.now)))
    × (r.outer ≡ None) × (r.price ≡ 4) → IsRule ds es s n r
rule_called ds es s n f ss ps d r is none empty there v e = record {
  there = λ lt. subst (IsThere (length es)) (sym e.1) tt;
  spent = λ W w l b B t lt. few_steps W w l B t b (omega (arith, lt, e.2));
  is = λ W w l b c B t g. enters W w l b (c + 1) B t (omega (arith, g, e.2))
      ∙ scope_is W nowhere l r.count r.left.now r.right.now d.strategy e.0 B t (c + 1) c refl
      ∙ (λ i. cut (length B) (run W (with_variables (scope_from es (sym e.1 i)) (length B) r.count) l
      (seq (matches r.left.now) (builds r.right.now)) c (B ++ replicate r.count None) t));
}
  where
    enters : (W : World) → W.bodies ≡ ds → (l b c : ℕ) (B : Bindings) (t : Tree)
        → b ≡ c + 1 → run W (scope_at es n) l s b B t ≡ run W nowhere l d.strategy c B t
    enters W w l b c B t g =
        run_step W (scope_at es n) l s b c B t g
        ∙ ap (λ (x : ResolvedStrategy). form W (run W) (scope_at es n) l x c B t) is
        ∙ body_is W (scope_at es n) l f ss ps d c B t none empty
        (ap (λ (xs : List Resolved). slice_get xs f) w ∙ there) v

    few_steps : (W : World) → W.bodies ≡ ds → (l : ℕ) (B : Bindings) (t : Tree) (b : ℕ)
        → b < 4 → run W (scope_at es n) l s b B t ≡ stopped spent
    few_steps W w l B t zero g = no_steps W (scope_at es n) l s zero B t refl
    few_steps W w l B t (suc c) g = enters W w l (suc c) c B t (omega arith)
        ∙ scope_spent W nowhere l r.count r.left.now r.right.now d.strategy e.0 B t c (omega (arith, g))

module _ (W : World) (sub : Standing) (whole : Answer) (S : State) (s1 : ResolvedStrategy)
    (s2 s3 : Bor ResolvedStrategy) (n : ℕ) (p : Standing) (r : Rule) (k : IsRule W.bodies S.scopes s1 n r) where
  -- the scope with the variables, and the cells
  abbrev inner : Scope
  inner = with_variables (scope_from S.scopes r.outer) (length S.cells.bindings) r.count

  abbrev wide : Bindings
  wide = S.cells.bindings ++ replicate r.count None

  abbrev cuts : Answer → Answer
  cuts a = cut (length S.cells.bindings) a

  abbrev here : ResolvedStrategy
  here = guard s1 s2.now s3.now

  -- the answer of the match and the build, after b steps for the match
  along : (c : ℕ) (a : Answer) → S.steps + 2 ≡ c + r.price → run W inner S.level
      (seq (matches r.left.now) (builds r.right.now)) c wide (standing_tree p) ≡ a
      → first W sub whole S s1 s2 s3 n p ≡ cuts a
  along c a e f = k.is W refl S.level S.steps c S.cells.bindings (standing_tree p) e ∙ ap cuts f

  pub or_few : S.steps < r.price → FormIn W sub whole S here n p → whole ≡ stopped spent
  or_few e h = first_stops W sub whole S s1 s2 s3 n p spent
      (k.spent W refl S.level S.steps S.cells.bindings (standing_tree p) e) h

  pub or_unmatched : (D : CellContents) (c : ℕ) → GoesBack S.cells D
      → S.steps ≡ c + r.price → match_pattern r.left.now (standing_tree p) (cells_in inner) wide ≡ None
      → FormIn W sub whole S here n p → HoldsIn W sub whole (celled (paid S c) D) (Begin s3 n p)
  or_unmatched D c g e m h = first_fails W sub whole S s1 s2 s3 n p D c g (along (c + 2) (failed c) (omega (arith, e))
      (unmatched W inner S.level r.left.now r.right.now wide (standing_tree p) (c + 2) c refl m)) h

  -- the match succeeded with these bindings
  module _ (C : Bindings) (m : match_pattern r.left.now (standing_tree p) (cells_in inner) wide ≡ Some C) where
    pub or_matched_few : S.steps ≡ r.price → FormIn W sub whole S here n p → whole ≡ stopped spent
    or_matched_few e h = first_stops W sub whole S s1 s2 s3 n p spent (along 2 (stopped spent) (omega (arith, e))
        (matched_few W inner S.level r.left.now r.right.now wide (standing_tree p) 2 0 C refl m refl)) h

    builds_it : (c : ℕ) → S.steps ≡ c + 1 + r.price → first W sub whole S s1 s2 s3 n p
        ≡ cuts (built W.room (build_pattern r.right.now (cells_in inner) C) S.level c (λ u. done u C c (at_root u)))
    builds_it c e = along
        (c + 3) (built W.room (build_pattern r.right.now (cells_in inner) C) S.level c (λ u. done u C c (at_root u)))
        (omega (arith, e)) (builds_one W inner S.level r.left.now r.right.now wide (standing_tree p) (c + 3) c C refl m)

    pub or_unbuilt : (D : CellContents) (c : ℕ) → GoesBack S.cells D
        → S.steps ≡ c + 1 + r.price → build_pattern r.right.now (cells_in inner) C ≡ None
        → FormIn W sub whole S here n p → HoldsIn W sub whole (celled (paid S c) D) (Begin s3 n p)
    or_unbuilt D c g e o h = first_fails W sub whole S s1 s2 s3 n p D c g
        (builds_it c e ∙ ap cuts (unbuilt_is W.room S.level c _ (λ u. done u C c (at_root u)) o)) h

    pub or_big : (c : ℕ) (u : Tree) → S.steps ≡ c + 1 + r.price → build_pattern r.right.now (cells_in inner) C ≡ Some u
        → fits W.room S.level u ≡ false
        → FormIn W sub whole S here n p → whole ≡ stopped big
    or_big c u e o f h = first_stops W sub whole S s1 s2 s3 n p big
        (builds_it c e ∙ ap cuts (big_is W.room S.level c u _ (λ v. done v C c (at_root v)) o f)) h

    pub or_built : (D : CellContents) (c : ℕ) (u : Tree) (v : Standing) (trail : Trail)
        → Before (mark_of S.cells) (mark_of D) → Stays (mark_of S.cells) S.cells D
        → D.bindings ≡ take (length S.cells.bindings) C → S.steps ≡ c + 1 + r.price
        → build_pattern r.right.now (cells_in inner) C ≡ Some u → fits W.room S.level u ≡ true → v ≡ fresh u
        → ((T : Edits) → Shows S.trail T → Shows trail (T ++ record { path = path_of S.frames; new = u } ∷ []))
        → FormIn W sub whole S here n p
        → HoldsIn W sub whole
        (record { cells = D; scopes = S.scopes; trail = trail; level = S.level; frames = S.frames; steps = c })
        (Begin s2 n v)
    or_built D c u v trail b st d e o f is sh h =
        first_done W sub whole S s1 s2 s3 n p D c u v trail b st
        (builds_it c e ∙ ap cuts (built_is W.room S.level c u _ (λ w. done w C c (at_root w)) o f)
        ∙ ap (λ (x : Bindings). done u x c (at_root u)) (sym d)) is sh h
