-- Rules, done at once: the answers of their parts, and the end of their variables.
use Rattle.std.proofs.Common.{◌≡◌, ◌≤◌, ℕ, ◌+◌, zero, suc, List, [], ◌∷◌, ◌++◌, length, take, replicate, sym, ap, ◌∙◌, refl, arith, Some, None, true, false}
use Rattle.term_core.specs.Tree.{Tree}
use Rattle.term_core.specs.Size.{fits}
use Rattle.term_paths.specs.Edits.{Edits}
use Rattle.term_changes.specs.Standing.{Standing, fresh, standing_tree}
use Rattle.strategy_syntax.specs.Resolved.{ResolvedPattern, ResolvedStrategy, matches, builds, seq, scope}
use Rattle.strategy_meaning.specs.Scopes.{Scope, cells_in, with_variables}
use Rattle.strategy_meaning.specs.Matching.{Bindings, match_pattern, build_pattern}
use Rattle.strategy_meaning.specs.Answer.{Answer, done, failed, stopped, spent, big, and_then, at_root}
use Rattle.strategy_meaning.specs.Meaning.{World, run, form, built, cut}
use Rattle.strategy_machine.specs.Table.{scope_at}
use Rattle.term_match.specs.CellContents.{CellContents}
use Rattle.term_match.specs.Marks.{mark_of, Before, Stays}
use Rattle.strategy_machine.specs.Trails.{Shows, path_of}
use Rattle.strategy_machine.specs.Turns.{State, HoldsIn}
use Rattle.strategy_machine.specs.inside.Taking.{FormIn}
use Rattle.strategy_machine.specs.declared.trail.Trail.{Trail}
use Rattle.strategy_machine.specs.Hands.{Done, Failed}
use Rattle.strategy_machine.proofs.ScopeLemmas.{one_more_starts}
use Rattle.strategy_machine.proofs.ArgumentLemmas.{stays_on}
use Rattle.strategy_machine.proofs.OpenLemmas.{with_edits-none, opens_along, opens_kept, before_on}
use Rattle.strategy_machine.proofs.TakeLemmas.{run_step, some_is, none_is, built_is, big_is, unbuilt_is, take_stops, puts, celled, paid}

-- ---- the answers of the parts, in the scope with the variables

module _ (W : World) (E : Scope) (l : ℕ) (q r : ResolvedPattern) (B : Bindings) (t : Tree) where
  abbrev both : ResolvedStrategy
  both = seq (matches q) (builds r)

  pub few : (b : ℕ) → b ≤ 1 → run W E l both b B t ≡ stopped spent
  few zero e = refl
  few (suc zero) e = refl
  few (suc (suc b)) e = absurd (omega (arith, e))

  pub unmatched : (b c : ℕ) → b ≡ c + 2 → match_pattern q t (cells_in E) B ≡ None → run W E l both b B t ≡ failed c
  unmatched b c e m =
      run_step W E l both b (c + 1) B t (omega (arith, e))
      ∙ ap (λ (a : Answer). and_then a (run W E l (builds r)))
      (run_step W E l (matches q) (c + 1) c B t refl ∙ none_is _ c (λ B1. done t B1 c []) m)

  matched : (b c : ℕ) (D : Bindings) → b ≡ c + 2 → match_pattern q t (cells_in E) B ≡ Some D
      → run W E l both b B t ≡ run W E l (builds r) c D t
  matched b c D e m =
      run_step W E l both b (c + 1) B t (omega (arith, e))
      ∙ ap (λ (a : Answer). and_then a (run W E l (builds r)))
      (run_step W E l (matches q) (c + 1) c B t refl ∙ some_is _ D c (λ B1. done t B1 c []) m)
      ∙ with_edits-none (run W E l (builds r) c D t)

  pub matched_few : (b c : ℕ) (D : Bindings) → b ≡ c + 2 → match_pattern q t (cells_in E) B ≡ Some D
      → c ≡ 0 → run W E l both b B t ≡ stopped spent
  matched_few b c D e m z = matched b c D e m ∙ ap (λ (k : ℕ). run W E l (builds r) k D t) z

  pub builds_one : (b c : ℕ) (D : Bindings) → b ≡ c + 3 → match_pattern q t (cells_in E) B ≡ Some D
      → run W E l both b B t ≡ built W.room (build_pattern r (cells_in E) D) l c (λ u. done u D c (at_root u))
  builds_one b c D e m = matched b (c + 1) D (omega (arith, e)) m ∙ run_step W E l (builds r) (c + 1) c D t refl

-- ---- in a run

-- the scope with the variables, and the cells
abbrev pub widened : State → ℕ → ℕ → Scope
widened S n k = with_variables (scope_at S.scopes n) (length S.cells.bindings) k

abbrev pub more_cells : State → ℕ → Bindings
more_cells S k = S.cells.bindings ++ replicate k None

module _ (W : World) (sub : Standing) (whole : Answer) (S : State) (k : ℕ) (q r : ResolvedPattern) (n : ℕ)
    (p : Standing) where
  abbrev rule : ResolvedStrategy
  rule = scope k (seq (matches q) (builds r))

  abbrev cuts : Answer → Answer
  cuts a = cut (length S.cells.bindings) a

  pub rule_few : S.steps ≤ 1 → FormIn W sub whole S rule n p → whole ≡ stopped spent
  rule_few e h = take_stops W sub whole S rule n p spent
      (ap cuts (few W (widened S n k) S.level q r (more_cells S k) (standing_tree p) S.steps e)) h

  fails : (D : CellContents) (c : ℕ) → Before (mark_of S.cells) (mark_of D) → Stays (mark_of S.cells) S.cells D
      → form W (run W) (scope_at S.scopes n) S.level rule S.steps S.cells.bindings (standing_tree p) ≡ failed c
      → FormIn W sub whole S rule n p → HoldsIn W sub whole (celled (paid S c) D) Failed
  fails D c b st e h = record {
    now = p;
    edits = h.edits;
    shows = h.shows;
    in_hand = tt;
    opens = opens_along _ _ e (opens_kept W sub whole S.cells D (mark_of S.cells) (mark_of D) S.scopes S.level S.frames
        (path_of S.frames) p h.edits _ b st h.opens);
  }

  pub rule_unmatched : (D : CellContents) (c : ℕ) → Before (mark_of S.cells) (mark_of D)
      → Stays (mark_of S.cells) S.cells D → S.steps ≡ c + 2
      → match_pattern q (standing_tree p) (cells_in (widened S n k)) (more_cells S k) ≡ None
      → FormIn W sub whole S rule n p → HoldsIn W sub whole (celled (paid S c) D) Failed
  rule_unmatched D c b st e m h = fails D c b st
      (ap cuts (unmatched W (widened S n k) S.level q r (more_cells S k) (standing_tree p) S.steps c e m)) h

  -- the match succeeded with these bindings
  module _ (C : Bindings)
      (m : match_pattern q (standing_tree p) (cells_in (widened S n k)) (more_cells S k) ≡ Some C) where
    pub rule_matched_few : S.steps ≡ 2 → FormIn W sub whole S rule n p → whole ≡ stopped spent
    rule_matched_few e h = take_stops W sub whole S rule n p spent
        (ap cuts (matched_few W (widened S n k) S.level q r (more_cells S k) (standing_tree p) S.steps 0 C e m refl)) h

    comes : (c : ℕ)
        → S.steps ≡ c + 3 → form W (run W) (scope_at S.scopes n) S.level rule S.steps S.cells.bindings (standing_tree p)
        ≡ cuts (built W.room (build_pattern r (cells_in (widened S n k)) C) S.level c (λ u. done u C c (at_root u)))
    comes c e = ap cuts (builds_one W (widened S n k) S.level q r (more_cells S k) (standing_tree p) S.steps c C e m)

    pub rule_unbuilt : (D : CellContents) (c : ℕ) → Before (mark_of S.cells) (mark_of D)
        → Stays (mark_of S.cells) S.cells D → S.steps ≡ c + 3
        → build_pattern r (cells_in (widened S n k)) C ≡ None
        → FormIn W sub whole S rule n p → HoldsIn W sub whole (celled (paid S c) D) Failed
    rule_unbuilt D c b st e o h =
        fails D c b st (comes c e ∙ ap cuts (unbuilt_is W.room S.level c _ (λ u. done u C c (at_root u)) o)) h

    pub rule_big : (c : ℕ) (u : Tree) → S.steps ≡ c + 3 → build_pattern r (cells_in (widened S n k)) C ≡ Some u
        → fits W.room S.level u ≡ false
        → FormIn W sub whole S rule n p → whole ≡ stopped big
    rule_big c u e o f h = take_stops W sub whole S rule n p big
        (comes c e ∙ ap cuts (big_is W.room S.level c u _ (λ v. done v C c (at_root v)) o f)) h

    pub rule_built : (D : CellContents) (c : ℕ) (u : Tree) (v : Standing) (trail : Trail)
        → Before (mark_of S.cells) (mark_of D) → Stays (mark_of S.cells) S.cells D
        → D.bindings ≡ take (length S.cells.bindings) C → S.steps ≡ c + 3
        → build_pattern r (cells_in (widened S n k)) C ≡ Some u → fits W.room S.level u ≡ true → v ≡ fresh u
        → ((T : Edits) → Shows S.trail T → Shows trail (T ++ record { path = path_of S.frames; new = u } ∷ []))
        → FormIn W sub whole S rule n p
        → HoldsIn W sub whole
        (record { cells = D; scopes = S.scopes; trail = trail; level = S.level; frames = S.frames; steps = c }) (Done v)
    rule_built D c u v trail b st de e o f is sh h =
        puts W sub whole (celled (paid S c) D) p v h.edits u trail is (sh h.edits h.shows)
        (opens_along _ _ (comes c e ∙ ap cuts (built_is W.room S.level c u _ (λ v. done v C c (at_root v)) o f)
        ∙ ap (λ (x : Bindings). done u x c (at_root u)) (sym de))
        (opens_kept W sub whole S.cells D (mark_of S.cells) (mark_of D) S.scopes S.level S.frames (path_of S.frames) p
        h.edits _ b st h.opens))

-- ---- cells and scopes that end

pub cells_end : (old wide mid new : CellContents) (n : ℕ) → n ≡ length old.bindings
    → Before (mark_of old) (mark_of wide) → Stays (mark_of old) old wide → Before (mark_of wide) (mark_of mid)
    → Stays (mark_of wide) wide mid
    → Before (record { count = n; filled = length mid.filled }) (mark_of new)
    → Stays (record { count = n; filled = length mid.filled }) mid new
    → Before (mark_of old) (mark_of new) × Stays (mark_of old) old new
cells_end old wide mid new n e b s c t d u =
    let low : Before (mark_of old) (record { count = n; filled = length mid.filled }) =
    (omega (arith, e), omega (arith, b.1, c.1)) in (
      before_on (mark_of old) (record { count = n; filled = length mid.filled }) (mark_of new) low d,
      λ m k. u m (before_on m (mark_of old) (record { count = n; filled = length mid.filled }) k low)
          ∙ stays_on old wide mid b s t m k,
    )

pub scopes_end : (old new last : List Scope) (E : Scope) (k : ℕ) → new ≡ old ++ E ∷ [] → k ≡ length old
    → last ≡ take k new → last ≡ old
scopes_end old new last E k is e c = c ∙ ap (λ (j : ℕ). take j new) e ∙ one_more_starts old new E is
