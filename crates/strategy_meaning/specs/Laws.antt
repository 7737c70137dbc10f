-- Laws about the meaning of strategies.
use Rattle.std.specs.Prelude.{◌≡◌, ◌≢◌, ◌≤◌, ◌↔◌, ℕ, suc, ◌+◌, [], IsTrue, List}
use Rattle.term_core.specs.Tree.{Head, Tree, annotations}
use Rattle.term_core.specs.Size.{height}
use Rattle.term_core.specs.declared.TheConstants.{MAX_HEIGHT}
use Rattle.term_paths.specs.Edits.{Edits, Replaces}
use Rattle.strategy_syntax.specs.Resolved.{ResolvedStrategy, ResolvedStrategies, id, fail, seq, guard, test, congruence, tail_congruence, all, one, some, child}
use Rattle.strategy_syntax.specs.declared.resolved.Resolved.{Resolved}
use Rattle.strategy_meaning.specs.Same.{same_tree}
use Rattle.strategy_meaning.specs.Scopes.{Scope}
use Rattle.strategy_meaning.specs.Matching.{Bindings}
use Rattle.strategy_meaning.specs.Answer.{Answer, done, failed, stopped, spent, big, IfDone}
use Rattle.strategy_meaning.specs.Meaning.{World, run, form}
use Rattle.strategy_meaning.specs.Applied.{stops, IfGiven, applied}

-- The test for equal terms is equality.
abbrev pub SameIsEqual : Type 0
SameIsEqual = (t u : Tree) → IsTrue (same_tree t u) ↔ (t ≡ u)

-- ---- steps

-- With a step left, the answer is the table's line for the form, over the answers of its parts.
abbrev pub OneStepIsOneForm : Type 0
OneStepIsOneForm = (W : World) (E : Scope) (l : ℕ) (s : ResolvedStrategy) (c : ℕ) (B : Bindings) (t : Tree)
    → run W E l s (suc c) B t ≡ form W (run W) E l s c B t

-- the answer with k more steps left
abbrev pub later : ℕ → Answer → Answer
later k (done t B b e) = done t B (b + k) e
later k (failed b) = failed (b + k)
later k (stopped why) = stopped why

-- A run that isn't spent gives the same answer with more steps, with that many more left.
abbrev pub MoreStepsGiveTheSame : Type 0
MoreStepsGiveTheSame = (W : World) (E : Scope) (l : ℕ) (s : ResolvedStrategy) (b : ℕ) (B : Bindings) (t : Tree) (k : ℕ)
    → run W E l s b B t ≢ stopped spent → run W E l s (b + k) B t ≡ later k (run W E l s b B t)

-- The same for a strategy applied at a path.
abbrev pub MoreStepsApplyTheSame : Type 0
MoreStepsApplyTheSame = (W : World) (p : List ℕ) (r : Resolved) (b : ℕ) (t : Tree) (k : ℕ)
    → applied W p r b t ≢ stops spent → applied W p r (b + k) t ≡ applied W p r b t

-- ---- room

-- the same with this room
abbrev pub in_room : ℕ → World → World
in_room room W = record W { room = room }

-- A run in which every built term fits gives the same answer with more room.
abbrev pub MoreRoomGivesTheSame : Type 0
MoreRoomGivesTheSame = (W : World) (E : Scope) (l : ℕ) (s : ResolvedStrategy) (b : ℕ) (B : Bindings) (t : Tree) (k : ℕ)
    → run W E l s b B t ≢ stopped big → run (in_room (W.room + k) W) E l s b B t ≡ run W E l s b B t

-- The same for a strategy applied at a path.
abbrev pub MoreRoomAppliesTheSame : Type 0
MoreRoomAppliesTheSame = (W : World) (p : List ℕ) (r : Resolved) (b : ℕ) (t : Tree) (k : ℕ)
    → applied W p r b t ≢ stops big → applied (in_room (W.room + k) W) p r b t ≡ applied W p r b t

-- ---- heights

-- If a term isn't too high at its level, neither is the result.
abbrev pub HeightsAreKept : Type 0
HeightsAreKept = (W : World) (E : Scope) (l : ℕ) (s : ResolvedStrategy) (b : ℕ) (B : Bindings) (t : Tree)
    → l + height t ≤ MAX_HEIGHT → IfDone (run W E l s b B t) (λ u B1 c e. l + height u ≤ MAX_HEIGHT)

-- So a tree in which a strategy is applied at a path doesn't become too high.
abbrev pub AppliedKeepsHeights : Type 0
AppliedKeepsHeights = (W : World) (p : List ℕ) (r : Resolved) (b : ℕ) (t : Tree)
    → height t ≤ MAX_HEIGHT → IfGiven (applied W p r b t) (λ u e. height u ≤ MAX_HEIGHT)

-- ---- edits

-- The edits of an answer lead from the term to the result. So without edits the result is the term
-- itself.
abbrev pub EditsReplace : Type 0
EditsReplace = (W : World) (E : Scope) (l : ℕ) (s : ResolvedStrategy) (b : ℕ) (B : Bindings) (t : Tree)
    → IfDone (run W E l s b B t) (λ u B1 c e. Replaces e t u)

abbrev pub AppliedEditsReplace : Type 0
AppliedEditsReplace = (W : World) (p : List ℕ) (r : Resolved) (b : ℕ) (t : Tree)
    → IfGiven (applied W p r b t) (λ u e. Replaces e t u)

abbrev pub NoEditsNoChange : Type 0
NoEditsNoChange = (W : World) (p : List ℕ) (r : Resolved) (b : ℕ) (t : Tree)
    → IfGiven (applied W p r b t) (λ u e. e ≡ [] → u ≡ t)

-- ---- what one reasons with about strategies

-- `id; s` takes two steps more than s.
abbrev pub IdFirst : Type 0
IdFirst = (W : World) (E : Scope) (l : ℕ) (s : ResolvedStrategy) (b : ℕ) (B : Bindings) (t : Tree)
    → run W E l (seq id s) (suc (suc b)) B t ≡ run W E l s b B t

-- `s; id` takes two steps more if s succeeds, and one if it fails.
abbrev pub IdLast : Type 0
IdLast = (W : World) (E : Scope) (l : ℕ) (s : ResolvedStrategy) (b : ℕ) (B : Bindings) (t : Tree)
    → ((u : Tree) (B1 : Bindings) (c : ℕ) (e : Edits) → run W E l s b B t ≡ done u B1 (suc c) e
    → run W E l (seq s id) (suc b) B t ≡ done u B1 c e)
    × ((c : ℕ) → run W E l s b B t ≡ failed c → run W E l (seq s id) (suc b) B t ≡ failed c)

-- `fail; s` fails.
abbrev pub FailFirst : Type 0
FailFirst = (W : World) (E : Scope) (l : ℕ) (s : ResolvedStrategy) (b : ℕ) (B : Bindings) (t : Tree)
    → run W E l (seq fail s) (suc (suc b)) B t ≡ failed b

-- If its first branch fails, a guard, and so a choice, is its last branch on the original term and
-- bindings, with the steps that are then left.
abbrev pub ChoiceGoesOn : Type 0
ChoiceGoesOn = (W : World) (E : Scope) (l : ℕ) (s1 s2 s3 : ResolvedStrategy) (b c : ℕ) (B : Bindings) (t : Tree)
    → run W E l s1 b B t ≡ failed c → run W E l (guard s1 s2 s3) (suc b) B t ≡ run W E l s3 c B t

-- `where(s)` leaves the term unchanged, without an edit.
abbrev pub WhereLeaves : Type 0
WhereLeaves = (W : World) (E : Scope) (l : ℕ) (s : ResolvedStrategy) (b : ℕ) (B : Bindings) (t : Tree)
    → IfDone (run W E l (test s) b B t) (λ u B1 c e. (u ≡ t) × (e ≡ []))

-- A strategy that keeps the annotations at the root of the term.
abbrev pub KeepsAnnotations : World → ResolvedStrategy → Type 0
KeepsAnnotations W s = (E : Scope) (l : ℕ) (b : ℕ) (B : Bindings) (t : Tree)
    → IfDone (run W E l s b B t) (λ u B1 c e. annotations u ≡ annotations t)

-- Congruences and traversals of children do.
abbrev pub TraversalsKeepAnnotations : Type 0
TraversalsKeepAnnotations = (W : World) (h : Head) (ss : ResolvedStrategies) (s : ResolvedStrategy) (n : ℕ)
    → KeepsAnnotations W (congruence h ss) × KeepsAnnotations W (tail_congruence ss s)
    × KeepsAnnotations W (all s) × KeepsAnnotations W (one s) × KeepsAnnotations W (some s)
    × KeepsAnnotations W (child n s)
