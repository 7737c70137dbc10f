-- What applying a strategy would change, without changing it.
use Rattle.std.specs.Prelude.{◌≡◌, ℕ, ◌-◌, List, ◌++◌, length, Some, Ok, Err}
use Rattle.std.specs.List.{AllZip}
use Rattle.std.specs.declared.result.Result.{Result}
use Rattle.term_core.specs.Tree.{Tree}
use Rattle.term_paths.specs.Paths.{at}
use Rattle.term_paths.specs.Edits.{Edit, Edits}
use Rattle.strategy_syntax.specs.declared.resolved.Resolved.{Resolved}
use Rattle.strategy_check.specs.Programs.{Program}
use Rattle.strategy_meaning.specs.Answer.{Answer, done, failed, stopped}
use Rattle.strategy_meaning.specs.Meaning.{run_whole}
use Rattle.strategy_meaning.specs.Outermost.{AreOutermost}
use Rattle.session_history.specs.Applying.{Meaning, world_in, stopped_as}
use Rattle.session_history.specs.History.{History}
use Rattle.session_history.specs.Acts.{Located, Resolving}
use Rattle.session_modules.specs.declared.refusal.Refusal.{Refusal}
use Rattle.session_modules.specs.declared.refusal.Refusal.TheVariants.{Fails}

-- a path in a tree, the subterm there, and the one that would be there
pub record Replacement : Type 0 where
  pub path : List ℕ
  pub old : Tree
  pub new : Tree

-- what would be replaced, and how many steps the strategy took
pub record Preview : Type 0 where
  pub replacements : List Replacement
  pub steps : ℕ

-- It is the replacement at the place of an edit, in the subterm at the path: what is there before
-- the run and after it.
abbrev pub IsShown : List ℕ → Tree → Tree → Edit → Replacement → Type 0
IsShown path before after x r =
    (r.path ≡ path ++ x.path) × (at before x.path ≡ Some r.old) × (at after x.path ≡ Some r.new)

-- What a run of b steps on the subterm at the path leads to: the outermost places of its edits, in their
-- order.
abbrev pub Foresees : List ℕ → ℕ → Tree → Answer → Result Preview Refusal → Type 0
Foresees path b before (done after bindings left edits) outcome =
    (places : Edits) × (shown : List Replacement) × AreOutermost places edits
    × AllZip (IsShown path before after) places shown
    × (outcome ≡ Ok (record { replacements = shown; steps = b - left }))
Foresees path b before (failed left) outcome = outcome ≡ Err Fails
Foresees path b before (stopped why) outcome = outcome ≡ Err (stopped_as why)

abbrev pub ForeseesAt : Meaning → List ℕ → ℕ → History → Located → Program → Resolved → Result Preview Refusal → Type 0
ForeseesAt meaning path b h place program strategy =
    Foresees path b place.part
    (run_whole (world_in meaning program h.primitives h.limits.max_terms) (length path) strategy b place.part)

-- What applying a strategy, given as text, to the subterm at a path of a label's tree would replace,
-- or the refusal. Its tests are those of `apply`.
abbrev pub Previews : Meaning → List ℕ → List ℕ → ℕ → List ℕ → History → Result Preview Refusal → Type 0
Previews meaning name path b text h = Resolving name path text h (ForeseesAt meaning path b h)
