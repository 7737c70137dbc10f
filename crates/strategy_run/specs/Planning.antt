-- What a run on a term would replace in it.
use Rattle.std.specs.Prelude.{◌≡◌, ℕ, ◌-◌}
use Rattle.term_core.specs.Tree.{Tree}
use Rattle.term_paths.specs.Edits.{Edits, Replaces}
use Rattle.term_changes.specs.Change.{places}
use Rattle.strategy_meaning.specs.Matching.{Bindings}
use Rattle.strategy_meaning.specs.Answer.{Answer, done}
use Rattle.strategy_meaning.specs.Outermost.{AreOutermost}
use Rattle.strategy_run.specs.Ends.{EndsAs}
use Rattle.strategy_run.specs.declared.ended.Ended.{Ended}
use Rattle.strategy_run.specs.declared.planning.Planned.{Planned}

-- The run of b steps on t succeeds. These places are the outermost ones of its edits, and setting them
-- makes the resulting term. It took so many steps.
pub record Gives (t : Tree) (b : ℕ) (whole : Answer) (places : Edits) (taken : ℕ) : Type 0 where
  pub after : Tree
  pub bindings : Bindings
  pub left : ℕ
  pub edits : Edits
  pub is : whole ≡ done after bindings left edits
  pub outermost : AreOutermost places edits
  pub made : Replaces places t after
  pub took : taken ≡ b - left

-- what is planned for t
abbrev pub Plans : Tree → ℕ → Answer → Ended Planned → Type 0
Plans t b whole ended = EndsAs (λ p. Gives t b whole (places p.patch) p.taken) whole ended
