-- How a run ends, by its answer.
use Rattle.std.specs.Prelude.{◌≡◌, ℕ}
use Rattle.term_core.specs.Tree.{Tree}
use Rattle.term_paths.specs.Edits.{Edits}
use Rattle.strategy_meaning.specs.Matching.{Bindings}
use Rattle.strategy_meaning.specs.Answer.{Answer, done, failed, stopped, spent, big}
use Rattle.strategy_run.specs.declared.ended.Ended.{Ended}
use Rattle.strategy_run.specs.declared.ended.Ended.TheVariants.{Done, Failed, Spent, Big}

-- The end agrees with this answer. What a success has to show is given.
abbrev pub EndsAs : {R : Type 0} → (R → Type 0) → Answer → Ended R → Type 0
EndsAs Succeeds whole (Done r) = Succeeds r
EndsAs Succeeds whole Failed = (b : ℕ) × (whole ≡ failed b)
EndsAs Succeeds whole Spent = whole ≡ stopped spent
EndsAs Succeeds whole Big = whole ≡ stopped big

-- The end agrees with this answer; of a success, only the term counts.
abbrev pub IsAnswered : Ended Tree → Answer → Type 0
IsAnswered ended whole = EndsAs (λ t. (B : Bindings) × (b : ℕ) × (e : Edits) × (whole ≡ done t B b e)) whole ended
