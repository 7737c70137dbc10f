-- What a run does, whatever observes it.
use Rattle.std.specs.Prelude.{◌≡◌, ◌+◌, ℕ, List, Ok, Err, ⊤}
use Rattle.std.specs.declared.option.Option.{Option}
use Rattle.std.specs.declared.result.Result.{Result}
use Rattle.session_history.specs.History.{History}
use Rattle.script_core.specs.declared.running.TheConstants.{MAX_READS}
use Rattle.script_core.specs.declared.running.Summary.{Summary}
use Rattle.script_core.specs.declared.running.Settings.{Settings}
use Rattle.script_core.specs.declared.running.RunFault.{RunFault}
use Rattle.script_core.specs.declared.running.RunFault.TheVariants.{Read, Write, Turns, Memory}
use Rattle.script_text.specs.Replies.{Replying}
use Rattle.script_text.specs.Run.{Answers, AnswersPart, AnswersFirst}

-- the rule of a run by the budget of its settings
abbrev pub ByBudget : Type 1
ByBudget = ℕ → Replying

-- the ghost state of a reader and a writer, and how often they failed
pub record Streams : Type 0 where
  pub left : Option (List ℕ)
  pub held : Option (List ℕ)
  pub read_failures : ℕ
  pub write_failures : ℕ

abbrev pub streams : Option (List ℕ) → Option (List ℕ) → ℕ → ℕ → Streams
streams left held reads writes =
    record { left = left; held = held; read_failures = reads; write_failures = writes }

abbrev pub Calm : Streams → Streams → Type 0
Calm old new = (new.read_failures ≡ old.read_failures) × (new.write_failures ≡ old.write_failures)

-- What a whole run does, by how it ended. That it did nothing where it had no memory is said of the run
-- itself.
abbrev pub RunRight : ByBudget → Result Summary RunFault → Settings → History → History → Streams → Streams → Type 0
RunRight Rule (Ok summary) settings h g a b =
    Calm a b × Answers settings.framing settings.stop (Rule settings.steps) h g a.left b.left a.held b.held
    summary.accepted summary.refused
RunRight Rule (Err Read) settings h g a b =
    (b.read_failures ≡ a.read_failures + 1) × (b.write_failures ≡ a.write_failures)
    × AnswersPart settings.framing settings.stop (Rule settings.steps) h g a.left b.left a.held b.held 0
RunRight Rule (Err Turns) settings h g a b =
    Calm a b
    × AnswersPart settings.framing settings.stop (Rule settings.steps) h g a.left b.left a.held b.held MAX_READS
RunRight Rule (Err Write) settings h g a b =
    (b.write_failures ≡ a.write_failures + 1) × (b.read_failures ≡ a.read_failures)
    × AnswersFirst settings.framing settings.stop (Rule settings.steps) h g a.left b.left a.held b.held
RunRight Rule (Err Memory) settings h g a b = ⊤
