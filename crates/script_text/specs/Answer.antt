-- How one command of a run is answered.
use Rattle.std.specs.Prelude.{◌≡◌, ◌⊎◌, ℕ, Bool, true, false, List, Err, is_ok}
use Rattle.session_history.specs.Applying.{Meaning}
use Rattle.session_history.specs.History.{History}
use Rattle.session_modules.specs.declared.refusal.Refusal.{Refusal}
use Rattle.session_modules.specs.declared.refusal.Refusal.TheVariants.{Memory, Check}
use Rattle.script_text.specs.Form.{takes_no_memory}
use Rattle.script_text.specs.Replies.{Reply, Replying, ReplyTo, history_after, written, line, refused}
use Rattle.script_text.specs.Handed.{Handed, text, long}

-- whether the command is of a form that takes no memory
abbrev pub takes_none : Handed → Bool
takes_none (text command) = takes_no_memory command
takes_none long = true

-- The reply to a command in a run. If the flag says that memory couldn't grow, it is `refused 1
-- memory`; a command that takes no memory never has the flag.
abbrev pub ReplyInRun : Meaning → ℕ → Handed → Bool → History → Reply → Type 0
ReplyInRun meaning budget command false h reply = ReplyTo meaning budget command h reply
ReplyInRun meaning budget command true h reply = (takes_none command ≡ false) × (reply ≡ Err Memory)

-- A command is answered.
pub record Answered (Rule : Replying) (command : Handed) (old new : History) (answer : List ℕ) (verdict : Bool)
    : Type 0 where
  pub flag : Bool
  pub reply : Reply
  pub replied : Rule command flag old reply
  pub history : new ≡ history_after old reply
  pub written : answer ≡ written reply
  pub accepted : verdict ≡ is_ok reply

-- ---- refusals

-- Whether a refusal reports a fault of the checker. The name in it may be so long that it takes
-- memory to write it.
abbrev pub is_fault : Refusal → Bool
is_fault (Check kind name n m) = true
is_fault refusal = false

-- The answer is a refusal: its line or, if there is no memory for the name of a fault, the refusal for
-- memory.
abbrev pub TellsRefusal : List ℕ → Refusal → Type 0
TellsRefusal answer refusal =
    (answer ≡ line (refused refusal)) ⊎ ((is_fault refusal ≡ true) × (answer ≡ line (refused Memory)))
