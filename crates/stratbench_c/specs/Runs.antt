-- What a script does to what lies at a handle.
use Rattle.std.specs.Prelude.{◌≡◌, ◌<◌, ◌≤◌, ◌⊎◌, ℕ, ◌+◌, Bool, true, false, is_some, if◌then◌else◌, List, [], ◌∷◌, ◌++◌, Some, None, IfSome, length, drop, count_by, is_err}
use Rattle.std.specs.declared.option.Option.{Option}
use Rattle.prim_extended.specs.Extended.{extended}
use Rattle.prim_extended.specs.ExtendedTable.{extended_signatures}
use Rattle.session_history.specs.Budget.{IsBudget}
use Rattle.term_core.specs.declared.TheConstants.{MAX_ROOM}
use Rattle.session_history.specs.declared.TheConstants.{MAX_BUDGET, MOST_STEPS}
use Rattle.session_history.specs.declared.limits.Limits.{Limits}
use Rattle.session_history.specs.History.{History, empty_within, default_limits}
use Rattle.script_text.specs.declared.framing.Framing.{Framing}
use Rattle.script_text.specs.Handed.{Handed, handed}
use Rattle.script_text.specs.Replies.{Reply, Replying, written}
use Rattle.script_text.specs.Answer.{Answered, ReplyInRun}
use Rattle.script_text.specs.Run.{Replied, out}
use Rattle.stratbench_c.specs.declared.bench.Work.{Work}
use Rattle.stratbench_c.specs.declared.status.Status.{Status}
use Rattle.stratbench_c.specs.declared.status.Status.TheVariants.{Accepted, Refused, Cut, NoMemory, Stopped}
use Rattle.stratbench_c.specs.declared.stopping.Stopper.{Stopper}
use Rattle.stratbench_c.specs.declared.status.TheConstants.{NO_BUDGET, NO_LIMITS}
use Rattle.stratbench_c.specs.Status.{code_of}

-- One more command is answered, after the others.
pub record Adds (Rule : Replying) (command : Handed) (h g : History) (old new : List ℕ) (accepted : Bool) : Type 0 where
  pub answer : List ℕ
  pub answered : Answered Rule command h g answer accepted
  pub added : new ≡ old ++ answer

-- all but what the runs of the session heed
abbrev pub IsUntouched : Work → Work → Type 0
IsUntouched old new =
    (new.session ≡ old.session) × (new.answers ≡ old.answers) × (new.ends ≡ old.ends) × (new.hints ≡ old.hints)

-- where the answers end that are written to these replies, one after the other from this place on
abbrev pub ends_from : ℕ → List Reply → List ℕ
ends_from at [] = []
ends_from at (reply ∷ replies) = let end = at + length (written reply) in end ∷ ends_from end replies

-- The commands are answered, this many of them by a refusal. These are all answers, one after the
-- other, and where each of them ends.
pub record AnswersAll (Rule : Replying) (commands : List Handed) (h g : History) (answers ends : List ℕ)
    (refused : ℕ) : Type 0 where
  pub flags : List Bool
  pub replies : List Reply
  pub replied : Replied false Rule commands flags h replies g
  pub written : answers ≡ out replies
  pub ended : ends ≡ ends_from 0 replies
  pub counted : refused ≡ count_by is_err replies

-- The first of the commands are answered, and these are all answers to them and their ends. Of the
-- others there is at least one, and none is run.
pub record AnswersSome (Rule : Replying) (commands : List Handed) (h g : History) (answers ends : List ℕ) : Type 0 where
  pub first : List Handed
  pub others : List Handed
  pub all : commands ≡ first ++ others
  pub some : 0 < length others
  pub refused : ℕ
  pub answered : AnswersAll Rule first h g answers ends refused

-- What a script does to a session and its answers, by its status. The budget is that of commands that
-- name none. Only a session that has a stopper may be stopped, and no call but that for a stopper gives it one.
abbrev pub Ran : Framing → ℕ → List ℕ → Status → Work → Work → Type 0
Ran framing steps script Accepted old new =
    AnswersAll (ReplyInRun extended steps) (handed framing script) old.session new.session new.answers new.ends.items 0
Ran framing steps script Refused old new =
    (refused : ℕ) × (0 < refused)
    × AnswersAll (ReplyInRun extended steps) (handed framing script) old.session new.session new.answers
    new.ends.items refused
Ran framing steps script Cut old new =
    AnswersSome (ReplyInRun extended steps) (handed framing script) old.session new.session new.answers new.ends.items
Ran framing steps script NoMemory old new =
    (new.session ≡ old.session) × (new.answers ≡ old.answers) × (new.ends ≡ old.ends)
Ran framing steps script Stopped old new =
    (is_some old.stop ≡ true)
    × AnswersSome (ReplyInRun extended steps) (handed framing script) old.session new.session new.answers new.ends.items

-- the same at a handle, where there may be no session
abbrev pub RanAt : Framing → ℕ → List ℕ → Status → Option Work → Option Work → Type 0
RanAt framing steps script status (Some old) (Some new) =
    Ran framing steps script status old new × (new.stop ≡ old.stop)
RanAt framing steps script status None None = status ≡ NoMemory
RanAt framing steps script status (Some old) None = ⊥
RanAt framing steps script status None (Some new) = ⊥

-- the greatest budget at a handle
abbrev pub most_steps : Option Work → ℕ
most_steps None = MAX_BUDGET
most_steps (Some work) = work.session.limits.max_steps

-- What a call does, by its number: nothing if the budget is out of range.
abbrev pub TellsRun : Framing → ℕ → List ℕ → ℕ → Option Work → Option Work → Type 0
TellsRun framing steps script code old new =
    ((code ≡ NO_BUDGET) × (IsBudget (most_steps old) steps → ⊥) × (new ≡ old))
    ⊎ (IsBudget (most_steps old) steps
    × ((status : Status) × (code ≡ code_of status) × RanAt framing steps script status old new))

-- a session without trees and modules that has these limits, and nothing was answered or said
abbrev pub IsNewWithin : Limits → Work → Type 0
IsNewWithin limits it =
    (it.session ≡ empty_within limits extended_signatures) × (it.answers ≡ []) × (it.ends.items ≡ []) × (it.hints ≡ [])

-- what lies at a new handle
abbrev pub IsNew : Option Work → Type 0
IsNew work = IfSome work (λ it. IsNewWithin default_limits it × (it.stop ≡ None))

-- ---- limits

-- The limits of a session with room for so many terms and such budgets; its modules may have 4,000 tokens.
abbrev pub limits_of : ℕ → ℕ → Limits
limits_of terms steps = record default_limits { max_terms = terms; max_steps = steps }

-- These are limits: at least those by default, and at most 1,000,000,000 terms and 4,000,000,000 steps.
abbrev pub AreLimits : Limits → Type 0
AreLimits limits =
    (default_limits.max_terms ≤ limits.max_terms) × (limits.max_terms ≤ MAX_ROOM)
    × (default_limits.max_steps ≤ limits.max_steps) × (limits.max_steps ≤ MOST_STEPS)

-- The session begins anew with these limits, with the stopper that it had; or all stays, for want of memory.
abbrev pub LimitedAt : Limits → Status → Option Work → Option Work → Type 0
LimitedAt limits Accepted (Some old) (Some new) = IsNewWithin limits new × (is_some new.stop ≡ is_some old.stop)
LimitedAt limits NoMemory old new = new ≡ old
LimitedAt limits status old new = ⊥

-- What a call does, by its number: nothing if these are no limits.
abbrev pub TellsLimited : Limits → ℕ → Option Work → Option Work → Type 0
TellsLimited limits code old new =
    ((code ≡ NO_LIMITS) × (AreLimits limits → ⊥) × (new ≡ old))
    ⊎ (AreLimits limits × ((status : Status) × (code ≡ code_of status) × LimitedAt limits status old new))

-- ---- stoppers

-- A stopper is made, which the session heeds; all else at the handle stays. Or there is none, for want of
-- memory, and all stays.
abbrev pub Makes : Bool → Option Work → Option Work → Type 0
Makes true (Some old) (Some new) = (is_some new.stop ≡ true) × IsUntouched old new
Makes true old new = ⊥
Makes false old new = new ≡ old

abbrev pub MakesStopper : Stopper → Option Work → Option Work → Type 0
MakesStopper made = Makes (is_some made.stop)

-- What asking for a stop does, by its number. That a run sees it is no matter of a clause.
abbrev pub TellsStop : ℕ → Stopper → Stopper → Type 0
TellsStop code old new = (code ≡ code_of (if is_some old.stop then Accepted else NoMemory)) × (new ≡ old)

-- the answers of the last call
abbrev pub answers_of : Option Work → List ℕ
answers_of None = []
answers_of (Some work) = work.answers

-- where the answers of the last script end
abbrev pub ends_of : Option Work → List ℕ
ends_of None = []
ends_of (Some work) = work.ends.items

-- what was said of the last call
abbrev pub hints_of : Option Work → List ℕ
hints_of None = []
hints_of (Some work) = work.hints

-- The session, its answers and its stopper stay.
abbrev pub ExplainedAt : Status → Option Work → Option Work → Type 0
ExplainedAt status (Some old) (Some new) =
    (status ≡ Accepted) × (new.session ≡ old.session) × (new.answers ≡ old.answers) × (new.ends ≡ old.ends)
    × (new.stop ≡ old.stop)
ExplainedAt status None None = status ≡ NoMemory
ExplainedAt status (Some old) None = ⊥
ExplainedAt status None (Some new) = ⊥

abbrev pub TellsExplained : ℕ → Option Work → Option Work → Type 0
TellsExplained code old new = (status : Status) × (code ≡ code_of status) × ExplainedAt status old new

-- This is the length of what is copied; it stands at the start of `out` if there is room for it, and
-- else `out` stays as it was.
abbrev pub AreCopied : List ℕ → List ℕ → List ℕ → ℕ → Type 0
AreCopied text old new result =
    (result ≡ length text)
    × (length text ≤ length old → new ≡ text ++ drop (length text) old)
    × (length old < length text → new ≡ old)
