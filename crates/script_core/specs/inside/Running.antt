-- The progress of a run: what its parts do, from which the whole run follows.
use Rattle.std.specs.Prelude.{◌≡◌, ◌<◌, ◌≤◌, ◌+◌, ◌⊎◌, ℕ, Bool, true, false, List, [], ◌∷◌, ◌++◌, length, Some, Ok, Err}
use Rattle.std.specs.declared.option.Option.{Option}
use Rattle.std.specs.declared.result.Result.{Result}
use Rattle.std.specs.Io.KnownBytes.{Consumes, Keeps, IsAtEnd}
use Rattle.session_history.specs.History.{History}
use Rattle.script_core.specs.declared.running.Running.{Running}
use Rattle.script_core.specs.declared.running.RunFault.{RunFault}
use Rattle.script_core.specs.declared.running.RunFault.TheVariants.{Read, Write, Turns, Memory}
use Rattle.script_text.specs.declared.framing.Framing.{Framing}
use Rattle.script_text.specs.Handed.{Handed, handed, completed}
use Rattle.script_text.specs.Splitting.{StandsAfter}
use Rattle.script_text.specs.Split.{Split}
use Rattle.script_text.specs.FedRight.{GoesAfter}
use Rattle.script_text.specs.Run.{Completes, BreaksOff}
use Rattle.script_core.specs.Ran.{ByBudget, Streams, Calm}

-- A run that is to stop at a refusal goes on without one, and ends at one.
abbrev pub GoesOnBy : Bool → ℕ → Bool → Type 0
GoesOnBy stop n true = stop ≡ true → n ≡ 0
GoesOnBy stop n false = (stop ≡ true) × (0 < n)

-- The commands are answered and counted.
pub record Counts (Rule : ByBudget) (commands : List Handed) (old new : Running) (h g : History)
    (held held' : Option (List ℕ)) (goes_on : Bool) : Type 0 where
  pub yes : ℕ
  pub no : ℕ
  pub completes : Completes old.settings.stop (Rule old.settings.steps) commands h g held held' yes no
  pub accepted : new.summary.accepted ≡ old.summary.accepted + yes
  pub refused : new.summary.refused ≡ old.summary.refused + no
  pub total : yes + no ≤ length commands
  pub goes : GoesOnBy old.settings.stop no goes_on
  pub settings : new.settings ≡ old.settings

-- The next complete command is answered.
abbrev pub AnswersReady : ByBudget → Running → Running → History → History → Option (List ℕ)
    → Option (List ℕ) → Bool → Type 0
AnswersReady Rule old new h g held held' goes_on =
    (command : Handed) × (old.splitter.to_hand_out ≡ Some command)
    × Counts Rule (command ∷ []) old new h g held held' goes_on

-- All of these bytes but the rest are consumed, and the commands that they complete are answered.
pub record Underway (Rule : ByBudget) (old new : Running) (h g : History) (held held' : Option (List ℕ))
    (bytes rest : List ℕ) (goes_on : Bool) : Type 0 where
  pub taken : List ℕ
  pub all : bytes ≡ taken ++ rest
  pub commands : List Handed
  pub after : GoesAfter old.splitter new.splitter taken commands
  pub counts : Counts Rule commands old new h g held held' goes_on
  pub few : length commands ≤ length taken

-- All bytes are consumed if the run goes on.
abbrev pub AnswersBytes : ByBudget → Running → Running → History → History → Option (List ℕ)
    → Option (List ℕ) → List ℕ → Bool → Type 0
AnswersBytes Rule old new h g held held' bytes true = Underway Rule old new h g held held' bytes [] true
AnswersBytes Rule old new h g held held' bytes false =
    (rest : List ℕ) × Underway Rule old new h g held held' bytes rest false

-- After what came before, these are all commands of the script up to these bytes, or all that are
-- complete.
abbrev pub HandsAfter : (Framing → List ℕ → List Handed) → Split → List ℕ → List Handed → Type 0
HandsAfter which old bytes all =
    (framing : Framing) (x : List ℕ) (out : List Handed) → StandsAfter framing x out old.left
    → which framing (x ++ bytes) ≡ out ++ all

-- Answering these bytes fails partway.
pub record Breaks (Rule : ByBudget) (which : Framing → List ℕ → List Handed) (old : Running) (h g : History)
    (held held' : Option (List ℕ)) (bytes : List ℕ) : Type 0 where
  pub all : List Handed
  pub hands : HandsAfter which old.splitter bytes all
  pub breaks : BreaksOff old.settings.stop (Rule old.settings.steps) all h g held held'

-- The commands of these bytes are answered: all of them, or all that are complete.
pub record Ends (Rule : ByBudget) (which : Framing → List ℕ → List Handed) (old new : Running) (h g : History)
    (held held' : Option (List ℕ)) (bytes : List ℕ) (goes_on : Bool) : Type 0 where
  pub all : List Handed
  pub hands : HandsAfter which old.splitter bytes all
  pub counts : Counts Rule all old new h g held held' goes_on

-- One turn of a run: at most this many bytes are read and their commands answered, and the run goes
-- on; or it reaches the end, or stops at the refusal of a command that they complete, or fails.
abbrev pub TurnRight : ByBudget → Result Bool RunFault → Running → Running → History → History → Streams → Streams
    → ℕ → Type 0
TurnRight Rule (Ok true) old new h g a b most =
    Calm a b × ((bytes : List ℕ) × Consumes a.left b.left bytes
    × (0 < length bytes) × (length bytes ≤ most)
    × Underway Rule old new h g a.held b.held bytes [] true)
TurnRight Rule (Ok false) old new h g a b most =
    Calm a b × ((bytes : List ℕ) × Consumes a.left b.left bytes
    × ((goes_on : Bool) × Ends Rule handed old new h g a.held b.held bytes goes_on)
    × (IsAtEnd b.left ⊎ Ends Rule completed old new h g a.held b.held bytes false))
TurnRight Rule (Err Read) old new h g a b most =
    (b.read_failures ≡ a.read_failures + 1) × (b.write_failures ≡ a.write_failures)
    × Keeps a.left b.left × (g ≡ h) × Keeps a.held b.held
TurnRight Rule (Err Write) old new h g a b most =
    (b.write_failures ≡ a.write_failures + 1) × (b.read_failures ≡ a.read_failures)
    × ((bytes : List ℕ) × Consumes a.left b.left bytes
    × (Breaks Rule completed old h g a.held b.held bytes
    ⊎ (IsAtEnd b.left × Breaks Rule handed old h g a.held b.held bytes)))
TurnRight Rule (Err Turns) old new h g a b most = ⊥
TurnRight Rule (Err Memory) old new h g a b most = ⊥
