-- What loading does to what lies at a handle.
use Rattle.std.specs.Prelude.{◌≡◌, ◌⊎◌, ℕ, List, [], Some, None, Ok, Err, MatchOption}
use Rattle.std.specs.FinMap as finmap
use Rattle.std.specs.declared.option.Option.{Option}
use Rattle.std.specs.declared.result.Result.{Result}
use Rattle.term_core.specs.Word.{label_of}
use Rattle.aterm_text.specs.Printed.{print}
use Rattle.session_history.specs.History.{History}
use Rattle.session_history.specs.Acts.{ActResult, ComesTo, set_module}
use Rattle.session_modules.specs.declared.refusal.Refusal.{Refusal}
use Rattle.session_modules.specs.declared.refusal.Refusal.TheVariants.{Memory, Name, NoTree}
use Rattle.script_text.specs.Replies.{line}
use Rattle.script_text.specs.Answer.{TellsRefusal}
use Rattle.session_loading.specs.declared.library.TheConstants.{LIBRARY, LIBRARY_NAME}
use Rattle.stratbench_c.specs.declared.bench.Work.{Work}
use Rattle.stratbench_c.specs.declared.status.Status.{Status}
use Rattle.stratbench_c.specs.declared.status.Status.TheVariants.{Accepted, Refused, Cut, NoMemory, Stopped}
use Rattle.stratbench_c.specs.Status.{code_of}

-- what a text does under a name, at a history
abbrev pub Loading : Type 1
Loading = List ℕ → List ℕ → History → ActResult → Type 0

-- The same where the name is bytes: those that are no label are refused.
abbrev pub LoadsNamed : Loading → Loading
LoadsNamed Loads name text h outcome =
    MatchOption (label_of name) (outcome ≡ Err Name) (λ label. Loads label text h outcome)

-- An accepted load leaves no answers; a refused one leaves the session as it was, and the refusal is
-- the answer. Memory may be wanted.
abbrev pub Loaded : (ActResult → Type 0) → Status → Work → Work → Type 0
Loaded Comes Accepted old new = Comes (Ok new.session) × (new.answers ≡ [])
Loaded Comes Refused old new =
    (new.session ≡ old.session)
    × ((refusal : Refusal) × ((refusal ≡ Memory) ⊎ Comes (Err refusal)) × TellsRefusal new.answers refusal)
Loaded Comes Cut old new = ⊥
Loaded Comes NoMemory old new = ⊥
Loaded Comes Stopped old new = ⊥

-- the same at a handle, where there may be no session
abbrev pub LoadedAt : Loading → List ℕ → List ℕ → Status → Option Work → Option Work → Type 0
LoadedAt Loads name text status (Some old) (Some new) =
    Loaded (LoadsNamed Loads name text old.session) status old new × (new.ends.items ≡ []) × (new.stop ≡ old.stop)
LoadedAt Loads name text status None None = status ≡ NoMemory
LoadedAt Loads name text status (Some old) None = ⊥
LoadedAt Loads name text status None (Some new) = ⊥

-- what a call does, by its number
abbrev pub TellsLoad : Loading → List ℕ → List ℕ → ℕ → Option Work → Option Work → Type 0
TellsLoad Loads name text code old new =
    (status : Status) × (code ≡ code_of status) × LoadedAt Loads name text status old new

-- the module of this name is set to this very text
abbrev pub SetsModule : Loading
SetsModule name text = ComesTo (set_module name text)

-- The library is loaded, with its own name and text.
abbrev pub TellsLibrary : ℕ → Option Work → Option Work → Type 0
TellsLibrary = TellsLoad SetsModule LIBRARY_NAME.now LIBRARY.now

-- ---- trees as text

-- The text of the tree of this name, as a line.
abbrev pub Shows : List ℕ → History → Result (List ℕ) Refusal → Type 0
Shows name h outcome =
    MatchOption (label_of name) (outcome ≡ Err Name)
    (λ label.
    MatchOption (finmap.get h.now.trees label) (outcome ≡ Err NoTree) (λ tree. outcome ≡ Ok (line (print tree))))

-- A text is the answer; or a refusal is. Memory may be wanted.
abbrev pub Shown : (Result (List ℕ) Refusal → Type 0) → Status → List ℕ → Type 0
Shown Tells Accepted answer = Tells (Ok answer)
Shown Tells Refused answer =
    (refusal : Refusal) × ((refusal ≡ Memory) ⊎ Tells (Err refusal)) × TellsRefusal answer refusal
Shown Tells Cut answer = ⊥
Shown Tells NoMemory answer = ⊥
Shown Tells Stopped answer = ⊥

-- the same at a handle, where there may be no session
abbrev pub ShownAt : List ℕ → Status → Option Work → Option Work → Type 0
ShownAt name status (Some old) (Some new) =
    (new.session ≡ old.session) × Shown (Shows name old.session) status new.answers
    × (new.ends.items ≡ []) × (new.stop ≡ old.stop)
ShownAt name status None None = status ≡ NoMemory
ShownAt name status (Some old) None = ⊥
ShownAt name status None (Some new) = ⊥

abbrev pub TellsShown : List ℕ → ℕ → Option Work → Option Work → Type 0
TellsShown name code old new = (status : Status) × (code ≡ code_of status) × ShownAt name status old new
