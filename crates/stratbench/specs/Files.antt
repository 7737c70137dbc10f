-- What loading the files of the command line does to a session.
use Rattle.std.specs.Prelude.{◌≡◌, ℕ, Bool, true, false, List, [], ◌∷◌, Ok}
use Rattle.command_line.specs.Line.{modules_of}
use Rattle.command_line.specs.declared.named.Named.{Named}
use Rattle.command_line.specs.declared.named.Load.{Load}
use Rattle.command_line.specs.declared.named.Load.TheVariants.{Module, Tree}
use Rattle.session_history.specs.History.{History}
use Rattle.session_history.specs.Acts.{ActResult, ComesTo, begin, commit}
use Rattle.session_loading.specs.Loading.{LoadsModule, LoadsTree}

-- A file of the command line is loaded with this text, as the module or the tree of its name.
abbrev pub Loads : Load → List ℕ → History → ActResult → Type 0
Loads (Module named) text h = LoadsModule named.name text h
Loads (Tree named) text h = LoadsTree named.name text h

-- with some text
abbrev pub LoadsFile : Load → History → History → Type 0
LoadsFile load h g = (text : List ℕ) × Loads load text h (Ok g)

-- These modules are set in their order: each at the history that the one before leaves.
abbrev pub SetsAll : List Named → History → History → Type 0
SetsAll [] h g = g ≡ h
SetsAll (named ∷ more) h g = (next : History) × LoadsFile (Module named) h next × SetsAll more next g

-- These modules are set in a group, at whose end they are checked together. So they are one step.
abbrev pub LoadsModules : List Named → History → History → Type 0
LoadsModules modules h g =
    (begun : History) × (whole : History) × ComesTo begin h (Ok begun) × SetsAll modules begun whole
    × ComesTo commit whole (Ok g)

-- The files that are left are loaded: each tree in its place, and all modules where the first of them
-- stands, if that wasn't before.
abbrev pub LoadsRest : List Named → Bool → List Load → History → History → Type 0
LoadsRest modules done [] h g = g ≡ h
LoadsRest modules done (Tree named ∷ loads) h g =
    (next : History) × LoadsFile (Tree named) h next × LoadsRest modules done loads next g
LoadsRest modules true (Module named ∷ loads) h g = LoadsRest modules true loads h g
LoadsRest modules false (Module named ∷ loads) h g =
    (next : History) × LoadsModules modules h next × LoadsRest modules true loads next g

-- All files of the command line are loaded.
abbrev pub LoadsAll : List Load → History → History → Type 0
LoadsAll loads = LoadsRest (modules_of loads) false loads
