-- The modules in the contents of a session: parsing their texts, and what the checker finds in
-- them.
use Rattle.std.specs.Prelude.{◌≡◌, ◌<◌, ◌≤◌, ◌⊎◌, ℕ, List, [], ◌∷◌, length, Some, None, Ok, Err, IfSome, IsSomeAnd}
use Rattle.std.specs.declared.option.Option.{Option}
use Rattle.std.specs.declared.result.Result.{Result}
use Rattle.std.specs.FinMap as finmap
use Rattle.strategy_syntax.specs.Modules.{Module}
use Rattle.strategy_tokens.specs.declared.TheConstants.{MODULE_TOKENS}
use Rattle.strategy_tokens.specs.Items.{module_tokens}
use Rattle.strategy_tokens.specs.declared.token.Token.{Token}
use Rattle.strategy_tokens.specs.Tokens.{tokens}
use Rattle.strategy_parse.specs.Gives.{GivesModule}
use Rattle.strategy_check.specs.Tables.{Modules}
use Rattle.strategy_check.specs.Faults.{Fault, Primitives, faults, first}
use Rattle.strategy_check.specs.Programs.{Program, program}
use Rattle.term_changes.specs.Contents.{Named}
use Rattle.session_modules.specs.declared.refusal.Refusal.{Refusal}
use Rattle.session_modules.specs.declared.refusal.Refusal.TheVariants.{Memory, Deep, Syntax, Check}

-- module texts by their names
abbrev pub Texts : Type 0
Texts = Named (List ℕ)

-- What a text is read as, by a condition on what it gives. A text that has n of something, where at
-- most so many are allowed, is refused before it is read; one that gives nothing has a refusal of its
-- own.
abbrev pub ReadsWithin : {X : Type 0} → ℕ → ℕ → (X → Type 0) → Refusal → Result X Refusal → Type 0
ReadsWithin n most Gives none (Ok x) = (n ≤ most) × Gives x
ReadsWithin {X} n most Gives none (Err refusal) =
    ((refusal ≡ Deep) × (most < n)) ⊎ ((refusal ≡ none) × (n ≤ most) × ((x : X) → Gives x → ⊥))

-- What a text is parsed to, by a relation on its tokens, of which it may have so many.
abbrev pub ReadsBy : {X : Type 0} → (List Token → X → Type 0) → ℕ → List ℕ → Result X Refusal → Type 0
ReadsBy Gives most text = ReadsWithin (length (tokens text)) most (Gives (tokens text)) Syntax

-- the texts with this one under the name, or with none
abbrev pub changed_text : Texts → List ℕ → Option (List ℕ) → Texts
changed_text texts name None = finmap.remove texts name
changed_text texts name (Some text) = finmap.insert texts name text

-- what a module text is parsed to where modules may have so many tokens
abbrev pub ReadsAsModuleOf : ℕ → List ℕ → Result Module Refusal → Type 0
ReadsAsModuleOf most text = ReadsBy GivesModule (module_tokens most (tokens text)) text

-- what it is parsed to where they may have as many as any module
abbrev pub ReadsAsModule : List ℕ → Result Module Refusal → Type 0
ReadsAsModule = ReadsAsModuleOf MODULE_TOKENS

-- each text is a module of no more tokens
abbrev pub AreReadable : ℕ → Texts → Type 0
AreReadable most texts =
    (name : List ℕ) → IfSome (finmap.get texts name) (λ text. (m : Module) × ReadsAsModuleOf most text (Ok m))

-- The texts of these names are parsed to these modules, in order.
abbrev pub AreRead : Texts → List (List ℕ) → Modules → Type 0
AreRead texts [] [] = Unit {0}
AreRead texts (name ∷ names) (m ∷ ms) =
    (m.0 ≡ name) × IsSomeAnd (finmap.get texts name) (λ text. ReadsAsModule text (Ok m.1))
    × AreRead texts names ms
AreRead texts names ms = ⊥

-- These are the modules of all texts, in byte order of their names.
abbrev pub AreModules : Texts → Modules → Type 0
AreModules texts ms = AreRead texts (finmap.keys texts) ms

-- What the checker finds in the modules of these texts, with these primitives: the first fault, or
-- none.
pub record Finds (primitives : Primitives) (texts : Texts) (found : Option Fault) : Type 0 where
  pub modules : Modules
  pub are : AreModules texts modules
  pub fault : found ≡ first (faults modules primitives)

-- The program of these texts with these primitives: the checker finds no fault in their modules.
pub record GivesProgram (primitives : Primitives) (texts : Texts) (checked : Program) : Type 0 where
  pub modules : Modules
  pub are : AreModules texts modules
  pub faultless : faults modules primitives ≡ []
  pub given : checked ≡ program modules primitives

-- the refusal that reports a fault
abbrev pub refusal_of : Fault → Refusal
refusal_of fault = Check fault.kind fault.name fault.first fault.second

-- The refusal reports the fault that was found.
abbrev pub Reports : Option Fault → Refusal → Type 0
Reports found refusal = (fault : Fault) × (found ≡ Some fault) × (refusal ≡ refusal_of fault)

-- What the checker makes of the modules of these texts: their program, or the refusal that reports
-- the first fault.
abbrev pub Checks : Primitives → Texts → Result Program Refusal → Type 0
Checks primitives texts (Ok checked) = GivesProgram primitives texts checked
Checks primitives texts (Err refusal) =
    (fault : Fault) × Finds primitives texts (Some fault) × (refusal ≡ refusal_of fault)

-- ---- why modules are refused: for want of memory, for a text that is no module, or for a fault

-- one of the texts is no module, and this is why
abbrev pub IsUnread : Texts → Refusal → Type 0
IsUnread texts refusal =
    (name : List ℕ) × (text : List ℕ) × (finmap.get texts name ≡ Some text)
    × ReadsAsModule text (Err refusal)

abbrev pub AreRefused : Primitives → Texts → Refusal → Type 0
AreRefused primitives texts refusal =
    ((refusal ≡ Memory) ⊎ IsUnread texts refusal) ⊎ Checks primitives texts (Err refusal)
