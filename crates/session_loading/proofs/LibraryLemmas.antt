-- A new session accepts the library.
use Rattle.std.proofs.Common.{◌≡◌, ◌≤◌, ℕ, List, [], ◌∷◌, Some, Ok, Err, refl, sym, subst, arith, length}
use Rattle.std.specs.FinMap as finmap
use Rattle.std.specs.FinMap.{get-empty}
use Rattle.std.specs.Cmp.Lexicographic.{slice_cmp}
use Rattle.std.specs.Ordering.{nat_cmp}
use Rattle.prim_core.specs.Signature.{Signature}
use Rattle.strategy_syntax.specs.Modules.{Module}
use Rattle.strategy_tokens.specs.Tokens.{tokens}
use Rattle.strategy_tokens.specs.declared.TheConstants.{MAX_TOKENS, MODULE_TOKENS}
use Rattle.strategy_tokens.specs.declared.token.Token.{Token}
use Rattle.strategy_parse.specs.Written.{Section}
use Rattle.strategy_parse.specs.GrammarModules.{ReadsModule}
use Rattle.strategy_parse.specs.Core.{core_module}
use Rattle.strategy_parse.specs.Laws.{OneModule, OneResult}
use Rattle.strategy_check.specs.Tables.{Modules}
use Rattle.strategy_check.specs.Faults.{Primitives}
use Rattle.strategy_check.specs.Programs.{program}
use Rattle.term_changes.specs.Contents.{no_contents, with_module as with_text}
use Rattle.session_modules.specs.Modules.{Texts, ReadsAsModuleOf, AreRead, AreModules, GivesProgram}
use Rattle.session_modules.proofs.MapLemmas.{no_keys}
use Rattle.session_modules.proofs.ReplacedLemmas.{are_given}
use Rattle.session_history.specs.declared.limits.Limits.{Limits}
use Rattle.session_history.specs.History.{History, empty_within, changed}
use Rattle.session_history.specs.Acts.{ComesTo}
use Rattle.script_text.proofs.LawLemmas.{ComesTo-one}
use Rattle.session_loading.specs.declared.library.TheConstants.{LIBRARY, LIBRARY_NAME}
use Rattle.session_loading.specs.Library.{set_library, LibraryIsAccepted}
use Rattle.session_modules.proofs.ReadingLemmas.{usual_tokens}
use Rattle.session_loading.proofs.ReadLemmas.{module_in, sections}

-- ---- its text is a module without a fault

abbrev library_tokens : List Token
library_tokens = tokens LIBRARY.now

abbrev library_sections : (ss : List Section) × ReadsModule ss library_tokens
library_sections = sections library_tokens (module_in 40 library_tokens) refl

abbrev library : Module
library = core_module library_sections.0

short : length library_tokens ≤ MAX_TOKENS
short = omega arith

library_reads : (most : ℕ) → ReadsAsModuleOf most LIBRARY.now (Ok library)
library_reads most = (usual_tokens most library_tokens short, (library_sections.0, library_sections.1, refl))

abbrev modules : Modules
modules = (LIBRARY_NAME.now, library) ∷ []

abbrev texts : Texts
texts = finmap.insert finmap.empty LIBRARY_NAME.now LIBRARY.now

are : AreModules texts modules
are = are_given finmap.empty LIBRARY_NAME.now (Some LIBRARY.now) [] modules none
    (library, library_reads MODULE_TOKENS, refl)
  where
    none : AreModules finmap.empty []
    none = subst (λ (names : List (List ℕ)). AreRead finmap.empty names [])
        (sym (no_keys finmap.empty (λ q. get-empty (slice_cmp nat_cmp) q))) tt

gives : (primitives : Primitives) → GivesProgram primitives texts (program modules primitives)
gives primitives = record { modules = modules; are = are; faultless = refl; given = refl }

-- ---- so a new session accepts it, and there is one outcome

abbrev loaded : Limits → List Signature → History
loaded limits primitives = changed (with_text no_contents LIBRARY_NAME.now LIBRARY.now) (empty_within limits primitives)

accepts : (limits : Limits) (primitives : List Signature)
    → ComesTo set_library (empty_within limits primitives) (Ok (loaded limits primitives))
accepts limits primitives =
    (Ok library, library_reads limits.max_tokens, (Ok (program modules primitives), gives primitives, refl))

pub is_accepted : OneModule → OneResult → LibraryIsAccepted
is_accepted one_module one_result limits primitives refusal refuses =
    let same : Ok (loaded limits primitives) ≡ Err refusal =
    ComesTo-one one_module one_result set_library (empty_within limits primitives) (Ok (loaded limits primitives))
    (Err refusal) (accepts limits primitives) refuses in
    absurd (cc)
