-- The step that loads the library.
use Rattle.std.specs.Prelude.{List, Err}
use Rattle.prim_core.specs.Signature.{Signature}
use Rattle.session_modules.specs.declared.refusal.Refusal.{Refusal}
use Rattle.session_history.specs.declared.limits.Limits.{Limits}
use Rattle.session_history.specs.History.{empty_within}
use Rattle.session_history.specs.Acts.{Act, ComesTo, set_module}
use Rattle.session_loading.specs.declared.library.TheConstants.{LIBRARY, LIBRARY_NAME}

-- The module `library` is set to its text.
abbrev pub set_library : Act
set_library = set_module LIBRARY_NAME.now LIBRARY.now

-- A new session doesn't refuse the library, whatever its limits and primitives.
abbrev pub LibraryIsAccepted : Type 0
LibraryIsAccepted =
    (limits : Limits) (primitives : List Signature) (refusal : Refusal)
    → ComesTo set_library (empty_within limits primitives) (Err refusal) → ⊥
