-- What a session keeps.
use Rattle.std.specs.Prelude.{List}
use Rattle.prim_core.specs.Signature.{Signature}
use Rattle.term_changes.specs.Slots.{contents}
use Rattle.session_history.specs.History.{HasSoundContents}
use Rattle.session_modules.specs.Kept.{IsKept}
use Rattle.session_history.specs.Unfolded.{Logged, unfolded}
use Rattle.session_modules.specs.declared.cache.ModuleCache.{ModuleCache}

-- All contents are sound, and these modules are kept for the texts now.
pub record IsSession (ps : List Signature) (t : Logged) (k : ModuleCache) : Type 0 where
  pub sound : HasSoundContents (unfolded ps t)
  pub kept : IsKept ps (contents t.store).modules k
