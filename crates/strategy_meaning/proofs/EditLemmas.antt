-- Edits lead from the old term to the result.
use Rattle.std.proofs.Common.{ℕ, refl}
use Rattle.term_core.specs.Tree.{Tree}
use Rattle.term_paths.specs.Edits.{Edits, Replaces}
use Rattle.term_paths.proofs.EditLemmas.{edits_after_edits, replaces-child}
use Rattle.strategy_meaning.specs.Laws.{EditsReplace}
use Rattle.strategy_meaning.proofs.Composes.{Composes, bounded-gives}

abbrev Replaced : ℕ → Tree → Tree → Edits → Type 0
Replaced l t u e = Replaces e t u

replaced : Composes Replaced
replaced = record {
  left = λ l t. refl;
  after = λ l t u v e f h g. edits_after_edits e f t u v h g;
  built = λ room l t u fit. (refl, refl);
  below = λ l t u v i e is h. replaces-child e i t u v is h;
  rest = λ l t u n us e h is. (refl, refl);
}

pub edits_replace : EditsReplace
edits_replace W E l s b B t = bounded-gives Replaced replaced W b E l s b B t
