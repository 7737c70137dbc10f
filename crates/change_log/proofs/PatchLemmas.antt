-- Patches have no module texts.
use Rattle.std.proofs.Common.{◌≡◌, ℕ, false, [], ◌∷◌, refl, sym, ap, arith}
use Rattle.std.specs.Prelude.{nat_lt}
use Rattle.term_paths.specs.Edits.{Edits}
use Rattle.term_changes.specs.Entries.{texts, has_text}
use Rattle.term_changes.specs.Putting.{entries_at}

no_texts : (slot : ℕ) (e : Edits) → texts (entries_at slot e) ≡ 0
no_texts slot [] = refl
no_texts slot (x ∷ e) = omega (arith, no_texts slot e)

pub no_text : (slot : ℕ) (e : Edits) → false ≡ has_text (entries_at slot e)
no_text slot e = sym (ap (nat_lt 0) (no_texts slot e))
