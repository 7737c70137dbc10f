-- How the logic stores standings: as their fields.
use Rattle.std.specs.Prelude.{◌≡◌, ℕ, ◌==◌, cond, refl}
use Rattle.std.specs.Coded.{Coded, code_by, coded×, coded_ℕ}
use Rattle.term_core.specs.Tree.{Tree}
use Rattle.term_core.specs.inside.TreeCode.{tree_code}
use Rattle.term_changes.specs.Change.{Changes, no_more}
use Rattle.term_changes.specs.inside.ChangeCode.{changes_code}
use Rattle.term_changes.specs.Standing.{Altered, Standing, unchanged, altered, fresh}

abbrev pub altered_code : Coded Altered
altered_code =
    code_by (Tree × Changes) (coded× tree_code changes_code) (λ a. (a.before, a.changes))
    (λ p. record { before = p.0; changes = p.1 }) (λ _. refl)

abbrev standing_parts : Standing → ℕ × Altered
standing_parts (unchanged t) = (0, record { before = t; changes = no_more })
standing_parts (altered a) = (1, a)
standing_parts (fresh t) = (2, record { before = t; changes = no_more })

abbrev parts_standing : ℕ × Altered → Standing
parts_standing p = cond (p.0 == 0) (unchanged p.1.before) (cond (p.0 == 1) (altered p.1) (fresh p.1.before))

pub parts_standing-standing_parts : (s : Standing) → parts_standing (standing_parts s) ≡ s
parts_standing-standing_parts (unchanged t) = refl
parts_standing-standing_parts (altered a) = refl
parts_standing-standing_parts (fresh t) = refl

abbrev pub standing_code : Coded Standing
standing_code =
    code_by (ℕ × Altered) (coded× coded_ℕ altered_code) standing_parts parts_standing
    parts_standing-standing_parts
