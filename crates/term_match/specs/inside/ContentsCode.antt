-- How the logic stores the contents of cells: as their fields.
use Rattle.std.specs.Prelude.{ℕ, List, refl}
use Rattle.std.specs.Coded.{Coded, code_by, coded×, coded_ℕ, coded_list, coded_option}
use Rattle.term_core.specs.inside.TreeCode.{tree_code}
use Rattle.strategy_meaning.specs.Matching.{Bindings}
use Rattle.term_match.specs.CellContents.{CellContents}

abbrev pub contents_code : Coded CellContents
contents_code =
    code_by (Bindings × List ℕ) (coded× (coded_list (coded_option tree_code)) (coded_list coded_ℕ))
    (λ c. (c.bindings, c.filled)) (λ p. record { bindings = p.0; filled = p.1 }) (λ _. refl)
