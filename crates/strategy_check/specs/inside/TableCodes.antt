-- How the logic stores the keys of definitions: as their fields.
use Rattle.std.specs.Prelude.{ℕ, refl}
use Rattle.std.specs.Coded.{Coded, code_by, coded×, coded_ℕ}
use Rattle.term_core.specs.Tree.{Symbol}
use Rattle.term_core.specs.inside.TreeCode.{symbol_code}
use Rattle.strategy_check.specs.Tables.{DefinitionKey}

abbrev pub key_code : Coded DefinitionKey
key_code =
    code_by (Symbol × (ℕ × ℕ)) (coded× symbol_code (coded× coded_ℕ coded_ℕ))
    (λ s. (s.name, (s.strategies, s.terms)))
    (λ p. record { name = p.0; strategies = p.1.0; terms = p.1.1 }) (λ _. refl)
