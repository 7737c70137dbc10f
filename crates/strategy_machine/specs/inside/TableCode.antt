-- How the logic stores tables of scopes.
use Rattle.std.specs.Prelude.{◌≡◌, ◌⊎◌, ℕ, refl}
use Rattle.std.specs.Coded.{Coded, code_by, coded_ℕ, coded×, coded⊎, coded_option}
use Rattle.std.specs.declared.option.Option.{Option}
use Rattle.strategy_syntax.specs.Resolved.{ResolvedStrategy}
use Rattle.strategy_syntax.specs.inside.ResolvedCodes.{resolved_code}
use Rattle.strategy_machine.specs.Table.{Addition, variables, name, Widening}
use Rattle.std.proofs.Common.{inl, inr}

abbrev split : Addition → (ℕ × ℕ) ⊎ (ResolvedStrategy × ℕ)
split (variables first n) = inl (first, n)
split (name s k) = inr (s, k)

abbrev join : (ℕ × ℕ) ⊎ (ResolvedStrategy × ℕ) → Addition
join (inl x) = variables x.0 x.1
join (inr x) = name x.0 x.1

pub join-split : (a : Addition) → join (split a) ≡ a
join-split (variables first n) = refl
join-split (name s k) = refl

abbrev addition_code : Coded Addition
addition_code =
    code_by ((ℕ × ℕ) ⊎ (ResolvedStrategy × ℕ)) (coded⊎ (coded× coded_ℕ coded_ℕ) (coded× resolved_code coded_ℕ)) split
    join join-split

abbrev pub widening_code : Coded Widening
widening_code =
    code_by (Option ℕ × Addition) (coded× (coded_option coded_ℕ) addition_code) (λ w. (w.outer, w.adds))
    (λ p. record { outer = p.0; adds = p.1 }) (λ _. refl)
