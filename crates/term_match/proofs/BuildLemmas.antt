-- Building.
use Rattle.std.proofs.Common.{◌≡◌, ℕ, ◌+◌, ◌^◌, ◌<◌, List, [], ◌∷◌, length, suc, refl, sym, ap, ◌∙◌, arith, Some, None, option_map, IfSome, Vec, Global}
use Rattle.std.specs.declared.option.Option.{Option}
use Rattle.std.proofs.lemmas.Option.{none-some, same_Some, option_and_then_some}
use Rattle.term_core.specs.Tree.{Tree}
use Rattle.strategy_syntax.specs.Resolved.{ResolvedPattern, resolved_patterns_of}
use Rattle.strategy_meaning.specs.Matching.{Bindings, build_pattern, build_patterns}

mapped_some : {A B P : Type 0} (f : A → B) (o : Option A) (y : B) → option_map f o ≡ Some y
    → ((x : A) → o ≡ Some x → f x ≡ y → P) → P
mapped_some f None y e k = absurd (none-some y e)
mapped_some f (Some x) y e k = k x refl (same_Some (f x) y e)

-- as many instances as patterns
pub build_count : (ps : List ResolvedPattern) (E : List ℕ) (B : Bindings) (us : List Tree)
    → build_patterns (resolved_patterns_of ps) E B ≡ Some us → length us ≡ length ps
build_count [] E B us e = ap length (sym (same_Some [] us e))
build_count (p ∷ ps) E B us e =
    option_and_then_some (λ u. option_map (λ vs. u ∷ vs) (build_patterns (resolved_patterns_of ps) E B))
    (build_pattern p E B) us e
    (λ u h f. mapped_some (λ vs. u ∷ vs) (build_patterns (resolved_patterns_of ps) E B) us f
    (λ vs g k. sym (ap length k) ∙ ap suc (build_count ps E B vs g)))

pub front_room : (ps : List ResolvedPattern) (E : List ℕ) (B : Bindings) (o : Option (Vec Tree Global)) (n : ℕ)
    → option_map (λ v. v.items) o ≡ build_patterns (resolved_patterns_of ps) E B → length ps + n < 2 ^ 64
    → IfSome o (λ us. length us.items + n < 2 ^ 64)
front_room ps E B None n e h = tt
front_room ps E B (Some v) n e h = omega (arith, build_count ps E B v.items (sym e), h)
