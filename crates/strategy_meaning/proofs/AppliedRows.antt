-- Applying strategies at paths, computed.
use Rattle.std.specs.Prelude.{◌≡◌, refl, ℕ, zero, suc, [], ◌∷◌, replicate}
use Rattle.term_core.specs.Tree.{Tree}
use Rattle.strategy_meaning.proofs.RowTerms.{edit, A, G, pattern, body}
use Rattle.term_core.specs.declared.TheConstants.{MAX_SIZE}
use Rattle.prim_core.specs.StandardTable.{standard_signatures}
use Rattle.prim_core.specs.Standard.{standard}
use Rattle.strategy_syntax.specs.Resolved.{ResolvedStrategy, id, fail, builds}
use Rattle.strategy_meaning.specs.Answer.{spent, big}
use Rattle.strategy_meaning.specs.Meaning.{World}
use Rattle.strategy_meaning.specs.Applied.{gives, fails, stops, applied}

abbrev to_GA : ResolvedStrategy
to_GA = builds (pattern 71 (pattern 65 [] ∷ []))

abbrev no_program : World
no_program = record { bodies = []; primitives = standard_signatures; meaning = standard; room = MAX_SIZE }

in_its_place : applied no_program (0 ∷ []) (body to_GA) 9 (G A) ≡ gives (G (G A)) (edit (0 ∷ []) (G A) ∷ [])
in_its_place = refl

nowhere : applied no_program (5 ∷ []) (body id) 9 (G A) ≡ fails
nowhere = refl

it_fails : applied no_program [] (body fail) 9 (G A) ≡ fails
it_fails = refl

it_is_spent : applied no_program [] (body id) 0 (G A) ≡ stops spent
it_is_spent = refl

-- G n times above A
abbrev nested : ℕ → Tree
nested zero = A
nested (suc n) = G (nested n)

-- `!G(A)` at level 999, where only a leaf fits
too_deep : applied no_program (replicate 999 0) (body to_GA) 9 (nested 999) ≡ stops big
too_deep = refl
