-- A declaration that is all of some tokens, by the grammar and as the functions find it.
use Rattle.std.proofs.Common.{◌≡◌, refl, sym, ap, ◌∙◌, List, [], ◌∷◌, Some, None}
use Rattle.strategy_syntax.specs.Modules as syntax
use Rattle.strategy_tokens.specs.declared.token.Token.{Token}
use Rattle.strategy_parse.specs.Gives.{GivesDeclaration}
use Rattle.strategy_parse.specs.declared.modules.declarations.Declared.{Declared}
use Rattle.strategy_parse.specs.inside.ModuleFronts.{DeclaredLeft, declaration_at, module_with}
use Rattle.strategy_parse.proofs.DeclarationLemmas.{DeclarationEnds, DeclarationFound, core_declared, declares, declaration_named, declaration_found}

alone : DeclarationEnds []
alone = record { round = refl; star = refl; arrow = refl }

abbrev left_after : List Token → Declared → DeclaredLeft
left_after y d = Some (d, y)

abbrev constructors_of : Declared → List syntax.Constructor
constructors_of d = (module_with d).constructors

given : (x : List Token) (c : syntax.Constructor) (g : GivesDeclaration x c)
    → declaration_at x ≡ left_after [] (core_declared g.0)
given x c g = declaration_named g.0 x [] g.1 alone

pub declared_alone : (x y : List Token) (d : Declared) (c : syntax.Constructor) → declaration_at x ≡ left_after y d
    → constructors_of d ≡ c ∷ [] → y ≡ [] → GivesDeclaration x c
declared_alone x y d c e is end =
    let f : DeclarationFound x d [] = declaration_found x d [] (e ∙ ap (λ l. left_after l d) end) in (
      f.declaration,
      f.reads,
      ap (λ (m : syntax.Module). m.constructors) (sym (declares f.declaration)) ∙ ap constructors_of f.is ∙ is,
    )

pub alone_declared : (x y : List Token) (d : Declared) (c : syntax.Constructor) → declaration_at x ≡ left_after y d
    → GivesDeclaration x c → (constructors_of d ≡ c ∷ []) × (y ≡ [])
alone_declared x y d c e g =
    let same : left_after y d ≡ left_after [] (core_declared g.0) = sym e ∙ given x c g in
    let pair : ◌≡◌ {A = Declared × List Token} (d, y) (core_declared g.0, []) = cc in (
      ap (λ (p : Declared × List Token). constructors_of p.0) pair
          ∙ ap (λ (m : syntax.Module). m.constructors) (declares g.0) ∙ g.2,
      ap (λ (p : Declared × List Token). p.1) pair,
    )

pub nothing_declared : (x : List Token) (c : syntax.Constructor) → declaration_at x ≡ None → GivesDeclaration x c → ⊥
nothing_declared x c e g =
    let same : left_after [] (core_declared g.0) ≡ None = sym (given x c g) ∙ e in
    absurd (cc)
