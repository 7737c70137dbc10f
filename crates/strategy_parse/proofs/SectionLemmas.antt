-- What was read of a module and the rest stand for the same modules before and after each step.
use Rattle.std.proofs.Common.{◌≡◌, refl, sym, ap, ◌∙◌, subst, List, [], ◌∷◌, ◌++◌, Some, None, append-nil, length, arith}
use Rattle.std.specs.declared.option.Option.{Option}
use Rattle.strategy_syntax.specs.Modules.{Module, Definition}
use Rattle.strategy_tokens.specs.declared.token.Token.{Token}
use Rattle.strategy_tokens.specs.declared.token.Token.TheVariants.{Reserved}
use Rattle.strategy_tokens.specs.declared.token.Keyword.{Keyword}
use Rattle.strategy_parse.specs.declared.modules.sections.Context.{Context}
use Rattle.strategy_parse.specs.declared.modules.sections.Context.TheVariants.{Outside, Signature as InSignature, Sorts, Constructors, Definitions}
use Rattle.strategy_parse.specs.Written.{Defined}
use Rattle.strategy_parse.specs.GrammarModules.{ReadsDefined}
use Rattle.strategy_parse.specs.Core.{core_definition}
use Rattle.strategy_parse.specs.inside.Definitions.{DefinitionEnds, DefinitionGives}
use Rattle.strategy_parse.specs.declared.modules.declarations.Declared.{Declared}
use Rattle.strategy_parse.specs.inside.ModuleFronts.{sort_at, declaration_at, DeclaredLeft, module_with}
use Rattle.strategy_parse.specs.inside.Sections.{next_context, IsItem, nothing, joined, declaring_one, defining, SortsLeft, DeclarationsLeft, DefinitionsLeft, Left, SectionStands}
use Rattle.strategy_parse.proofs.SortLemmas.{sort_alone, sort_found}
use Rattle.strategy_parse.proofs.DeclarationLemmas.{core_declared, declaration_named, DeclarationFound, declaration_found, declares}
use Rattle.strategy_parse.proofs.SectionWords.{joined-joined, WordStep, word_step, word_back, some-is, left_end, left_nothing}
use Rattle.strategy_parse.proofs.SectionItems.{outside_item, signature_item, DefinitionStep, definition_step, definition_back, DeclarationStep, declaration_step, declaration_back, SortStep, sort_step, sort_back}

joined-nothing : (before : Module) → joined before nothing ≡ before
joined-nothing before = λ i. record {
  constructors = append-nil before.constructors i;
  declarations = append-nil before.declarations i;
  injections = append-nil before.injections i;
  definitions = append-nil before.definitions i;
}

-- ---- a word is read, or the text ends

module _ (p : Context) (before : Module) (m : Module) where
  pub word_forth : (w : Keyword) (q : Context) (x : List Token) → next_context p w ≡ Some q
      → SectionStands p before (Reserved w ∷ x) m → SectionStands q before x m
  word_forth w q x e s =
      let t : WordStep p w x s.after = word_step p w x s.after s.left in
      record {
        after = s.after;
        left = subst (λ r. Left r x s.after) (some-is t.context q (sym t.is ∙ e)) t.left;
        gives = s.gives;
      }

  pub word_after : (w : Keyword) (q : Context) (x : List Token) → next_context p w ≡ Some q → SectionStands q before x m
      → SectionStands p before (Reserved w ∷ x) m
  word_after w q x e s = record { after = s.after; left = word_back p w q x s.after e s.left; gives = s.gives }

  pub word_none : (w : Keyword) (x : List Token)
      → next_context p w ≡ None → SectionStands p before (Reserved w ∷ x) m → ⊥
  word_none w x e s =
      let t : WordStep p w x s.after = word_step p w x s.after s.left in
      let no : ◌≡◌ {A = Option Context} None (Some t.context) = sym e ∙ t.is in
      cc

  pub end_forth : SectionStands p before [] m → m ≡ before
  end_forth s = sym s.gives ∙ ap (joined before) (sym (left_end p s.after s.left)) ∙ joined-nothing before

  pub end_after : m ≡ before → SectionStands p before [] m
  end_after e = record { after = nothing; left = left_nothing p; gives = joined-nothing before ∙ sym e }

-- ---- an item is read

module _ (before : Module) (x : List Token) (m : Module) (item : IsItem x) where
  pub sort_forth : (y : List Token) → sort_at x ≡ Some y → SectionStands Sorts before x m
      → SectionStands Sorts before y m
  sort_forth y h s =
      let t : SortStep x s.after = sort_step x s.after s.left item in
      let same : ◌≡◌ {A = Option (List Token)} (Some t.rest) (Some y) =
      sym (sort_alone t.sort x t.rest t.reads t.ends.round t.ends.star) ∙ h in
      let rest : t.rest ≡ y = cc in
      record { after = s.after; left = subst (λ l. SortsLeft l s.after) rest t.left; gives = s.gives }

  pub sort_none : sort_at x ≡ None → SectionStands Sorts before x m → ⊥
  sort_none h s =
      let t : SortStep x s.after = sort_step x s.after s.left item in
      let no : ◌≡◌ {A = Option (List Token)} None (Some t.rest) = sym h
      ∙ sort_alone t.sort x t.rest t.reads t.ends.round t.ends.star in
      cc

  declared-same : (d e : Declared) (y z : List Token) → ◌≡◌ {A = DeclaredLeft} (Some (e, z)) (Some (d, y))
      → ◌≡◌ {A = Declared × List Token} (e, z) (d, y)
  declared-same d e y z h = cc

  pub declaration_forth : (d : Declared) (y : List Token) → declaration_at x ≡ Some (d, y)
      → SectionStands Constructors before x m → SectionStands Constructors (joined before (module_with d)) y m
  declaration_forth d y h s =
      let t : DeclarationStep x s.after = declaration_step x s.after s.left item in
      let pair : ◌≡◌ {A = Declared × List Token} (core_declared t.declaration, t.rest) (d, y) = declared-same d
      (core_declared t.declaration) y t.rest (sym (declaration_named t.declaration x t.rest t.reads t.ends) ∙ h) in
      record {
        after = t.after;
        left = subst (λ l. DeclarationsLeft l t.after) (ap (λ (q : Declared × List Token). q.1) pair) t.left;
        gives =
            ap (λ e. joined (joined before (module_with e)) t.after)
            (sym (ap (λ (q : Declared × List Token). q.0) pair))
            ∙ ap (λ e. joined (joined before e) t.after) (declares t.declaration)
            ∙ sym (joined-joined before (declaring_one t.declaration) t.after)
            ∙ ap (joined before) t.gives ∙ s.gives;
      }

  pub declaration_none : declaration_at x ≡ None → SectionStands Constructors before x m → ⊥
  declaration_none h s =
      let t : DeclarationStep x s.after = declaration_step x s.after s.left item in
      let no : ◌≡◌ {A = DeclaredLeft} None (Some (core_declared t.declaration, t.rest)) = sym h
      ∙ declaration_named t.declaration x t.rest t.reads t.ends in
      cc

  pub definition_forth : (d : Definition) (y : List Token)
      → ((w : Defined) (z : List Token) → ReadsDefined w x z → DefinitionEnds z → (core_definition w ≡ d) × (z ≡ y))
      → SectionStands Definitions before x m → SectionStands Definitions (joined before (defining (d ∷ []))) y m
  definition_forth d y only s =
      let t : DefinitionStep x s.after = definition_step x s.after s.left item in
      let same = only t.definition t.rest t.reads t.ends in
      record {
        after = t.after;
        left = subst (λ l. DefinitionsLeft l t.after) same.1 t.left;
        gives =
            ap (λ l. joined (joined before (defining (l ∷ []))) t.after) (sym same.0)
            ∙ sym (joined-joined before (defining (core_definition t.definition ∷ [])) t.after)
            ∙ ap (joined before) t.gives ∙ s.gives;
      }

  pub definition_none : ((w : Defined) (z : List Token) → ReadsDefined w x z → DefinitionEnds z → ⊥)
      → SectionStands Definitions before x m → ⊥
  definition_none none s =
      let t : DefinitionStep x s.after = definition_step x s.after s.left item in
      none t.definition t.rest t.reads t.ends

  pub no_outside : SectionStands Outside before x m → ⊥
  no_outside s = outside_item x s.after s.left item

  pub no_signature : SectionStands InSignature before x m → ⊥
  no_signature s = signature_item x s.after s.left item

module _ (before : Module) (x y : List Token) (m : Module) where
  pub sort_after : sort_at x ≡ Some y → SectionStands Sorts before y m → SectionStands Sorts before x m
  sort_after h s =
      let found = sort_found x y h in
      record { after = s.after; left = sort_back found.0 x y s.after found.1 s.left; gives = s.gives }

  pub declaration_after : (d : Declared) → declaration_at x ≡ Some (d, y)
      → SectionStands Constructors (joined before (module_with d)) y m → SectionStands Constructors before x m
  declaration_after d h s =
      let found : DeclarationFound x d y = declaration_found x d y h in
      record {
        after = joined (declaring_one found.declaration) s.after;
        left = declaration_back found.declaration x y s.after found.reads s.left;
        gives =
            joined-joined before (declaring_one found.declaration) s.after
            ∙ ap (λ e. joined (joined before e) s.after) (sym (declares found.declaration))
            ∙ ap (λ e. joined (joined before (module_with e)) s.after) found.is ∙ s.gives;
      }

  pub definition_after : (d : Definition) → DefinitionGives x d y
      → SectionStands Definitions (joined before (defining (d ∷ []))) y m → SectionStands Definitions before x m
  definition_after d g s = record {
    after = joined (defining (core_definition g.written ∷ [])) s.after;
    left = definition_back g.written x y s.after g.reads s.left;
    gives =
        joined-joined before (defining (core_definition g.written ∷ [])) s.after
        ∙ ap (λ l. joined (joined before (defining (l ∷ []))) s.after) g.is ∙ s.gives;
  }

-- ---- as the code has it

module _ (before now : Module) (x : List Token) (m : Module) (d : Declared) (y : List Token)
    (all : now ≡ joined before (module_with d)) (h : declaration_at x ≡ Some (d, y)) where
  pub declaration_taken : IsItem x → SectionStands Constructors before x m → SectionStands Constructors now y m
  declaration_taken i s =
      subst (λ l. SectionStands Constructors l y m) (sym all) (declaration_forth before x m i d y h s)

  pub declaration_given : SectionStands Constructors now y m → SectionStands Constructors before x m
  declaration_given s = declaration_after before x y m d h (subst (λ l. SectionStands Constructors l y m) all s)

module _ (before now : Module) (x : List Token) (m : Module) (d : Definition) (y : List Token)
    (all : now.definitions ≡ before.definitions ++ d ∷ [])
    (constructors : now.constructors ≡ before.constructors) (declarations : now.declarations ≡ before.declarations)
    (injections : now.injections ≡ before.injections) where
  with_definition : now ≡ joined before (defining (d ∷ []))
  with_definition = λ i. record {
    constructors = (constructors ∙ sym (append-nil before.constructors)) i;
    declarations = (declarations ∙ sym (append-nil before.declarations)) i;
    injections = (injections ∙ sym (append-nil before.injections)) i;
    definitions = all i;
  }

  pub definition_taken : IsItem x
      → ((w : Defined) (z : List Token) → ReadsDefined w x z → DefinitionEnds z → (core_definition w ≡ d) × (z ≡ y))
      → SectionStands Definitions before x m → SectionStands Definitions now y m
  definition_taken i only s =
      subst (λ l. SectionStands Definitions l y m) (sym with_definition) (definition_forth before x m i d y only s)

  pub definition_given : DefinitionGives x d y → SectionStands Definitions now y m
      → SectionStands Definitions before x m
  definition_given g s =
      definition_after before x y m d g (subst (λ l. SectionStands Definitions l y m) with_definition s)

pub word_comes : (p : Context) (before : Module) (m : Module) (x rest : List Token) (t : Token) (w : Keyword)
    → x ≡ t ∷ rest → t ≡ Reserved w → SectionStands p before x m → SectionStands p before (Reserved w ∷ rest) m
word_comes p before m x rest t w e h s = subst (λ l. SectionStands p before l m) (e ∙ ap (λ u. u ∷ rest) h) s

pub word_goes : (p : Context) (before : Module) (m : Module) (x rest : List Token) (t : Token) (w : Keyword)
    → x ≡ t ∷ rest → t ≡ Reserved w → SectionStands p before (Reserved w ∷ rest) m → SectionStands p before x m
word_goes p before m x rest t w e h s = subst (λ l. SectionStands p before l m) (sym (e ∙ ap (λ u. u ∷ rest) h)) s

pub all_read : (p : Context) (before : Module) (m : Module) (x : List Token)
    → x ≡ [] → m ≡ before → SectionStands p before x m
all_read p before m x e h = subst (λ l. SectionStands p before l m) (sym e) (end_after p before m h)

pub read_all : (p : Context) (before : Module) (m r : Module) (x : List Token)
    → x ≡ [] → m ≡ before → SectionStands p before x r → r ≡ m
read_all p before m r x e h s = end_forth p before r (subst (λ l. SectionStands p before l r) e s) ∙ sym h

-- nothing was read before the whole
pub nothing_read : (m : Module) (before : Module) (x : List Token) → before ≡ nothing → Left Outside x m
    → SectionStands Outside before x m
nothing_read m before x e l =
    subst (λ b. SectionStands Outside b x m) (sym e) (record { after = m; left = l; gives = refl })

pub nothing_before : (m : Module) (before : Module) (x : List Token)
    → before ≡ nothing → SectionStands Outside before x m → Left Outside x m
nothing_before m before x e s =
    let t : SectionStands Outside nothing x m = subst (λ b. SectionStands Outside b x m) e s in
    subst (λ l. Left Outside x l) t.gives t.left

-- no item comes where a part has to begin
pub no_item : (p : Context) → (p ≡ Sorts → ⊥) → (p ≡ Constructors → ⊥) → (p ≡ Definitions → ⊥) → (before : Module)
    (x : List Token) (m : Module) → IsItem x → SectionStands p before x m → ⊥
no_item Outside a b e before x m i s = no_outside before x m i s
no_item InSignature a b e before x m i s = no_signature before x m i s
no_item Sorts a b e before x m i s = a refl
no_item Constructors a b e before x m i s = b refl
no_item Definitions a b e before x m i s = e refl

pub empty_is : (x : List Token) → length x ≡ 0 → x ≡ []
empty_is [] e = refl
empty_is (t ∷ ts) e = absurd (omega arith)
