-- The word `module` and a name, which may come before the sections.
use Rattle.std.proofs.Common.{◌≡◌, true, false, refl, sym, ap, ◌∙◌, subst, inl, inr, List, [], ◌∷◌, Some, None}
use Rattle.std.specs.declared.option.Option.{Option}
use Rattle.term_core.specs.Tree.{Symbol}
use Rattle.strategy_syntax.specs.Modules.{Module}
use Rattle.strategy_tokens.specs.declared.token.Token.{Token}
use Rattle.strategy_tokens.specs.declared.token.Token.TheVariants.{Ident, Wildcard, Reserved, Integer, Text, Sign as ASign, Bad}
use Rattle.strategy_tokens.specs.declared.token.Keyword.TheVariants.{Module as KModule, Signature as KSignature, Rules, Strategies}
use Rattle.strategy_parse.specs.declared.modules.sections.Context.TheVariants.{Outside}
use Rattle.strategy_parse.specs.Written.{Section, signature, definitions}
use Rattle.strategy_parse.specs.GrammarModules.{ReadsSection, ReadsAll}
use Rattle.strategy_tokens.specs.Marks.{is_word}
use Rattle.strategy_parse.specs.inside.ModuleFronts.{after_ident}
use Rattle.strategy_parse.specs.inside.NextToken.{next_token}
use Rattle.strategy_parse.specs.Gives.{GivesModule}
use Rattle.strategy_parse.specs.inside.Sections.{ReadsSections, SectionsLeft, Left}

all_sections : (ss : List Section) (x : List Token) → ReadsSections ss x → ReadsAll ReadsSection ss x []
all_sections [] x r = sym r
all_sections (s ∷ ss) x r = (r.0, r.1, all_sections ss r.0 r.2)

sections_all : (ss : List Section) (x : List Token) → ReadsAll ReadsSection ss x [] → ReadsSections ss x
sections_all [] x r = sym r
sections_all (s ∷ ss) x r = (r.0, r.1, sections_all ss r.0 r.2)

pub titled : (f : Symbol) (x : List Token) (m : Module) → Left Outside x m
    → GivesModule (Reserved KModule ∷ (Ident f ∷ x)) m
titled f x m l = (l.sections, (x, inl (f, (Ident f ∷ x, refl, refl)), all_sections l.sections x l.reads), l.gives)

pub untitled : (x : List Token) (m : Module) → Left Outside x m → GivesModule x m
untitled x m l = (l.sections, (x, inr refl, all_sections l.sections x l.reads), l.gives)

no_module_word : (ss : List Section) (x y : List Token) → x ≡ Reserved KModule ∷ y → ReadsSections ss x → ⊥
no_module_word [] x y e r = let no : ◌≡◌ {A = List Token} (Reserved KModule ∷ y) [] = sym e ∙ r in cc
no_module_word (signature ps ∷ ss) x y e r = let no : Reserved KModule ∷ y ≡ Reserved KSignature ∷ r.1.0 = sym e
    ∙ r.1.1 in cc
no_module_word (definitions ds ∷ ss) x y e (v, (a, (inl k), reads), rest) =
    let no : Reserved KModule ∷ y ≡ Reserved Rules ∷ a = sym e ∙ k in cc
no_module_word (definitions ds ∷ ss) x y e (v, (a, (inr k), reads), rest) =
    let no : Reserved KModule ∷ y ≡ Reserved Strategies ∷ a = sym e ∙ k in cc

-- a name comes after the word `module`
pub title_forth : (x y : List Token) (m : Module) → x ≡ Reserved KModule ∷ y → GivesModule x m
    → (f : Symbol) × (z : List Token) × (y ≡ Ident f ∷ z) × Left Outside z m
title_forth x y m e (ss, (v, (inl t), reads), is) =
    let word : Reserved KModule ∷ y ≡ Reserved KModule ∷ t.1.0 = sym e ∙ t.1.1 in
    let rest : y ≡ t.1.0 = cc in
    (t.0, v, rest ∙ t.1.2, record { sections = ss; reads = sections_all ss v reads; gives = is })
title_forth x y m e (ss, (v, (inr same), reads), is) =
    absurd (no_module_word ss v y (same ∙ e) (sections_all ss v reads))

pub untitled_forth : (x : List Token) (m : Module) → ((y : List Token) → x ≡ Reserved KModule ∷ y → ⊥) → GivesModule x m
    → Left Outside x m
untitled_forth x m other (ss, (v, (inl t), reads), is) = absurd (other t.1.0 t.1.1)
untitled_forth x m other (ss, (v, (inr same), reads), is) =
    record { sections = ss; reads = subst (ReadsSections ss) same (sections_all ss v reads); gives = is }

-- ---- as the code has it

ident_found : (y z : List Token) → after_ident y ≡ Some z → (f : Symbol) × (y ≡ Ident f ∷ z)
ident_found [] z e = absurd (cc)
ident_found (Ident f ∷ ts) z e = let same : ts ≡ z = cc in (f, ap (λ l. Ident f ∷ l) same)
ident_found (Wildcard ∷ ts) z e = absurd (cc)
ident_found (Reserved w ∷ ts) z e = absurd (cc)
ident_found (Integer i ∷ ts) z e = absurd (cc)
ident_found (Text f ∷ ts) z e = absurd (cc)
ident_found (ASign s ∷ ts) z e = absurd (cc)
ident_found (Bad ∷ ts) z e = absurd (cc)

pub title_to : (x y z : List Token) → x ≡ Reserved KModule ∷ y → after_ident y ≡ Some z → (m : Module) → GivesModule x m
    → Left Outside z m
title_to x y z e h m g =
    let t = title_forth x y m e g in
    let i = ident_found y z h in
    let both : Ident t.0 ∷ t.1 ≡ Ident i.0 ∷ z = sym t.2 ∙ i.1 in
    let same : t.1 ≡ z = cc in
    subst (λ l. SectionsLeft l m) same t.3

pub title_back : (x y z : List Token) → x ≡ Reserved KModule ∷ y → after_ident y ≡ Some z → (m : Module)
    → Left Outside z m → GivesModule x m
title_back x y z e h m l =
    let i = ident_found y z h in
    subst (λ k. GivesModule k m) (sym (e ∙ ap (λ k. Reserved KModule ∷ k) i.1)) (titled i.0 z m l)

pub title_none : (x y : List Token) → x ≡ Reserved KModule ∷ y → after_ident y ≡ None → (m : Module)
    → GivesModule x m → ⊥
title_none x y e h m g =
    let t = title_forth x y m e g in
    let no : ◌≡◌ {A = Option (List Token)} None (Some t.1) = sym h ∙ ap after_ident t.2 in
    cc

pub plain_to : (x : List Token) → is_word KModule (next_token x) ≡ false → (m : Module) → GivesModule x m
    → Left Outside x m
plain_to x e m g =
    untitled_forth x m (λ y h. let no : true ≡ false = sym (ap (λ l. is_word KModule (next_token l)) h) ∙ e in cc) g
