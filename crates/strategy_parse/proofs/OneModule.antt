-- A list of tokens is at most one module.
use Rattle.std.proofs.Common.{◌≡◌, ℕ, zero, suc, ◌<◌, ◌≤◌, refl, sym, ap, ◌∙◌, subst, List, [], ◌∷◌, Some, None, length, take, ◌-◌, arith}
use Rattle.std.specs.declared.option.Option.{Option}
use Rattle.strategy_syntax.specs.Syntax as syntax
use Rattle.strategy_syntax.specs.Syntax.{Pattern, Strategy}
use Rattle.strategy_syntax.specs.Modules.{Module, Definition}
use Rattle.strategy_tokens.specs.declared.token.Token.{Token}
use Rattle.strategy_tokens.specs.declared.token.Token.TheVariants.{Ident, Wildcard, Reserved, Integer, Text, Sign as ASign, Bad}
use Rattle.strategy_tokens.specs.declared.token.Keyword.{Keyword}
use Rattle.strategy_tokens.specs.declared.token.Keyword.TheVariants.{Module as KModule}
use Rattle.strategy_tokens.specs.declared.token.Sign.TheVariants.{Colon, Equals, Arrow as RightArrow}
use Rattle.strategy_parse.specs.declared.modules.sections.Context.{Context}
use Rattle.strategy_parse.specs.declared.modules.sections.Context.TheVariants.{Outside, Signature as InSignature, Sorts, Constructors, Definitions}
use Rattle.strategy_parse.specs.declared.parser.state.Order.TheVariants.{Run, Written}
use Rattle.strategy_names.specs.Free.{free_variables}
use Rattle.strategy_parse.specs.Written.{Choice, Defined, definition, rule, rule_where}
use Rattle.strategy_parse.specs.Grammar.{ReadsPattern, ReadsChoice}
use Rattle.strategy_parse.specs.GrammarModules.{ReadsDefined}
use Rattle.strategy_parse.specs.Core.{core, closed, core_definition, defined, rewrite, rewrite_where}
use Rattle.strategy_parse.specs.declared.modules.declarations.Declared.{Declared}
use Rattle.strategy_parse.specs.inside.Fronts.{Stops}
use Rattle.strategy_parse.specs.inside.ModuleFronts.{after_mark, header_at, DeclaredLeft, module_with}
use Rattle.strategy_parse.specs.inside.Definitions.{DefinitionEnds}
use Rattle.strategy_parse.specs.Gives.{GivesModule}
use Rattle.strategy_parse.specs.inside.Sections.{IsItem, joined, declaring_one, defining, SectionsLeft, SortsLeft, DeclarationsLeft, DefinitionsLeft, Left}
use Rattle.strategy_parse.proofs.HeaderLemmas.{after_found, header_named}
use Rattle.strategy_parse.proofs.SortLemmas.{sort_alone}
use Rattle.strategy_parse.proofs.DeclarationLemmas.{core_declared, declaration_named, declares}
use Rattle.strategy_parse.proofs.FrontGives.{choice_alone, choice-front, pattern-front, strategy-only}
use Rattle.strategy_parse.proofs.Gives.{one_written}
use Rattle.strategy_parse.proofs.RuleLemmas.{PatternAt, ChoiceAt, Headed, headed, rule_only, where_only, body_only, ruled_only}
use Rattle.strategy_parse.proofs.SectionWords.{WordStep, word_step, left_end}
use Rattle.strategy_parse.proofs.SectionItems.{outside_item, signature_item, SortStep, sort_step, DeclarationStep, declaration_step, DefinitionStep, definition_step}
use Rattle.strategy_parse.proofs.TitleLemmas.{title_forth, untitled_forth}
use Rattle.strategy_parse.proofs.ModuleFrames.{sort_shorter, declaration_shorter, defined_shorter}

pair-left : (s r : Strategy) (x y : List Token)
    → ◌≡◌ {A = Option (Strategy × List Token)} (Some (s, x)) (Some (r, y)) → s ≡ r
pair-left s r x y e = let pair : ◌≡◌ {A = Strategy × List Token} (s, x) (r, y) = cc in
    ap (λ (q : Strategy × List Token). q.0) pair

pair-right : (s r : Strategy) (x y : List Token)
    → ◌≡◌ {A = Option (Strategy × List Token)} (Some (s, x)) (Some (r, y)) → x ≡ y
pair-right s r x y e = let pair : ◌≡◌ {A = Strategy × List Token} (s, x) (r, y) = cc in
    ap (λ (q : Strategy × List Token). q.1) pair

-- ---- what reads at the start is unique

pattern_at : (x : List Token) (p : Pattern) (y : List Token) → ReadsPattern p x y → Stops y → PatternAt x p y
pattern_at x p y h e = record {
  given = h;
  only = λ q z r s.
      let same : ◌≡◌ {A = Option (Strategy × List Token)} (Some (syntax.matches q, z)) (Some (syntax.matches p, y)) =
      sym (pattern-front q x z r s) ∙ pattern-front p x y h e in
      let left : syntax.matches q ≡ syntax.matches p = pair-left (syntax.matches q) (syntax.matches p) z y same in
      let is : q ≡ p = cc in
      (is, pair-right (syntax.matches q) (syntax.matches p) z y same);
}

choice_at : (u : Choice) (x y : List Token) → ReadsChoice u x y → Stops y → ChoiceAt x (core Run u) y
choice_at u x y h e =
    record { given = (u, h, refl); only = strategy-only x [] refl (core Run u) y (choice-front u x y h e) }

-- any definition there is this one
abbrev Only : List Token → Definition → List Token → Type 0
Only x d y = (w : Defined) (z : List Token) → ReadsDefined w x z → DefinitionEnds z → (core_definition w ≡ d) × (z ≡ y)

record One (x : List Token) : Type 0 where
  pub definition : Definition
  pub rest : List Token
  pub only : Only x definition rest

definition_one : (v : Defined) (x y : List Token) → ReadsDefined v x y → DefinitionEnds y → One x
definition_one (definition h u) x y r e =
    let t : Headed (definition h u) x y = headed (definition h u) x y r in
    let header : header_at x ≡ Some (h, r.0) = header_named h x r.0 r.1 t.ends in
    let sign : after_mark Equals r.0 ≡ Some r.2.0 = ap (after_mark Equals) r.2.1 ∙ after_found Equals r.2.0 in
    record {
      definition = defined h (core Run u);
      rest = y;
      only = body_only x h r.0 header r.2.0 sign (core Run u) y (defined h (core Run u))
          (choice_at u r.2.0 y r.2.2 e.stops).only refl;
    }
definition_one (rule h p q) x y r e =
    let t : Headed (rule h p q) x y = headed (rule h p q) x y r in
    let header : header_at x ≡ Some (h, r.0) = header_named h x r.0 r.1 t.ends in
    let plain : after_mark Equals r.0 ≡ None = ap (after_mark Equals) r.2.1 in
    let colon : after_mark Colon r.0 ≡ Some r.2.0 = ap (after_mark Colon) r.2.1 ∙ after_found Colon r.2.0 in
    let arrow : after_mark RightArrow r.2.2.0 ≡ Some r.2.2.2.0 = ap (after_mark RightArrow) r.2.2.2.1
    ∙ after_found RightArrow r.2.2.2.0 in
    let d : Definition = defined h (closed h.terms (λ o. rewrite p q)) in
    record {
      definition = d;
      rest = y;
      only = ruled_only x h r.0 header plain r.2.0 colon d y
          (rule_only r.2.0 p r.2.2.0 (pattern_at r.2.0 p r.2.2.0 r.2.2.1 (subst Stops (sym r.2.2.2.1) refl))
          r.2.2.2.0 arrow q y
          (pattern_at r.2.2.2.0 q y r.2.2.2.2 e.stops) h d refl e.no_condition);
    }
definition_one (rule_where h p q u) x y r e =
    let t : Headed (rule_where h p q u) x y = headed (rule_where h p q u) x y r in
    let header : header_at x ≡ Some (h, r.0) = header_named h x r.0 r.1 t.ends in
    let plain : after_mark Equals r.0 ≡ None = ap (after_mark Equals) r.2.1 in
    let colon : after_mark Colon r.0 ≡ Some r.2.0 = ap (after_mark Colon) r.2.1 ∙ after_found Colon r.2.0 in
    let arrow : after_mark RightArrow r.2.2.0 ≡ Some r.2.2.2.0 = ap (after_mark RightArrow) r.2.2.2.1
    ∙ after_found RightArrow r.2.2.2.0 in
    let z = r.2.2.2.2.2.0 in
    let d : Definition = defined h (closed h.terms (λ o. rewrite_where o p q (core o u))) in
    record {
      definition = d;
      rest = y;
      only = ruled_only x h r.0 header plain r.2.0 colon d y
          (where_only r.2.0 p r.2.2.0 (pattern_at r.2.0 p r.2.2.0 r.2.2.1 (subst Stops (sym r.2.2.2.1) refl)) r.2.2.2.0
          arrow q r.2.2.2.2.0
          (pattern_at r.2.2.2.0 q r.2.2.2.2.0 r.2.2.2.2.1 (subst Stops (sym r.2.2.2.2.2.1) refl))
          z r.2.2.2.2.2.1 (core Run u) y (choice_at u z y r.2.2.2.2.2.2 e.stops) h
          (free_variables h.terms (rewrite_where Written p q (core Written u)))
          (λ w k. ap (λ s. free_variables h.terms (rewrite_where Written p q s))
          (one_written (take (length z - length y) z) u w (choice_alone u z y r.2.2.2.2.2.2) k))
          d refl);
    }

-- ---- the rest is unique

abbrev LeftOne : ℕ → Type 0
LeftOne n = (p : Context) (x : List Token) (m r : Module) → length x ≤ n → Left p x m → Left p x r → m ≡ r

some-is : (q r : Context) → ◌≡◌ {A = Option Context} (Some q) (Some r) → q ≡ r
some-is q r e = cc

module _ (n : ℕ) (one : LeftOne n) where
  word_one : (p : Context) (w : Keyword) (x : List Token) (m r : Module) → length x ≤ n → Left p (Reserved w ∷ x) m
      → Left p (Reserved w ∷ x) r → m ≡ r
  word_one p w x m r le a b =
      let s : WordStep p w x m = word_step p w x m a in
      let t : WordStep p w x r = word_step p w x r b in
      let same : t.context ≡ s.context = some-is t.context s.context (sym t.is ∙ s.is) in
      one s.context x m r le s.left (subst (λ q. Left q x r) same t.left)

  sorts_one : (x : List Token) (m r : Module) → length x ≤ suc n → IsItem x → SortsLeft x m → SortsLeft x r → m ≡ r
  sorts_one x m r le i a b =
      let s : SortStep x m = sort_step x m a i in
      let t : SortStep x r = sort_step x r b i in
      let both : ◌≡◌ {A = Option (List Token)} (Some t.rest) (Some s.rest) =
      sym (sort_alone t.sort x t.rest t.reads t.ends.round t.ends.star)
      ∙ sort_alone s.sort x s.rest s.reads s.ends.round s.ends.star in
      let same : t.rest ≡ s.rest = cc in
      let less : length s.rest < length x = sort_shorter s.sort x s.rest s.reads in
      one Sorts s.rest m r (omega arith) s.left (subst (λ l. SortsLeft l r) same t.left)

  declared-pair : (a b : Declared) (y z : List Token) → ◌≡◌ {A = DeclaredLeft} (Some (a, y)) (Some (b, z))
      → ◌≡◌ {A = Declared × List Token} (a, y) (b, z)
  declared-pair a b y z e = cc

  declarations_one : (x : List Token) (m r : Module) → length x ≤ suc n → IsItem x → DeclarationsLeft x m
      → DeclarationsLeft x r → m ≡ r
  declarations_one x m r le i a b =
      let s : DeclarationStep x m = declaration_step x m a i in
      let t : DeclarationStep x r = declaration_step x r b i in
      let both : ◌≡◌ {A = Declared × List Token} (core_declared t.declaration, t.rest)
      (core_declared s.declaration, s.rest) =
      declared-pair (core_declared t.declaration) (core_declared s.declaration) t.rest s.rest
      (sym (declaration_named t.declaration x t.rest t.reads t.ends)
      ∙ declaration_named s.declaration x s.rest s.reads s.ends) in
      let less : length s.rest < length x = declaration_shorter s.declaration x s.rest s.reads in
      let same : s.after ≡ t.after = one Constructors s.rest s.after t.after (omega arith) s.left
      (subst (λ l. DeclarationsLeft l t.after) (ap (λ (q : Declared × List Token). q.1) both) t.left) in
      let declared : declaring_one s.declaration ≡ declaring_one t.declaration = sym (declares s.declaration)
      ∙ ap module_with (sym (ap (λ (q : Declared × List Token). q.0) both)) ∙ declares t.declaration in
      sym s.gives ∙ ap (joined (declaring_one s.declaration)) same ∙ ap (λ l. joined l t.after) declared ∙ t.gives

  definitions_one : (x : List Token) (m r : Module) → length x ≤ suc n → IsItem x → DefinitionsLeft x m
      → DefinitionsLeft x r → m ≡ r
  definitions_one x m r le i a b =
      let s : DefinitionStep x m = definition_step x m a i in
      let t : DefinitionStep x r = definition_step x r b i in
      let o : One x = definition_one s.definition x s.rest s.reads s.ends in
      let first = o.only s.definition s.rest s.reads s.ends in
      let second = o.only t.definition t.rest t.reads t.ends in
      let less : length s.rest < length x = defined_shorter s.definition x s.rest s.reads in
      let same : s.after ≡ t.after = one Definitions s.rest s.after t.after (omega arith) s.left
      (subst (λ l. DefinitionsLeft l t.after) (second.1 ∙ sym first.1) t.left) in
      sym s.gives ∙ ap (joined (defining (core_definition s.definition ∷ []))) same
      ∙ ap (λ l. joined (defining (l ∷ [])) t.after) (first.0 ∙ sym second.0) ∙ t.gives

  item_one : (p : Context) (x : List Token) (m r : Module) → length x ≤ suc n → IsItem x → Left p x m
      → Left p x r → m ≡ r
  item_one Outside x m r le i a b = absurd (outside_item x m a i)
  item_one InSignature x m r le i a b = absurd (signature_item x m a i)
  item_one Sorts x m r le i a b = sorts_one x m r le i a b
  item_one Constructors x m r le i a b = declarations_one x m r le i a b
  item_one Definitions x m r le i a b = definitions_one x m r le i a b

  token_one : (p : Context) (t : Token) (ts : List Token) (m r : Module) → length (t ∷ ts) ≤ suc n → Left p (t ∷ ts) m
      → Left p (t ∷ ts) r → m ≡ r
  token_one p (Reserved w) ts m r le a b = word_one p w ts m r (omega arith) a b
  token_one p (Ident f) ts m r le a b = item_one p (Ident f ∷ ts) m r le tt a b
  token_one p Wildcard ts m r le a b = item_one p (Wildcard ∷ ts) m r le tt a b
  token_one p (Integer z) ts m r le a b = item_one p (Integer z ∷ ts) m r le tt a b
  token_one p (Text f) ts m r le a b = item_one p (Text f ∷ ts) m r le tt a b
  token_one p (ASign s) ts m r le a b = item_one p (ASign s ∷ ts) m r le tt a b
  token_one p Bad ts m r le a b = item_one p (Bad ∷ ts) m r le tt a b

left_one : (n : ℕ) → LeftOne n
left_one n p [] m r le a b = sym (left_end p m a) ∙ left_end p r b
left_one zero p (t ∷ ts) m r le a b = absurd (omega arith)
left_one (suc n) p (t ∷ ts) m r le a b = token_one n (left_one n) p t ts m r le a b

title_is : (x y : List Token) (m r : Module) → x ≡ Reserved KModule ∷ y → GivesModule x m → GivesModule x r → m ≡ r
title_is x y m r e a b =
    let s = title_forth x y m e a in
    let t = title_forth x y r e b in
    let both : Ident s.0 ∷ s.1 ≡ Ident t.0 ∷ t.1 = sym s.2 ∙ t.2 in
    let same : t.1 ≡ s.1 = cc in
    left_one (length s.1) Outside s.1 m r (omega arith) s.3 (subst (λ l. SectionsLeft l r) same t.3)

plain_is : (x : List Token) (m r : Module) → ((y : List Token) → x ≡ Reserved KModule ∷ y → ⊥) → GivesModule x m
    → GivesModule x r → m ≡ r
plain_is x m r h a b = left_one (length x) Outside x m r (omega arith) (untitled_forth x m h a) (untitled_forth x r h b)

pub one_module : (x : List Token) (m r : Module) → GivesModule x m → GivesModule x r → m ≡ r
one_module [] m r a b = plain_is [] m r (λ y e. let no : ◌≡◌ {A = List Token} [] (Reserved KModule ∷ y) = e in cc) a b
one_module (Reserved KModule ∷ ts) m r a b = title_is (Reserved KModule ∷ ts) ts m r refl a b
one_module (t ∷ ts) m r a b = plain_is (t ∷ ts) m r (λ y e. let same : t ∷ ts ≡ Reserved KModule ∷ y = e in cc) a b
