-- Rules and definitions, by the grammar and as the functions read them.
use Rattle.std.proofs.Common.{◌≡◌, true, false, refl, sym, ap, ◌∙◌, subst, List, [], ◌∷◌, Some, None, length, take, ◌-◌}
use Rattle.std.specs.declared.option.Option.{Option}
use Rattle.term_core.specs.Tree.{Symbol}
use Rattle.strategy_syntax.specs.Syntax.{Pattern, Strategy, scope}
use Rattle.strategy_syntax.specs.Modules.{Definition}
use Rattle.strategy_tokens.specs.declared.token.Token.{Token}
use Rattle.strategy_tokens.specs.declared.token.Token.TheVariants.{Reserved, Sign as ASign}
use Rattle.strategy_tokens.specs.declared.token.Keyword.TheVariants.{Where}
use Rattle.strategy_tokens.specs.declared.token.Sign.{Sign}
use Rattle.strategy_tokens.specs.declared.token.Sign.TheVariants.{OpenRound, Colon, Equals, Arrow as RightArrow}
use Rattle.strategy_tokens.specs.Marks.{is_mark, is_word}
use Rattle.strategy_names.specs.Free.{free_variables}
use Rattle.strategy_parse.specs.declared.parser.state.Order.TheVariants.{Run, Written}
use Rattle.strategy_parse.specs.Written.{Choice, Header, Defined, definition, rule, rule_where}
use Rattle.strategy_parse.specs.Grammar.{ReadsPattern, ReadsChoice}
use Rattle.strategy_parse.specs.GrammarModules.{ReadsHeader, ReadsDefined}
use Rattle.strategy_parse.specs.Core.{core, closed, core_definition, defined, rewrite, rewrite_where}
use Rattle.strategy_parse.specs.inside.Fronts.{FrontGives, Stops}
use Rattle.strategy_parse.specs.inside.NextToken.{next_token, NoMark}
use Rattle.strategy_parse.specs.inside.ModuleFronts.{after_mark, header_at, HeaderLeft}
use Rattle.strategy_parse.specs.inside.Definitions.{DefinitionEnds, DefinitionGives, header_of, ReadsRule, RuleGives}
use Rattle.strategy_parse.proofs.FrontGives.{choice_alone}
use Rattle.strategy_parse.proofs.HeaderLemmas.{after_found, mark_found, header_named, header_found}

-- ---- a pattern at the start of x, and the rest

pub record PatternAt (x : List Token) (p : Pattern) (a : List Token) : Type 0 where
  pub given : ReadsPattern p x a
  pub only : (q : Pattern) (y : List Token) → ReadsPattern q x y → Stops y → (q ≡ p) × (y ≡ a)

-- a choice there
pub record ChoiceAt (x : List Token) (s : Strategy) (a : List Token) : Type 0 where
  pub given : FrontGives x s a
  pub only : (u : Choice) (y : List Token) → ReadsChoice u x y → Stops y → (core Run u ≡ s) × (y ≡ a)

abbrev pub NoChoice : List Token → Type 0
NoChoice x = (u : Choice) (y : List Token) → ReadsChoice u x y → Stops y → ⊥

arrow_stops : (y z : List Token) → y ≡ ASign RightArrow ∷ z → Stops y
arrow_stops y z e = subst Stops (sym e) refl

where_stops : (y z : List Token) → y ≡ Reserved Where ∷ z → Stops y
where_stops y z e = subst Stops (sym e) refl

no_after : (m : Sign) (x y : List Token) → after_mark m x ≡ None → x ≡ ASign m ∷ y → ⊥
no_after m x y e h = let no : ◌≡◌ {A = Option (List Token)} None (Some y) = sym e ∙ ap (after_mark m) h
    ∙ after_found m y in cc

same_after : (m : Sign) (x y z : List Token) → after_mark m x ≡ Some z → x ≡ ASign m ∷ y → y ≡ z
same_after m x y z e h = let same : ◌≡◌ {A = Option (List Token)} (Some y) (Some z) = sym (after_found m y)
    ∙ ap (after_mark m) (sym h) ∙ e in cc

-- ---- the patterns of a rule, and the rest

record Patterns (w : Defined) (x y : List Token) : Type 0 where
  pub left : Pattern
  pub after_left : List Token
  pub reads_left : ReadsPattern left x after_left
  pub right_at : List Token
  pub arrow : after_left ≡ ASign RightArrow ∷ right_at
  pub right : Pattern
  pub after_right : List Token
  pub reads_right : ReadsPattern right right_at after_right
  pub stops : Stops after_right

abbrev patterns_of : (w : Defined) (x y : List Token) → ReadsRule w x y → DefinitionEnds y → Patterns w x y
patterns_of (definition h a) x y r e = absurd r
patterns_of (rule h p q) x y r e = record {
  left = p;
  after_left = r.0;
  reads_left = r.1;
  right_at = r.2.0;
  arrow = r.2.1;
  right = q;
  after_right = y;
  reads_right = r.2.2;
  stops = e.stops;
}
patterns_of (rule_where h p q a) x y r e = record {
  left = p;
  after_left = r.0;
  reads_left = r.1;
  right_at = r.2.0;
  arrow = r.2.1;
  right = q;
  after_right = r.2.2.0;
  reads_right = r.2.2.1;
  stops = where_stops r.2.2.0 r.2.2.2.0 r.2.2.2.1;
}

abbrev pub NoRule : List Token → Type 0
NoRule x = (w : Defined) (y : List Token) → ReadsRule w x y → DefinitionEnds y → ⊥

module _ (x : List Token) (p : Pattern) (a : List Token) (at_left : PatternAt x p a) where
  left_is : (w : Defined) (y : List Token) → (t : Patterns w x y) → (t.left ≡ p) × (t.after_left ≡ a)
  left_is w y t = at_left.only t.left t.after_left t.reads_left (arrow_stops t.after_left t.right_at t.arrow)

  module _ (b : List Token) (arrow : after_mark RightArrow a ≡ Some b) where
    right_is : (w : Defined) (y : List Token) → (t : Patterns w x y) → t.right_at ≡ b
    right_is w y t = same_after RightArrow a t.right_at b arrow (sym (left_is w y t).1 ∙ t.arrow)

    module _ (q : Pattern) (c : List Token) (at_right : PatternAt b q c) where
      both_are : (w : Defined) (y : List Token) → (t : Patterns w x y) → (t.right ≡ q) × (t.after_right ≡ c)
      both_are w y t = at_right.only t.right t.after_right
          (subst (λ l. ReadsPattern t.right l t.after_right) (right_is w y t) t.reads_right) t.stops

      -- both patterns were read, and no condition follows
      pub rule_gives : (h : Header) (d : Definition) → d ≡ defined h (closed h.terms (λ o. rewrite p q))
          → RuleGives h x d c
      rule_gives h d e = record {
        written = rule h p q;
        header = refl;
        reads = (a, at_left.given, (b, mark_found RightArrow a b arrow, at_right.given));
        is = sym e;
      }

      same_rule : (h k : Header) (l r : Pattern)
          → k ≡ h → l ≡ p → r ≡ q → core_definition (rule k l r) ≡ core_definition (rule h p q)
      same_rule h k l r e f g = λ i. core_definition (rule (e i) (f i) (g i))

      pub rule_only : (h : Header) (d : Definition) → d ≡ defined h (closed h.terms (λ o. rewrite p q))
          → is_word Where (next_token c) ≡ false → (w : Defined) (y : List Token) → header_of w ≡ h → ReadsRule w x y
          → DefinitionEnds y → (core_definition w ≡ d) × (y ≡ c)
      rule_only h d e none (definition k s) y f r ends = absurd r
      rule_only h d e none (rule k l s) y f r ends =
          let t : Patterns (rule k l s) x y = patterns_of (rule k l s) x y r ends in (
            same_rule h k l s f (left_is (rule k l s) y t).0 (both_are (rule k l s) y t).0 ∙ sym e,
            (both_are (rule k l s) y t).1,
          )
      rule_only h d e none (rule_where k l s u) y f r ends =
          let t : Patterns (rule_where k l s u) x y = patterns_of (rule_where k l s u) x y r ends in
          let front : c ≡ Reserved Where ∷ r.2.2.2.0 = sym (both_are (rule_where k l s u) y t).1 ∙ r.2.2.2.1 in
          let no : true ≡ false = sym (ap (λ z. is_word Where (next_token z)) front) ∙ none in
          cc

      -- a condition follows
      module _ (z : List Token) (word : c ≡ Reserved Where ∷ z) where
        rest-is : (m n : List Token) → c ≡ Reserved Where ∷ m → c ≡ Reserved Where ∷ n → m ≡ n
        rest-is m n e f = let same : Reserved Where ∷ m ≡ Reserved Where ∷ n = sym e ∙ f in cc

        no_plain : (y : List Token) → y ≡ c → DefinitionEnds y → ⊥
        no_plain y e ends = let no : true ≡ false =
            sym (ap (λ l. is_word Where (next_token l)) (e ∙ word)) ∙ ends.no_condition in cc

        pub no_condition : NoChoice z → NoRule x
        no_condition none (definition k s) y r ends = absurd r
        no_condition none (rule k l s) y r ends =
            let t : Patterns (rule k l s) x y = patterns_of (rule k l s) x y r ends in
            no_plain y (both_are (rule k l s) y t).1 ends
        no_condition none (rule_where k l s u) y r ends =
            let t : Patterns (rule_where k l s u) x y = patterns_of (rule_where k l s u) x y r ends in
            let at_z : r.2.2.2.0 ≡ z =
            rest-is r.2.2.2.0 z (sym (both_are (rule_where k l s u) y t).1 ∙ r.2.2.2.1) word in
            none u y (subst (λ m. ReadsChoice u m y) at_z r.2.2.2.2) ends.stops

        -- the code reads the condition's tokens once more, in the order of the text
        pub no_order : (s : Strategy) (v : List Token) → ChoiceAt z s v
            → ((u : Choice) → ReadsChoice u (take (length z - length v) z) [] → ⊥) → ⊥
        no_order s v at_choice none = none at_choice.given.0 (choice_alone at_choice.given.0 z v at_choice.given.1)

        module _ (s : Strategy) (v : List Token) (at_choice : ChoiceAt z s v) (h : Header) (xs : List Symbol)
            (names : (u : Choice) → ReadsChoice u (take (length z - length v) z) []
            → xs ≡ free_variables h.terms (rewrite_where Written p q (core Written u)))
            (d : Definition) (is : d ≡ defined h (scope xs (rewrite_where Run p q s))) where
          -- whatever choice is read there
          same_form : (u : Choice) → ReadsChoice u z v → core Run u ≡ s → core_definition (rule_where h p q u) ≡ d
          same_form u r o =
              (λ i. defined h (scope (sym (names u (choice_alone u z v r)) i) (rewrite_where Run p q (o i)))) ∙ sym is

          pub where_gives : RuleGives h x d v
          where_gives = record {
            written = rule_where h p q at_choice.given.0;
            header = refl;
            reads = (
              a,
              at_left.given,
              (b, mark_found RightArrow a b arrow, (c, at_right.given, (z, word, at_choice.given.1))),
            );
            is = same_form at_choice.given.0 at_choice.given.1 at_choice.given.2;
          }

          same_where : (k : Header) (l r : Pattern) (u : Choice)
              → k ≡ h → l ≡ p → r ≡ q → core_definition (rule_where k l r u) ≡ core_definition (rule_where h p q u)
          same_where k l r u e f g = λ i. core_definition (rule_where (e i) (f i) (g i) u)

          pub where_only : (w : Defined) (y : List Token) → header_of w ≡ h → ReadsRule w x y → DefinitionEnds y
              → (core_definition w ≡ d) × (y ≡ v)
          where_only (definition k t) y f r ends = absurd r
          where_only (rule k l t) y f r ends =
              let m : Patterns (rule k l t) x y = patterns_of (rule k l t) x y r ends in
              absurd (no_plain y (both_are (rule k l t) y m).1 ends)
          where_only (rule_where k l t u) y f r ends =
              let m : Patterns (rule_where k l t u) x y = patterns_of (rule_where k l t u) x y r ends in
              let at_z : r.2.2.2.0 ≡ z =
              rest-is r.2.2.2.0 z (sym (both_are (rule_where k l t u) y m).1 ∙ r.2.2.2.1) word in
              let reads : ReadsChoice u z y = subst (λ n. ReadsChoice u n y) at_z r.2.2.2.2 in
              let only = at_choice.only u y reads ends.stops in (
                same_where k l t u f (left_is (rule_where k l t u) y m).0 (both_are (rule_where k l t u) y m).0
                    ∙ same_form u (subst (ReadsChoice u z) only.1 reads) only.0,
                only.1,
              )

-- ---- definitions

pub record HeaderAt (x : List Token) (h : Header) (a : List Token) : Type 0 where
  pub is : header_at x ≡ Some (h, a)

pub header_stops : (m : Sign) (y z : List Token)
    → y ≡ ASign m ∷ z → is_mark OpenRound (ASign m) ≡ false → NoMark OpenRound y
header_stops m y z e h = ap (λ l. is_mark OpenRound (next_token l)) e ∙ h

abbrev pub NoDefinition : List Token → Type 0
NoDefinition x = (w : Defined) (y : List Token) → ReadsDefined w x y → DefinitionEnds y → ⊥

-- the header of a definition, and the sign after it
pub record Headed (w : Defined) (x y : List Token) : Type 0 where
  pub after : List Token
  pub reads : ReadsHeader (header_of w) x after
  pub ends : NoMark OpenRound after

abbrev pub headed : (w : Defined) (x y : List Token) → ReadsDefined w x y → Headed w x y
headed (definition h a) x y r = record { after = r.0; reads = r.1; ends = header_stops Equals r.0 r.2.0 r.2.1 refl }
headed (rule h p q) x y r = record { after = r.0; reads = r.1; ends = header_stops Colon r.0 r.2.0 r.2.1 refl }
headed (rule_where h p q a) x y r = record { after = r.0; reads = r.1; ends = header_stops Colon r.0 r.2.0 r.2.1 refl }

pub no_header : (x : List Token) → header_at x ≡ None → NoDefinition x
no_header x none w y r e =
    let t : Headed w x y = headed w x y r in
    let no : ◌≡◌ {A = HeaderLeft} None (Some (header_of w, t.after)) = sym none
    ∙ header_named (header_of w) x t.after t.reads t.ends in
    cc

module _ (x : List Token) (h : Header) (a : List Token) (at_header : header_at x ≡ Some (h, a)) where
  both : (w : Defined) (y : List Token) → (t : Headed w x y)
      → ◌≡◌ {A = Header × List Token} (header_of w, t.after) (h, a)
  both w y t = let same : ◌≡◌ {A = HeaderLeft} (Some (header_of w, t.after)) (Some (h, a)) =
      sym (header_named (header_of w) x t.after t.reads t.ends) ∙ at_header in cc

  header_is : (w : Defined) (y : List Token) → (t : Headed w x y) → header_of w ≡ h
  header_is w y t = ap (λ (q : Header × List Token). q.0) (both w y t)

  after_is : (w : Defined) (y : List Token) → (t : Headed w x y) → t.after ≡ a
  after_is w y t = ap (λ (q : Header × List Token). q.1) (both w y t)

  -- a `=` follows
  module _ (b : List Token) (sign : after_mark Equals a ≡ Some b) where
    equals_is : a ≡ ASign Equals ∷ b
    equals_is = mark_found Equals a b sign

    no_rule : (w : Defined) (z y : List Token) → (t : Headed w x y) → t.after ≡ ASign Colon ∷ z → ⊥
    no_rule w z y t e = let no : ASign Equals ∷ b ≡ ASign Colon ∷ z = sym equals_is ∙ sym (after_is w y t) ∙ e in cc

    pub body_gives : (s : Strategy) (y : List Token) (d : Definition) → FrontGives b s y → d ≡ defined h s
        → DefinitionGives x d y
    body_gives s y d g e = record {
      written = definition h g.0;
      reads = (a, header_found x h a at_header, (b, equals_is, g.1));
      is = ap (defined h) g.2 ∙ sym e;
    }

    pub body_only : (s : Strategy) (v : List Token) (d : Definition)
        → ((u : Choice) (y : List Token) → ReadsChoice u b y → Stops y → (core Run u ≡ s) × (y ≡ v)) → d ≡ defined h s
        → (w : Defined) (y : List Token) → ReadsDefined w x y → DefinitionEnds y → (core_definition w ≡ d) × (y ≡ v)
    body_only s v d only e (definition k u) y r ends =
        let t : Headed (definition k u) x y = headed (definition k u) x y r in
        let at_b : r.2.0 ≡ b = same_after Equals a r.2.0 b sign (sym (after_is (definition k u) y t) ∙ r.2.1) in
        let o = only u y (subst (λ l. ReadsChoice u l y) at_b r.2.2) ends.stops in
        ((λ i. defined (header_is (definition k u) y t i) (o.0 i)) ∙ sym e, o.1)
    body_only s v d only e (rule k p q) y r ends =
        absurd (no_rule (rule k p q) r.2.0 y (headed (rule k p q) x y r) r.2.1)
    body_only s v d only e (rule_where k p q u) y r ends =
        absurd (no_rule (rule_where k p q u) r.2.0 y (headed (rule_where k p q u) x y r) r.2.1)

    pub no_body : ((u : Choice) (y : List Token) → ReadsChoice u b y → Stops y → ⊥) → NoDefinition x
    no_body none (definition k u) y r ends =
        let t : Headed (definition k u) x y = headed (definition k u) x y r in
        let at_b : r.2.0 ≡ b = same_after Equals a r.2.0 b sign (sym (after_is (definition k u) y t) ∙ r.2.1) in
        none u y (subst (λ l. ReadsChoice u l y) at_b r.2.2) ends.stops
    no_body none (rule k p q) y r ends = no_rule (rule k p q) r.2.0 y (headed (rule k p q) x y r) r.2.1
    no_body none (rule_where k p q u) y r ends =
        no_rule (rule_where k p q u) r.2.0 y (headed (rule_where k p q u) x y r) r.2.1

  -- no `=` follows
  module _ (plain : after_mark Equals a ≡ None) where
    no_equals : (w : Defined) (z y : List Token) → (t : Headed w x y) → t.after ≡ ASign Equals ∷ z → ⊥
    no_equals w z y t e = no_after Equals a z plain (sym (after_is w y t) ∙ e)

    pub no_colon : after_mark Colon a ≡ None → NoDefinition x
    no_colon none (definition k u) y r ends = no_equals (definition k u) r.2.0 y (headed (definition k u) x y r) r.2.1
    no_colon none (rule k p q) y r ends =
        no_after Colon a r.2.0 none (sym (after_is (rule k p q) y (headed (rule k p q) x y r)) ∙ r.2.1)
    no_colon none (rule_where k p q u) y r ends =
        no_after Colon a r.2.0 none (sym (after_is (rule_where k p q u) y (headed (rule_where k p q u) x y r)) ∙ r.2.1)

    module _ (b : List Token) (colon : after_mark Colon a ≡ Some b) where
      -- the rule after the colon
      record Ruled (w : Defined) (y : List Token) : Type 0 where
        pub header : header_of w ≡ h
        pub reads : ReadsRule w b y

      ruled : (w : Defined) (y : List Token) → ReadsDefined w x y → Ruled w y
      ruled (definition k u) y r = absurd (no_equals (definition k u) r.2.0 y (headed (definition k u) x y r) r.2.1)
      ruled (rule k p q) y r =
          let t : Headed (rule k p q) x y = headed (rule k p q) x y r in
          record {
            header = header_is (rule k p q) y t;
            reads = subst (λ l. ReadsRule (rule k p q) l y)
                (same_after Colon a r.2.0 b colon (sym (after_is (rule k p q) y t) ∙ r.2.1)) r.2.2;
          }
      ruled (rule_where k p q u) y r =
          let t : Headed (rule_where k p q u) x y = headed (rule_where k p q u) x y r in
          record {
            header = header_is (rule_where k p q u) y t;
            reads = subst (λ l. ReadsRule (rule_where k p q u) l y)
                (same_after Colon a r.2.0 b colon (sym (after_is (rule_where k p q u) y t) ∙ r.2.1)) r.2.2;
          }

      defined_by : (w : Defined) (y : List Token) → header_of w ≡ h → ReadsRule w b y → ReadsDefined w x y
      defined_by (definition k u) y e r = absurd r
      defined_by (rule k p q) y e r =
          (a, subst (λ l. ReadsHeader l x a) (sym e) (header_found x h a at_header), (b, mark_found Colon a b colon, r))
      defined_by (rule_where k p q u) y e r =
          (a, subst (λ l. ReadsHeader l x a) (sym e) (header_found x h a at_header), (b, mark_found Colon a b colon, r))

      pub ruled_gives : (d : Definition) (y : List Token) → RuleGives h b d y → DefinitionGives x d y
      ruled_gives d y g = record { written = g.written; reads = defined_by g.written y g.header g.reads; is = g.is }

      pub ruled_only : (d : Definition) (v : List Token) → ((w : Defined) (y : List Token)
          → header_of w ≡ h → ReadsRule w b y → DefinitionEnds y → (core_definition w ≡ d) × (y ≡ v))
          → (w : Defined) (y : List Token) → ReadsDefined w x y → DefinitionEnds y → (core_definition w ≡ d) × (y ≡ v)
      ruled_only d v only w y r ends = let t : Ruled w y = ruled w y r in only w y t.header t.reads ends

      pub no_ruled : NoRule b → NoDefinition x
      no_ruled none w y r ends = let t : Ruled w y = ruled w y r in none w y t.reads ends
