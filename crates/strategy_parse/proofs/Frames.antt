-- What reads at the start of some tokens reads before any other tokens.
use Rattle.std.proofs.Common.{◌≡◌, refl, sym, ap, ◌∙◌, subst, inl, inr, List, [], ◌∷◌, ◌++◌, append_assoc}
use Rattle.std.specs.Prelude.{pos}
use Rattle.term_core.specs.Tree.{Symbol, application as applied, list, tuple}
use Rattle.strategy_syntax.specs.Syntax.{Pattern, wildcard, variable, at, number, compound, with_tail, annotated, Patterns, no_patterns, and_pattern}
use Rattle.strategy_tokens.specs.declared.token.Token.{Token}
use Rattle.strategy_tokens.specs.declared.token.Token.TheVariants.{Ident, Wildcard, Reserved, Integer, Text, Sign as ASign}
use Rattle.strategy_tokens.specs.declared.token.Keyword.{Keyword}
use Rattle.strategy_tokens.specs.declared.token.Keyword.TheVariants.{Id, Fail, Where, If, Then, Else, End, Rec, Prim}
use Rattle.strategy_tokens.specs.declared.token.Sign.{Sign}
use Rattle.strategy_tokens.specs.declared.token.Sign.TheVariants.{OpenRound, CloseRound, OpenSquare, CloseSquare, OpenCurly, CloseCurly, Comma, Semicolon, Colon, Bar, FatArrow, Arrow as RightArrow, Less, Greater, LeftChoice, Plus, Question, Exclamation, At, Backslash}
use Rattle.strategy_parse.specs.Written.{Choice, sequence, left_choice, guarded_choice, Seq, last, before, Arrow, arrow, Prefix, question, exclamation, application, identity, failure, operator, if_then, if_then_else, recursion, primitive, local, closure, closure_where, round, square, square_with_tail, name, call, call_with_terms, child, Choices, no_choices, and_choice}
use Rattle.aterm_text.specs.Grammar.{◌▸◌}
use Rattle.strategy_parse.specs.Grammar.{Reading, Next, Word, Mark, ReadsPattern, ReadsPatterns, ReadsSomePatterns, ReadsMorePatterns, ReadsArrows, ReadsMoreNames, ReadsNames, word_of, ReadsChoice, ReadsSeq, ReadsArrow, ReadsPrefix, ReadsChoices, ReadsSomeChoices, ReadsMoreChoices}

-- the tokens that R reads at the start of u, before v
pub record Front (R : Reading) (u v : List Token) : Type 0 where
  pub taken : List Token
  pub splits : u ≡ taken ++ v
  pub anywhere : (z : List Token) → R (taken ++ z) z

pub record Framed (R : Reading) : Type 0 where
  pub frames : (u v : List Token) → R u v → Front R u v

-- ---- how readings are combined

pub next_framed : (t : Token) → Framed (Next t)
next_framed t = record { frames = λ u v h. record { taken = t ∷ []; splits = h; anywhere = λ z. refl } }

pub word_framed : (k : Keyword) → Framed (Word k)
word_framed k = record { frames = λ u v h. record { taken = Reserved k ∷ []; splits = h; anywhere = λ z. refl } }

pub mark_framed : (s : Sign) → Framed (Mark s)
mark_framed s = record { frames = λ u v h. record { taken = ASign s ∷ []; splits = h; anywhere = λ z. refl } }

module _ (R S : Reading) (u v a : List Token) (f : Front R u a) (g : Front S a v) where
  both : Front (R ▸ S) u v
  both = record {
    taken = f.taken ++ g.taken;
    splits = f.splits ∙ ap (λ l. f.taken ++ l) g.splits ∙ sym (append_assoc f.taken g.taken v);
    anywhere = λ z. (
      g.taken ++ z,
      subst (λ l. R l (g.taken ++ z)) (sym (append_assoc f.taken g.taken z)) (f.anywhere (g.taken ++ z)),
      g.anywhere z,
    );
  }

pub then_framed : {R S : Reading} → Framed R → Framed S → Framed (R ▸ S)
then_framed {R} {S} r s = record {
  frames = λ u v h. both R S u v h.0 (r.frames u h.0 h.1) (s.frames h.0 v h.2);
}

-- ---- patterns

applied_front : (f : Symbol) (ps : Patterns) → Framed (ReadsPatterns ps CloseRound) → (u v : List Token)
    → ReadsPattern (compound (applied f) ps) u v → Front (ReadsPattern (compound (applied f) ps)) u v
applied_front f ps framed u v (inl h) = record {
  taken = Text f ∷ [];
  splits = h.0;
  anywhere = λ z. inl (refl, h.1);
}
applied_front f ps framed u v (inr h) =
    let g = (then_framed (next_framed (Ident f)) (then_framed (mark_framed OpenRound) framed)).frames u v h in
    record { taken = g.taken; splits = g.splits; anywhere = λ z. inr (g.anywhere z) }

applied_framed : (f : Symbol) (ps : Patterns) → Framed (ReadsPatterns ps CloseRound)
    → Framed (ReadsPattern (compound (applied f) ps))
applied_framed f ps framed = record { frames = λ u v h. applied_front f ps framed u v h }

mutual
  pub pattern_framed : (p : Pattern) → Framed (ReadsPattern p)
  pattern_framed wildcard = next_framed Wildcard
  pattern_framed (variable f) = next_framed (Ident f)
  pattern_framed (at f p) =
      then_framed (next_framed (Ident f)) (then_framed (mark_framed At) (pattern_framed p))
  pattern_framed (number z) = next_framed (Integer z)
  pattern_framed (compound (applied f) ps) = applied_framed f ps (patterns_framed ps CloseRound)
  pattern_framed (compound list ps) =
      then_framed (mark_framed OpenSquare) (patterns_framed ps CloseSquare)
  pattern_framed (compound tuple ps) =
      then_framed (mark_framed OpenRound) (patterns_framed ps CloseRound)
  pattern_framed (with_tail ps p) =
      then_framed (mark_framed OpenSquare) (then_framed (some_patterns_framed ps Bar)
      (then_framed (pattern_framed p) (mark_framed CloseSquare)))
  pattern_framed (annotated p ps) = record {
    frames = λ u v h.
        let f =
        (then_framed (pattern_framed p) (then_framed (mark_framed OpenCurly) (patterns_framed ps CloseCurly))).frames
        u v h.1 in
        record { taken = f.taken; splits = f.splits; anywhere = λ z. (h.0, f.anywhere z) };
  }

  pub patterns_framed : (ps : Patterns) (close : Sign) → Framed (ReadsPatterns ps close)
  patterns_framed no_patterns close = mark_framed close
  patterns_framed (and_pattern p ps) close = then_framed (pattern_framed p) (more_patterns_framed ps close)

  pub some_patterns_framed : (ps : Patterns) (close : Sign) → Framed (ReadsSomePatterns ps close)
  some_patterns_framed no_patterns close = record { frames = λ u v h. absurd h }
  some_patterns_framed (and_pattern p ps) close = then_framed (pattern_framed p) (more_patterns_framed ps close)

  pub more_patterns_framed : (ps : Patterns) (close : Sign) → Framed (ReadsMorePatterns ps close)
  more_patterns_framed no_patterns close = mark_framed close
  more_patterns_framed (and_pattern p ps) close =
      then_framed (mark_framed Comma) (then_framed (pattern_framed p) (more_patterns_framed ps close))

-- ---- strategies

pub arrows_framed : (ps : Patterns) → Framed (ReadsArrows ps)
arrows_framed no_patterns = record {
  frames = λ u v h. record { taken = []; splits = sym h; anywhere = λ z. refl };
}
arrows_framed (and_pattern p ps) =
    then_framed (mark_framed FatArrow) (then_framed (pattern_framed p) (arrows_framed ps))

pub more_names_framed : (fs : List Symbol) (close : Sign) → Framed (ReadsMoreNames fs close)
more_names_framed [] close = mark_framed close
more_names_framed (f ∷ fs) close =
    then_framed (mark_framed Comma) (then_framed (next_framed (Ident f)) (more_names_framed fs close))

pub names_framed : (fs : List Symbol) (close : Sign) → Framed (ReadsNames fs close)
names_framed [] close = mark_framed close
names_framed (f ∷ fs) close = then_framed (next_framed (Ident f)) (more_names_framed fs close)

mutual
  pub choice_framed : (a : Choice) → Framed (ReadsChoice a)
  choice_framed (sequence a) = record {
    frames = λ u v h.
        let f = (seq_framed a).frames u v h in
        record { taken = f.taken; splits = f.splits; anywhere = λ z. f.anywhere z };
  }
  choice_framed (left_choice a b) =
      then_framed (seq_framed a) (then_framed (mark_framed LeftChoice) (choice_framed b))
  choice_framed (guarded_choice a b c) =
      then_framed (seq_framed a) (then_framed (mark_framed Less) (then_framed (seq_framed b)
      (then_framed (mark_framed Plus) (choice_framed c))))

  pub seq_framed : (a : Seq) → Framed (ReadsSeq a)
  seq_framed (last a) = record {
    frames = λ u v h.
        let f = (arrow_framed a).frames u v h in
        record { taken = f.taken; splits = f.splits; anywhere = λ z. f.anywhere z };
  }
  seq_framed (before a b) =
      then_framed (arrow_framed a) (then_framed (mark_framed Semicolon) (seq_framed b))

  pub arrow_framed : (a : Arrow) → Framed (ReadsArrow a)
  arrow_framed (arrow a ps) = then_framed (prefix_framed a) (arrows_framed ps)

  pub prefix_framed : (a : Prefix) → Framed (ReadsPrefix a)
  prefix_framed (question p) = then_framed (mark_framed Question) (pattern_framed p)
  prefix_framed (exclamation p) = then_framed (mark_framed Exclamation) (pattern_framed p)
  prefix_framed (application a p) =
      then_framed (mark_framed Less)
      (then_framed (choice_framed a) (then_framed (mark_framed Greater) (pattern_framed p)))
  prefix_framed identity = word_framed Id
  prefix_framed failure = word_framed Fail
  prefix_framed (operator o a) =
      then_framed (word_framed (word_of o)) (then_framed (mark_framed OpenRound)
      (then_framed (choice_framed a) (mark_framed CloseRound)))
  prefix_framed (if_then a b) =
      then_framed (word_framed If) (then_framed (choice_framed a) (then_framed (word_framed Then)
      (then_framed (choice_framed b) (word_framed End))))
  prefix_framed (if_then_else a b c) =
      then_framed (word_framed If) (then_framed (choice_framed a) (then_framed (word_framed Then)
      (then_framed (choice_framed b) (then_framed (word_framed Else)
      (then_framed (choice_framed c) (word_framed End))))))
  prefix_framed (recursion f a) =
      then_framed (word_framed Rec) (then_framed (next_framed (Ident f)) (then_framed (mark_framed OpenRound)
      (then_framed (choice_framed a) (mark_framed CloseRound))))
  prefix_framed (primitive n ps) =
      then_framed (word_framed Prim) (then_framed (mark_framed OpenRound) (then_framed (next_framed (Text n))
      (more_patterns_framed ps CloseRound)))
  prefix_framed (local fs a) =
      then_framed (mark_framed OpenCurly) (then_framed (names_framed fs Colon)
      (then_framed (choice_framed a) (mark_framed CloseCurly)))
  prefix_framed (closure p q) =
      then_framed (mark_framed Backslash) (then_framed (pattern_framed p) (then_framed (mark_framed RightArrow)
      (then_framed (pattern_framed q) (mark_framed Backslash))))
  prefix_framed (closure_where p q a) =
      then_framed (mark_framed Backslash) (then_framed (pattern_framed p) (then_framed (mark_framed RightArrow)
      (then_framed (pattern_framed q) (then_framed (word_framed Where)
      (then_framed (choice_framed a) (mark_framed Backslash))))))
  prefix_framed (round cs) = then_framed (mark_framed OpenRound) (choices_framed cs CloseRound)
  prefix_framed (square cs) = then_framed (mark_framed OpenSquare) (choices_framed cs CloseSquare)
  prefix_framed (square_with_tail cs a) =
      then_framed (mark_framed OpenSquare) (then_framed (some_choices_framed cs Bar)
      (then_framed (choice_framed a) (mark_framed CloseSquare)))
  prefix_framed (name f) = next_framed (Ident f)
  prefix_framed (call f cs) =
      then_framed (next_framed (Ident f)) (then_framed (mark_framed OpenRound) (choices_framed cs CloseRound))
  prefix_framed (call_with_terms f cs ps) =
      then_framed (next_framed (Ident f)) (then_framed (mark_framed OpenRound)
      (then_framed (choices_framed cs Bar) (patterns_framed ps CloseRound)))
  prefix_framed (child i a) = record {
    frames = λ u v h.
        let f = (then_framed (next_framed (Integer (pos i))) (then_framed (mark_framed OpenRound)
        (then_framed (choice_framed a) (mark_framed CloseRound)))).frames u v h.1 in
        record { taken = f.taken; splits = f.splits; anywhere = λ z. (h.0, f.anywhere z) };
  }

  pub choices_framed : (cs : Choices) (close : Sign) → Framed (ReadsChoices cs close)
  choices_framed no_choices close = mark_framed close
  choices_framed (and_choice a cs) close = then_framed (choice_framed a) (more_choices_framed cs close)

  pub some_choices_framed : (cs : Choices) (close : Sign) → Framed (ReadsSomeChoices cs close)
  some_choices_framed no_choices close = record { frames = λ u v h. absurd h }
  some_choices_framed (and_choice a cs) close = then_framed (choice_framed a) (more_choices_framed cs close)

  pub more_choices_framed : (cs : Choices) (close : Sign) → Framed (ReadsMoreChoices cs close)
  more_choices_framed no_choices close = mark_framed close
  more_choices_framed (and_choice a cs) close =
      then_framed (mark_framed Comma) (then_framed (choice_framed a) (more_choices_framed cs close))
