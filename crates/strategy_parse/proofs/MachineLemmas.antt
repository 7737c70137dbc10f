-- What the machine does, depending on the top of its stack.
use Rattle.std.proofs.Common.{◌≡◌, ◌+◌, refl, ap, ◌∙◌, List, [], ◌∷◌, ◌++◌, length, arith, length-append}
use Rattle.std.specs.Prelude.{if◌then◌else◌}
use Rattle.term_core.specs.Tree.{Symbol, tuple}
use Rattle.strategy_syntax.specs.Syntax as syntax
use Rattle.strategy_syntax.specs.Syntax.{Pattern, at, Strategy, strategies_of}
use Rattle.strategy_tokens.specs.declared.token.Token.{Token}
use Rattle.strategy_tokens.specs.declared.token.Sign.TheVariants.{Plus}
use Rattle.strategy_parse.specs.declared.parser.state.ParserState.TheVariants.{Strategy as ToStrategy}
use Rattle.strategy_parse.specs.declared.parser.state.ParserFrame.{ParserFrame}
use Rattle.strategy_parse.specs.declared.parser.state.ParserFrame.TheVariants.{InText, Operand, At, Strategy as ForStrategy, Pattern as ForPattern}
use Rattle.strategy_parse.specs.declared.parser.state.Infix.TheVariants.{Before, Guarded, Otherwise}
use Rattle.strategy_tokens.specs.Marks.{is_mark}
use Rattle.strategy_parse.specs.Core.{in_brackets}
use Rattle.strategy_parse.specs.inside.Parser.{goes, stuck, after_arrow, after_seq, after_choice, after_pattern, no_operand, HasOperand}

pub arrow-before : (s r : Strategy) (S R : List ParserFrame) (t : Token)
    → S ≡ Operand Before r ∷ R → after_arrow (syntax.seq r s) R t ≡ after_arrow s S t
arrow-before s r S R t e = rw e refl

pub arrow-guarded : (s : Strategy) (S : List ParserFrame) (t : Token) → HasOperand Guarded S
    → after_arrow s S t ≡ (if (is_mark Plus t) then goes ToStrategy (Operand Otherwise s ∷ S) else stuck)
arrow-guarded s S t h = rw h.2 refl

pub arrow-bare : (s : Strategy) (S : List ParserFrame) (t : Token) → no_operand Before S → no_operand Guarded S
    → after_arrow s S t ≡ after_seq s S t
arrow-bare s [] t h k = refl
arrow-bare s (InText ∷ S) t h k = refl
arrow-bare s (Operand Before r ∷ S) t h k = absurd (h r S refl)
arrow-bare s (Operand Guarded r ∷ S) t h k = absurd (k r S refl)
arrow-bare s (Operand Otherwise b ∷ S) t h k = refl
arrow-bare s (At x ∷ S) t h k = refl
arrow-bare s (ForStrategy F ∷ S) t h k = refl
arrow-bare s (ForPattern F ∷ S) t h k = refl

pub choice-guard : (s a b : Strategy) (S R Q : List ParserFrame) (t : Token) → S ≡ Operand Otherwise b
    ∷ R → R ≡ Operand Guarded a ∷ Q → after_choice (syntax.guard a b s) Q t ≡ after_choice s S t
choice-guard s a b S R Q t e h = rw (e, h) refl

pub pattern-at : (p : Pattern) (x : Symbol) (S R : List ParserFrame) (t : Token)
    → S ≡ At x ∷ R → after_pattern (at x p) R t ≡ after_pattern p S t
pattern-at p x S R t e = rw e refl

pub brackets-many : (ss : List Strategy)
    → (length ss ≡ 1 → ⊥) → syntax.congruence tuple (strategies_of ss) ≡ in_brackets (strategies_of ss)
brackets-many [] h = refl
brackets-many (s ∷ []) h = absurd (h refl)
brackets-many (s ∷ (r ∷ ss)) h = refl

pub brackets-one : (ss rest : List Strategy) (s : Strategy)
    → ss ≡ rest ++ s ∷ [] → length ss ≡ 1 → s ≡ in_brackets (strategies_of ss)
brackets-one ss [] s e h = rw e refl
brackets-one ss (r ∷ rest) s e h =
    let l : length ss ≡ length (r ∷ rest) + length (s ∷ []) = ap length e ∙ length-append (r ∷ rest) (s ∷ []) in
    absurd (omega arith)

pub ruleset arrow_rules = (arrow-before, arrow-guarded, arrow-bare)

pub ruleset choice_rules = (choice-guard)

pub ruleset at_rules = (pattern-at)

pub ruleset bracket_rules = (brackets-many, brackets-one)
