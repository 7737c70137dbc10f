-- The top of the parser's stack.
use Rattle.std.proofs.Common.{◌≡◌, ℕ, suc, ◌-◌, ◌<◌, List, [], ◌∷◌, ◌++◌, length, take, drop, get_or, refl, sym, ap, ◌∙◌, arith, drop-cons}
use Rattle.std.specs.Prelude.{reverse}
use Rattle.std.proofs.lemmas.List.{reverse-append, take-append-drop, drop_all}
use Rattle.strategy_parse.specs.declared.parser.state.Order.{Order}
use Rattle.strategy_parse.specs.declared.parser.state.Order.TheVariants.{Run, Written}
use Rattle.strategy_parse.specs.declared.parser.state.ParserFrame.{ParserFrame}
use Rattle.strategy_parse.specs.declared.parser.state.ParserFrame.TheVariants.{InText, Operand, At, Strategy as ForStrategy, Pattern as ForPattern}
use Rattle.strategy_parse.specs.inside.Parser.{order_below, order_of}

last-seam : (items : List ParserFrame) (f : ParserFrame) (n : ℕ) → length items ≡ suc n → f ≡ get_or items n f
    → items ≡ take n items ++ f ∷ []
last-seam items f n len e =
    let lt : n < length items = omega arith in
    let none : drop (suc n) items ≡ [] = drop_all (suc n) items (omega arith) in
    sym (take-append-drop n items) ∙ ap (λ l. take n items ++ l) (drop-cons items n f lt ∙ (λ i. sym e i ∷ none i))

pub top-is : (items : List ParserFrame) (f : ParserFrame) → 0 < length items → f ≡ get_or items (length items - 1) f
    → (R : List ParserFrame) × (reverse items ≡ f ∷ R)
top-is items f lt e =
    let n = length items - 1 in
    let len : length items ≡ suc (length items - 1) = omega arith in (
      reverse (take (length items - 1) items),
      ap reverse (last-seam items f (length items - 1) len e) ∙ reverse-append (take (length items - 1) items) (f ∷ []),
    )

-- ---- the order that the outermost form asks for

order_last : (o : Order) (S : List ParserFrame) (f : ParserFrame)
    → order_below o (S ++ f ∷ []) ≡ order_below Run (f ∷ [])
order_last o [] InText = refl
order_last o [] (Operand i s) = refl
order_last o [] (At x) = refl
order_last o [] (ForStrategy F) = refl
order_last o [] (ForPattern F) = refl
order_last o (InText ∷ S) f = order_last Written S f
order_last o (Operand i s ∷ S) f = order_last Run S f
order_last o (At x ∷ S) f = order_last Run S f
order_last o (ForStrategy F ∷ S) f = order_last Run S f
order_last o (ForPattern F ∷ S) f = order_last Run S f

pub order-first : (items : List ParserFrame) (f : ParserFrame) → 0 < length items → f ≡ get_or items 0 f
    → order_of (reverse items) ≡ order_of (f ∷ [])
order-first [] f lt e = absurd (omega (arith, lt))
order-first (g ∷ items) f lt e =
    ap order_of (reverse-append (g ∷ []) items) ∙ order_last Run (reverse items) g ∙ ap (λ h. order_of (h ∷ [])) (sym e)
