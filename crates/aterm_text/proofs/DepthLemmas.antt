-- Tokens and open brackets: only brackets outside quotes count.
use Rattle.std.proofs.Common.{◌≡◌, ℕ, suc, ◌+◌, ◌-◌, ◌<◌, ◌≤◌, ◌==◌, ◌||◌, ◌&&◌, not, cond, if◌then◌else◌, max, Bool, MatchBool, true, false, List, [], ◌∷◌, length, drop, take, Some, None, refl, sym, ap, ◌∙◌, arith, nat_lt}
use Rattle.std.specs.List.{prefix_len}
use Rattle.std.specs.Char.{is_ascii_digit}
use Rattle.std.specs.declared.option.Option.{Option}
use Rattle.std.specs.Option.{option_map, option_map_or}
use Rattle.std.proofs.lemmas.Bool.Decides.{nat_tests}
use Rattle.term_core.specs.Word.{begins_word, continues_word, first_word}
use Rattle.term_core.specs.Tree.{Tree}
use Rattle.aterm_text.specs.Nesting.{greatest_open, outside_quotes, inside_quotes, after_backslash, open_after}
use Rattle.aterm_text.specs.Tokens.{is_blank, without_blanks, NextQuoted, NextWord, integer_len, ReadsItems, item_at, escape_at, octal_at, octal_value, is_octal_digit, are_octal_digits}
use Rattle.aterm_text.specs.inside.Beginnings.{Begins, beginning_of}
use Rattle.aterm_text.specs.inside.TermStack.{TermStack, OpenBracket, on_top, with_top, inside, first_closing, closes_first, closes}
use Rattle.aterm_text.specs.inside.Depth.{depth, IsTooDeep, IsAsDeep, KeepsDepth}
use Rattle.aterm_text.specs.declared.TheConstants.{MAX_NESTING}
use Rattle.aterm_text.specs.declared.reader.lexeme.Lexeme.{Lexeme}
use Rattle.aterm_text.specs.declared.reader.lexeme.Lexeme.TheVariants.{Integer, Named}
use Rattle.aterm_text.specs.declared.reader.stack.Opening.{Opening}
use Rattle.aterm_text.specs.declared.reader.stack.Opening.TheVariants.{Round, Square, Curly}
use Rattle.aterm_text.specs.declared.reader.machine.Progress.{Progress}
use Rattle.aterm_text.specs.declared.reader.machine.Progress.TheVariants.{More, Done}
use Rattle.aterm_text.proofs.ScanLemmas.{same_pair}

-- the greatest number of brackets open in x, if n are open before it
abbrev Greatest : ℕ → List ℕ → ℕ
Greatest n x = greatest_open n (outside_quotes x)

greatest-le : (n : ℕ) (x : List ℕ) → n ≤ greatest_open n x
greatest-le n [] = omega arith
greatest-le n (b ∷ bs) = omega arith

-- ---- bytes that are no quotes and no brackets

abbrev is_neutral : ℕ → Bool
is_neutral b = not (b == 34) && not ((b == 40) || (b == 91) || (b == 123)) && not ((b == 41) || (b == 93) || (b == 125))

neutral_so : (n b : ℕ) (x : List ℕ) (q o c : Bool)
    → (not q && not o && not c) ≡ true → open_after b n ≡ (if o then n + 1 else if c then n - 1 else n)
    → greatest_open n (if q then inside_quotes x else b ∷ outside_quotes x) ≡ Greatest n x
neutral_so n b x true o c h e = absurd (cc)
neutral_so n b x false true c h e = absurd (cc)
neutral_so n b x false false true h e = absurd (cc)
neutral_so n b x false false false h e = ap (λ m. max n (greatest_open m (outside_quotes x))) e
    ∙ omega (arith, greatest-le n (outside_quotes x))

neutral-byte : (n b : ℕ) (x : List ℕ) → is_neutral b ≡ true → Greatest n (b ∷ x) ≡ Greatest n x
neutral-byte n b x h =
    neutral_so n b x (b == 34) ((b == 40) || (b == 91) || (b == 123)) ((b == 41) || (b == 93) || (b == 125)) h refl

skip_more : (p : ℕ → Bool) (n b : ℕ) (x : List ℕ) (passes : Bool)
    → (passes ≡ true → is_neutral b ≡ true) → Greatest n (drop (prefix_len p x) x) ≡ Greatest n x
    → Greatest n (drop (cond passes (1 + prefix_len p x) 0) (b ∷ x)) ≡ Greatest n (b ∷ x)
skip_more p n b x true neutral h =
    let one : 1 + prefix_len p x ≡ suc (prefix_len p x) = omega arith in
    ap (λ k. Greatest n (drop k (b ∷ x))) one ∙ h ∙ sym (neutral-byte n b x (neutral refl))
skip_more p n b x false neutral h = refl

skip : (p : ℕ → Bool) → ((b : ℕ) → p b ≡ true → is_neutral b ≡ true) → (n : ℕ) (x : List ℕ)
    → Greatest n (drop (prefix_len p x) x) ≡ Greatest n x
skip p neutral n [] = refl
skip p neutral n (b ∷ x) = skip_more p n b x (p b) (neutral b) (skip p neutral n x)

blank-neutral : (b : ℕ) → is_blank b ≡ true → is_neutral b ≡ true
blank-neutral b h = grind (arith, nat_tests)

digit-neutral : (b : ℕ) → is_ascii_digit b ≡ true → is_neutral b ≡ true
digit-neutral b h = grind (arith, nat_tests)

begins-neutral : (b : ℕ) → begins_word b ≡ true → is_neutral b ≡ true
begins-neutral b h = grind (arith, nat_tests)

continues-neutral : (b : ℕ) → continues_word b ≡ true → is_neutral b ≡ true
continues-neutral b h = grind (arith, nat_tests)

pub blanks-skipped : (n : ℕ) (x : List ℕ) → Greatest n (without_blanks x) ≡ Greatest n x
blanks-skipped n x = skip is_blank blank-neutral n x

-- ---- signs

opens : (n m : ℕ) (x : List ℕ) → m ≡ n + 1 → max n (Greatest m x) ≡ Greatest (n + 1) x
opens n m x e = ap (λ k. max n (Greatest k x)) e ∙ omega (arith, greatest-le (n + 1) (outside_quotes x))

pub opening-round : (n : ℕ) (x : List ℕ) → Greatest n (40 ∷ x) ≡ Greatest (n + 1) x
opening-round n x = opens n (n + 1) x refl

pub opening-square : (n : ℕ) (x : List ℕ) → Greatest n (91 ∷ x) ≡ Greatest (n + 1) x
opening-square n x = opens n (n + 1) x refl

pub opening-curly : (n : ℕ) (x : List ℕ) → Greatest n (123 ∷ x) ≡ Greatest (n + 1) x
opening-curly n x = opens n (n + 1) x refl

pub comma-neutral : (n : ℕ) (x : List ℕ) → Greatest n (44 ∷ x) ≡ Greatest n x
comma-neutral n x = neutral-byte n 44 x refl

closes_so : (o : Opening) (n : ℕ) (x : List ℕ) (closing : ℕ) → closing ≡ closes o
    → Greatest n (closing ∷ x) ≡ max n (Greatest (n - 1) x)
closes_so Round n x closing e = ap (λ b. Greatest n (b ∷ x)) e
closes_so Square n x closing e = ap (λ b. Greatest n (b ∷ x)) e
closes_so Curly n x closing e = ap (λ b. Greatest n (b ∷ x)) e

closing_first : (open_brackets : List OpenBracket) (n : ℕ) (x : List ℕ) (closing : ℕ)
    → closes_first open_brackets ≡ Some closing → Greatest n (closing ∷ x) ≡ max n (Greatest (n - 1) x)
closing_first [] n x closing e = absurd (cc)
closing_first (g ∷ gs) n x closing e = let same : closing ≡ closes g.opening = cc in
    closes_so g.opening n x closing same

pub closing-byte : (s : TermStack) (n : ℕ) (x : List ℕ) (closing : ℕ) → first_closing s ≡ Some closing
    → Greatest n (closing ∷ x) ≡ max n (Greatest (n - 1) x)
closing-byte s n x closing e = closing_first s.open_brackets n x closing e

-- ---- quoted bytes

inside-plain : (b : ℕ) (x : List ℕ) (q k : Bool)
    → (b == 34) ≡ q → (b == 92) ≡ k → q ≡ false → k ≡ false → inside_quotes (b ∷ x) ≡ inside_quotes x
inside-plain b x q k p r e f =
    ap (λ c. cond c (outside_quotes x) (cond (b == 92) (after_backslash x) (inside_quotes x)))
    (p ∙ e) ∙ ap (λ c. cond c (after_backslash x) (inside_quotes x)) (r ∙ f)

octal-plain : (b : ℕ) (x : List ℕ) → is_octal_digit b ≡ true → inside_quotes (b ∷ x) ≡ inside_quotes x
octal-plain b x h = inside-plain b x false false (grind (arith, nat_tests)) (grind (arith, nat_tests)) refl refl

and_left : (a b : Bool) → (a && b) ≡ true → a ≡ true
and_left true b h = refl
and_left false b h = h

and_right : (a b : Bool) → (a && b) ≡ true → b ≡ true
and_right true b h = h
and_right false b h = absurd (cc)

octal_so : (a b c byte : ℕ) (rest left : List ℕ) (fits : Bool)
    → (are_octal_digits a b c && nat_lt (octal_value a b c) 256) ≡ fits
    → ◌≡◌ {A = Option (ℕ × List ℕ)} (option_map (λ v. (v, rest)) (if fits then Some (octal_value a b c) else None))
    (Some (byte, left)) → inside_quotes (b ∷ (c ∷ rest)) ≡ inside_quotes left
octal_so a b c byte rest left true p h =
    let digits : are_octal_digits a b c ≡ true = and_left _ _ p in
    octal-plain b (c ∷ rest) (and_right _ _ (and_left _ _ digits)) ∙ octal-plain c rest (and_right _ _ digits)
    ∙ ap inside_quotes (same_pair (octal_value a b c) byte rest left h).1
octal_so a b c byte rest left false p h = absurd (cc)

octal-inside : (a : ℕ) (x : List ℕ) (byte : ℕ) (left : List ℕ) → octal_at (a ∷ x) ≡ Some (byte, left)
    → inside_quotes x ≡ inside_quotes left
octal-inside a [] byte left h = absurd (cc)
octal-inside a (b ∷ []) byte left h = absurd (cc)
octal-inside a (b ∷ (c ∷ rest)) byte left h = octal_so a b c byte rest left _ refl h

escape_so : (d : ℕ) (x : List ℕ) (byte : ℕ) (left : List ℕ) (q k n t r : Bool)
    → option_map_or (λ (c : ℕ). Some (c, x)) (if q then Some 34 else if k then Some 92 else if n then Some 10 else if t
    then Some 9 else if r then Some 13 else None) (octal_at (d ∷ x)) ≡ Some (byte, left)
    → inside_quotes x ≡ inside_quotes left
escape_so d x byte left true k n t r h = ap inside_quotes (same_pair 34 byte x left h).1
escape_so d x byte left false true n t r h = ap inside_quotes (same_pair 92 byte x left h).1
escape_so d x byte left false false true t r h = ap inside_quotes (same_pair 10 byte x left h).1
escape_so d x byte left false false false true r h = ap inside_quotes (same_pair 9 byte x left h).1
escape_so d x byte left false false false false true h = ap inside_quotes (same_pair 13 byte x left h).1
escape_so d x byte left false false false false false h = octal-inside d x byte left h

escape-inside : (x : List ℕ) (byte : ℕ) (left : List ℕ) → escape_at x ≡ Some (byte, left)
    → after_backslash x ≡ inside_quotes left
escape-inside [] byte left h = absurd (cc)
escape-inside (d ∷ x) byte left h = escape_so d x byte left (d == 34) (d == 92) (d == 110) (d == 116) (d == 114) h

item_so : (b : ℕ) (x : List ℕ) (byte : ℕ) (left : List ℕ) (q k : Bool) → (b == 34) ≡ q → (b == 92) ≡ k
    → (if q then None else if k then escape_at x else Some (b, x)) ≡ Some (byte, left)
    → inside_quotes (b ∷ x) ≡ inside_quotes left
item_so b x byte left true k p r h = absurd (cc)
item_so b x byte left false true p r h =
    ap (λ c. cond c (outside_quotes x) (cond (b == 92) (after_backslash x) (inside_quotes x))) p
    ∙ ap (λ c. cond c (after_backslash x) (inside_quotes x)) r ∙ escape-inside x byte left h
item_so b x byte left false false p r h = inside-plain b x false false p r refl refl
    ∙ ap inside_quotes (same_pair b byte x left h).1

item-inside : (x : List ℕ) (byte : ℕ) (left : List ℕ) → item_at x ≡ Some (byte, left)
    → inside_quotes x ≡ inside_quotes left
item-inside [] byte left h = absurd (cc)
item-inside (b ∷ x) byte left h = item_so b x byte left (b == 34) (b == 92) refl refl h

items-inside : (bytes x y : List ℕ) → ReadsItems bytes x y → inside_quotes x ≡ outside_quotes y
items-inside [] x y h = ap inside_quotes h
items-inside (b ∷ bs) x y h = item-inside x b h.0 h.1 ∙ items-inside bs h.0 y h.2

-- ---- how a term begins

integer_so : (n b : ℕ) (x : List ℕ) (minus : Bool) → (b == 45) ≡ minus
    → Greatest n (drop (if minus then 1 + prefix_len is_ascii_digit x else prefix_len is_ascii_digit (b ∷ x)) (b ∷ x))
    ≡ Greatest n (b ∷ x)
integer_so n b x true e =
    let one : 1 + prefix_len is_ascii_digit x ≡ suc (prefix_len is_ascii_digit x) = omega arith in
    let neutral : is_neutral b ≡ true = grind (arith, nat_tests) in
    ap (λ k. Greatest n (drop k (b ∷ x))) one ∙ skip is_ascii_digit digit-neutral n x ∙ sym (neutral-byte n b x neutral)
integer_so n b x false e = skip is_ascii_digit digit-neutral n (b ∷ x)

integer-skipped : (n : ℕ) (x : List ℕ) → Greatest n (drop (integer_len x) x) ≡ Greatest n x
integer-skipped n [] = refl
integer-skipped n (b ∷ x) = integer_so n b x (b == 45) refl

word_so : (n b : ℕ) (x bytes y : List ℕ) (starts : Bool) → begins_word b ≡ starts
    → ◌≡◌ {A = Option (List ℕ × List ℕ)}
    (if starts then Some (b ∷ take (prefix_len continues_word x) x, drop (prefix_len continues_word x) x) else None)
    (Some (bytes, y))
    → Greatest n (b ∷ x) ≡ Greatest n y
word_so n b x bytes y true e h =
    neutral-byte n b x (begins-neutral b e) ∙ sym (skip continues_word continues-neutral n x)
    ∙ ap (Greatest n)
    (same_pair (b ∷ take (prefix_len continues_word x) x) bytes (drop (prefix_len continues_word x) x) y h).1
word_so n b x bytes y false e h = absurd (cc)

word-skipped : (n : ℕ) (x bytes y : List ℕ) → first_word x ≡ Some (bytes, y) → Greatest n x ≡ Greatest n y
word-skipped n [] bytes y h = absurd (cc)
word-skipped n (b ∷ x) bytes y h = word_so n b x bytes y (begins_word b) refl h

name_so : (n : ℕ) (quoted : Bool) (bytes x y : List ℕ) → MatchBool quoted (NextQuoted bytes x y) (NextWord bytes x y)
    → Greatest n (without_blanks x) ≡ Greatest n y
name_so n true bytes x y h = ap (Greatest n) h.1 ∙ ap (greatest_open n) (items-inside bytes h.0 y h.2)
name_so n false bytes x y h = word-skipped n (without_blanks x) bytes y h

after_blanks : (lexeme : Lexeme) (n : ℕ) (x y : List ℕ) → Begins (beginning_of lexeme) x y
    → Greatest n (without_blanks x) ≡ Greatest n y
after_blanks (Integer z) n x y h = sym (integer-skipped n (without_blanks x)) ∙ ap (Greatest n) (sym h.1)
after_blanks (Named name) n x y h = name_so n name.is_quoted name.text x y h

-- a lexeme opens no bracket
pub after_lexeme : (lexeme : Lexeme) (n : ℕ) (x y : List ℕ) → Begins (beginning_of lexeme) x y
    → Greatest n x ≡ Greatest n y
after_lexeme lexeme n x y h = sym (blanks-skipped n x) ∙ after_blanks lexeme n x y h

-- ---- the stack

top_so : (t : Tree) (outside : List Tree) (open_brackets : List OpenBracket)
    → depth (on_top t outside open_brackets) ≡ length open_brackets
top_so t outside [] = refl
top_so t outside (g ∷ gs) = refl

depth-top : (s s' : TermStack) (t : Tree) → s' ≡ with_top t s → depth s' ≡ depth s
depth-top s s' t e = ap depth e ∙ top_so t s.outside s.open_brackets

pub depth-inside : (s s' : TermStack) (o : Opening) (ts : List Tree) → s' ≡ inside o ts s → depth s' ≡ depth s + 1
depth-inside s s' o ts e = ap depth e ∙ omega arith

depth-opened : (s s' : TermStack) (t : Tree) (o : Opening) → s' ≡ inside o [] (with_top t s) → depth s' ≡ depth s + 1
depth-opened s s' t o e = depth-inside (with_top t s) s' o [] e ∙ ap (λ n. n + 1) (depth-top s (with_top t s) t refl)

nothing_so : (open_brackets : List OpenBracket) → closes_first open_brackets ≡ None → length open_brackets ≡ 0
nothing_so [] e = refl
nothing_so (g ∷ gs) e = absurd (cc)

pub depth-nothing : (s : TermStack) → first_closing s ≡ None → depth s ≡ 0
depth-nothing s e = nothing_so s.open_brackets e

-- closing removes one bracket
pub depth-left : (s s1 s' : TermStack) (o : Opening) (ts : List Tree) (t : Tree) → s ≡ inside o ts s1
    → s' ≡ with_top t s1 → depth s' ≡ depth s - 1
depth-left s s1 s' o ts t e f = omega (arith, depth-inside s1 s o ts e, depth-top s1 s' t f)

-- ---- steps

as_deep : (n n' : ℕ) (x x' : List ℕ) → Greatest n x ≡ Greatest n' x' → n' ≤ MAX_NESTING → IsAsDeep n x n' x'
as_deep n n' x x' e few = record { few = few; forth = λ h. omega (arith, e, h); back = λ h. omega (arith, e, h) }

as_deep-less : (n n' : ℕ) (x x' : List ℕ) → Greatest n x ≡ max n (Greatest n' x')
    → n ≤ MAX_NESTING → n' ≤ MAX_NESTING → IsAsDeep n x n' x'
as_deep-less n n' x x' e few' few =
    record { few = few; forth = λ h. omega (arith, e, h, few'); back = λ h. omega (arith, e, h) }

module _ (s s' : TermStack) (x y : List ℕ) where
  pub keeps-push : (t : Tree) → Greatest (depth s) x ≡ Greatest (depth s) y → s' ≡ with_top t s
      → depth s ≤ MAX_NESTING → IsAsDeep (depth s) x (depth s') y
  keeps-push t e same few =
      let d = depth-top s s' t same in
      as_deep (depth s) (depth s') x y (e ∙ ap (λ k. Greatest k y) (sym d)) (omega (arith, d))

  pub keeps-enter : (o : Opening) → Greatest (depth s) x ≡ Greatest (depth s + 1) y → s' ≡ inside o [] s
      → depth s < MAX_NESTING → depth s ≤ MAX_NESTING → IsAsDeep (depth s) x (depth s') y
  keeps-enter o e same less few =
      let d = depth-inside s s' o [] same in
      as_deep (depth s) (depth s') x y (e ∙ ap (λ k. Greatest k y) (sym d)) (omega (arith, d, less))

  pub keeps-open : (t : Tree) (o : Opening) → Greatest (depth s) x ≡ Greatest (depth s + 1) y
      → s' ≡ inside o [] (with_top t s) → depth s < MAX_NESTING → depth s ≤ MAX_NESTING
      → IsAsDeep (depth s) x (depth s') y
  keeps-open t o e same less few =
      let d = depth-opened s s' t o same in
      as_deep (depth s) (depth s') x y (e ∙ ap (λ k. Greatest k y) (sym d)) (omega (arith, d, less))

  pub keeps-close : (closing : ℕ) → first_closing s ≡ Some closing
      → x ≡ closing ∷ y → depth s' ≡ depth s - 1 → depth s ≤ MAX_NESTING → IsAsDeep (depth s) x (depth s') y
  keeps-close closing e next d few =
      as_deep-less (depth s) (depth s') x y
      (ap (Greatest (depth s)) next ∙ closing-byte s (depth s) y closing e
      ∙ ap (λ k. max (depth s) (Greatest k y)) (sym d)) few (omega (arith, d))

pub keeps-comma : (s : TermStack) (x y : List ℕ) → x ≡ 44 ∷ y → depth s ≤ MAX_NESTING → IsAsDeep (depth s) x (depth s) y
keeps-comma s x y next few =
    as_deep (depth s) (depth s) x y (ap (Greatest (depth s)) next ∙ comma-neutral (depth s) y) few

-- a step from a text that is equally deep
pub keeps-after : (s s' : TermStack) (x text : List ℕ) (step : Progress)
    → Greatest (depth s) x ≡ Greatest (depth s) text → KeepsDepth s text step s' → KeepsDepth s x step s'
keeps-after s s' x text (More state rest) e keeps = λ few.
    let k = keeps few in
    record {
      few = k.few;
      forth = λ h. k.forth (omega (arith, e, h));
      back = λ h. let g = k.back h in omega (arith, e, g);
    }
keeps-after s s' x text Done e keeps = λ few h. keeps few (omega (arith, e, h))

pub keeps-end : (s : TermStack) (x : List ℕ)
    → (length x == 0) ≡ true → depth s ≤ MAX_NESTING → IsTooDeep (depth s) x → ⊥
keeps-end s [] e few h = omega (arith, few, h)
keeps-end s (b ∷ x) e few h = let zero : length (b ∷ x) ≡ 0 = grind (arith, nat_tests) in omega (arith, zero)

-- too many brackets are open already
pub too-deep : (n : ℕ) (x y : List ℕ) → Greatest n x ≡ Greatest (n + 1) y → MAX_NESTING ≤ n → IsTooDeep n x
too-deep n x y e full = omega (arith, e, full, greatest-le (n + 1) (outside_quotes y))

pub too-deep-after : (n : ℕ) (x text : List ℕ) → Greatest n x ≡ Greatest n text → IsTooDeep n text → IsTooDeep n x
too-deep-after n x text e h = omega (arith, e, h)

-- ---- as the answers cite them

pub after_trim : (n : ℕ) (x text : List ℕ) → text ≡ without_blanks x → Greatest n x ≡ Greatest n text
after_trim n x text e = sym (blanks-skipped n x) ∙ ap (Greatest n) (sym e)

pub after_round : (n : ℕ) (x text y : List ℕ) → text ≡ without_blanks x
    → text ≡ 40 ∷ y → Greatest n x ≡ Greatest (n + 1) y
after_round n x text y e next = after_trim n x text e ∙ ap (Greatest n) next ∙ opening-round n y

pub after_curly : (n : ℕ) (x y : List ℕ) → x ≡ 123 ∷ y → Greatest n x ≡ Greatest (n + 1) y
after_curly n x y next = ap (Greatest n) next ∙ opening-curly n y

pub after_square : (n : ℕ) (x y : List ℕ) → x ≡ 91 ∷ y → Greatest n x ≡ Greatest (n + 1) y
after_square n x y next = ap (Greatest n) next ∙ opening-square n y
