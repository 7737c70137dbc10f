-- The text determines how a term begins.
use Rattle.std.proofs.Common.{◌≡◌, ◌≢◌, ℕ, ℤ, ◌+◌, ◌<◌, ◌==◌, ◌||◌, ◌&&◌, cond, MatchBool, rules, Bool, true, false, Some, None, List, [], ◌∷◌, length, take, drop, refl, sym, ap, ◌∙◌, subst, arith}
use Rattle.std.proofs.lemmas.Bool.Decides.{nat_tests}
use Rattle.std.specs.Char.{is_ascii_digit}
use Rattle.std.specs.List.{prefix_len}
use Rattle.std.specs.Str.Parse.{without_leading_sign}
use Rattle.std.specs.declared.option.Option.{Option}
use Rattle.term_core.specs.Word.{begins_word, continues_word, first_word}
use Rattle.aterm_text.specs.Tokens.{without_blanks, NextSign, NextWord, NextQuoted, IsInteger, integer_len, ReadsItems}
use Rattle.aterm_text.specs.inside.Beginnings.{Beginning, an_integer, a_name, a_list, a_tuple, Begins, NoLexeme}
use Rattle.aterm_text.specs.declared.reader.lexeme.Lexeme.TheVariants.{Integer, Named}
use Rattle.aterm_text.proofs.ScanLemmas.{items_only, same_pair}

-- no term begins at the start of x
abbrev pub NoTerm : List ℕ → Type 0
NoTerm x = (b : Beginning) (y : List ℕ) → Begins b x y → ⊥

-- ---- the first byte determines the kind of beginning: 0 if no term begins with it

abbrev pub class_of : ℕ → ℕ
class_of b = cond (b == 34) 2
    (cond (b == 91) 3 (cond (b == 40) 4 (cond (begins_word b) 1 (cond (is_ascii_digit b || (b == 45)) 5 0))))

abbrev pub name_class : Bool → ℕ
name_class true = 2
name_class false = 1

abbrev pub beginning_class : Beginning → ℕ
beginning_class (an_integer z) = 5
beginning_class (a_name name) = name_class name.is_quoted
beginning_class a_list = 3
beginning_class a_tuple = 4

class-word : (b : ℕ) → begins_word b ≡ true → class_of b ≡ 1
class-word b h = grind (arith, nat_tests)

class-integer : (b : ℕ) → (is_ascii_digit b || (b == 45)) ≡ true → class_of b ≡ 5
class-integer b h = grind (arith, nat_tests)

-- ---- the first byte of each kind of beginning

named_not : (quoted : Bool) (n : ℕ) → (n ≢ 2) × (n ≢ 1) → n ≡ name_class quoted → ⊥
named_not true n h e = h.0 e
named_not false n h e = h.1 e

and-true-left : (a b : Bool) → (a && b) ≡ true → a ≡ true
and-true-left true b h = refl
and-true-left false b h = h

-- the text begins with a byte of this class
pub record BeginsWith (text : List ℕ) (n : ℕ) : Type 0 where
  pub first : ℕ
  pub rest : List ℕ
  pub is : text ≡ first ∷ rest
  pub class : class_of first ≡ n

pub one_class : (text : List ℕ) (m n : ℕ) → BeginsWith text m → BeginsWith text n → m ≡ n
one_class text m n h k =
    let same : ◌≡◌ {A = List ℕ} (h.first ∷ h.rest) (k.first ∷ k.rest) = sym h.is ∙ k.is in
    let first : h.first ≡ k.first = cc in
    sym h.class ∙ ap class_of first ∙ k.class

digits_first : (b : ℕ) (bs : List ℕ) (minus digit : Bool)
    → 0 < length (without_leading_sign
    (take (cond minus (1 + prefix_len is_ascii_digit bs) (cond digit (1 + prefix_len is_ascii_digit bs) 0)) (b ∷ bs)))
    → (digit || minus) ≡ true
digits_first b bs true true h = refl
digits_first b bs true false h = refl
digits_first b bs false true h = refl
digits_first b bs false false h = absurd (omega arith)

integer-begins : (text : List ℕ) (z : ℤ) → IsInteger (take (integer_len text) text) z → BeginsWith text 5
integer-begins [] z h = let no : 0 < 0 = h.0.0 in absurd (omega arith)
integer-begins (b ∷ bs) z h = record {
  first = b;
  rest = bs;
  is = refl;
  class = class-integer b (digits_first b bs (b == 45) (is_ascii_digit b) h.0.0);
}

word_starts : (b : ℕ) (bs bytes y : List ℕ) (starts : Bool) → begins_word b ≡ starts
    → ◌≡◌ {A = Option (List ℕ × List ℕ)}
    (cond starts (Some (b ∷ take (prefix_len continues_word bs) bs, drop (prefix_len continues_word bs) bs)) None)
    (Some (bytes, y)) → begins_word b ≡ true
word_starts b bs bytes y true e h = e
word_starts b bs bytes y false e h = absurd (cc)

word-first : (bytes text y : List ℕ) → first_word text ≡ Some (bytes, y)
    → (b : ℕ) × (bs : List ℕ) × (text ≡ b ∷ bs) × (begins_word b ≡ true)
word-first bytes [] y h = absurd (cc)
word-first bytes (b ∷ bs) y h = (b, bs, refl, word_starts b bs bytes y (begins_word b) refl h)

word-begins : (bytes text y : List ℕ) → first_word text ≡ Some (bytes, y) → BeginsWith text 1
word-begins bytes text y h = let found = word-first bytes text y h in
    record { first = found.0; rest = found.1; is = found.2; class = class-word found.0 found.3 }

named-begins : (quoted : Bool) (bytes x y : List ℕ) → MatchBool quoted (NextQuoted bytes x y) (NextWord bytes x y)
    → BeginsWith (without_blanks x) (name_class quoted)
named-begins true bytes x y h = record { first = 34; rest = h.0; is = h.1; class = refl }
named-begins false bytes x y h = word-begins bytes (without_blanks x) y h

pub begins-class : (beginning : Beginning) (x y : List ℕ) → Begins beginning x y
    → BeginsWith (without_blanks x) (beginning_class beginning)
begins-class (an_integer z) x y h = integer-begins (without_blanks x) z h.0
begins-class (a_name name) x y h = named-begins name.is_quoted name.text x y h
begins-class a_list x y h = record { first = 91; rest = y; is = h; class = refl }
begins-class a_tuple x y h = record { first = 40; rest = y; is = h; class = refl }

-- a sign that begins no term
pub no_term-sign : (sign : ℕ) (x y : List ℕ) → class_of sign ≡ 0 → NextSign sign x y → NoTerm x
no_term-sign sign x y e h (an_integer z) w k = let no =
    one_class _ 0 5 (record { first = sign; rest = y; is = h; class = e }) (begins-class (an_integer z) x w k) in
    absurd (omega arith)
no_term-sign sign x y e h (a_name name) w k = named_not name.is_quoted 0 (search rules, search rules)
    (one_class _ 0 (name_class name.is_quoted) (record { first = sign; rest = y; is = h; class = e })
    (begins-class (a_name name) x w k))
no_term-sign sign x y e h a_list w k = let no =
    one_class _ 0 3 (record { first = sign; rest = y; is = h; class = e }) (begins-class a_list x w k) in
    absurd (omega arith)
no_term-sign sign x y e h a_tuple w k = let no =
    one_class _ 0 4 (record { first = sign; rest = y; is = h; class = e }) (begins-class a_tuple x w k) in
    absurd (omega arith)

-- ---- at most one beginning, and one rest, for a text

named_only : (q q' : Bool) (bytes bytes' x y z : List ℕ) → name_class q ≡ name_class q'
    → MatchBool q (NextQuoted bytes x y) (NextWord bytes x y)
    → MatchBool q' (NextQuoted bytes' x z) (NextWord bytes' x z) → (bytes ≡ bytes') × (q ≡ q') × (y ≡ z)
named_only true true bytes bytes' x y z e h k =
    let same : ◌≡◌ {A = List ℕ} (34 ∷ h.0) (34 ∷ k.0) = sym h.1 ∙ k.1 in
    let rests : h.0 ≡ k.0 = cc in
    let only = items_only bytes bytes' h.0 y z h.2 (subst (λ l. ReadsItems bytes' l z) (sym rests) k.2) in
    (only.0, refl, only.1)
named_only false false bytes bytes' x y z e h k = let same = same_pair bytes bytes' y z (sym h ∙ k) in
    (same.0, refl, same.1)
named_only true false bytes bytes' x y z e h k = absurd (omega arith)
named_only false true bytes bytes' x y z e h k = absurd (omega arith)

pub same_class : (beginning other : Beginning) (x y z : List ℕ) → Begins beginning x y → Begins other x z
    → beginning_class beginning ≡ beginning_class other
same_class beginning other x y z h k = one_class (without_blanks x) (beginning_class beginning) (beginning_class other)
    (begins-class beginning x y h) (begins-class other x z k)

pub begins_only : (beginning other : Beginning) (x y z : List ℕ) → Begins beginning x y → Begins other x z
    → (beginning ≡ other) × (y ≡ z)
begins_only (an_integer v) (an_integer w) x y z h k = (ap an_integer (sym h.0.1 ∙ k.0.1), h.1 ∙ sym k.1)
begins_only (a_name n) (a_name m) x y z h k =
    let only =
    named_only n.is_quoted m.is_quoted n.text m.text x y z (same_class (a_name n) (a_name m) x y z h k) h k in
    ((λ i. a_name (record { text = only.0 i; is_quoted = only.1 i })), only.2)
begins_only a_list a_list x y z h k = let same : ◌≡◌ {A = List ℕ} (91 ∷ y) (91 ∷ z) = sym h ∙ k in (refl, cc)
begins_only a_tuple a_tuple x y z h k = let same : ◌≡◌ {A = List ℕ} (40 ∷ y) (40 ∷ z) = sym h ∙ k in (refl, cc)
begins_only (an_integer v) (a_name m) x y z h k =
    absurd (named_not m.is_quoted 5 (search rules, search rules) (same_class (an_integer v) (a_name m) x y z h k))
begins_only (an_integer v) a_list x y z h k = let no = same_class (an_integer v) a_list x y z h k in
    absurd (omega arith)
begins_only (an_integer v) a_tuple x y z h k = let no = same_class (an_integer v) a_tuple x y z h k in
    absurd (omega arith)
begins_only (a_name n) (an_integer w) x y z h k =
    absurd (named_not n.is_quoted 5 (search rules, search rules) (sym (same_class (a_name n) (an_integer w) x y z h k)))
begins_only (a_name n) a_list x y z h k =
    absurd (named_not n.is_quoted 3 (search rules, search rules) (sym (same_class (a_name n) a_list x y z h k)))
begins_only (a_name n) a_tuple x y z h k =
    absurd (named_not n.is_quoted 4 (search rules, search rules) (sym (same_class (a_name n) a_tuple x y z h k)))
begins_only a_list (an_integer w) x y z h k = let no = same_class a_list (an_integer w) x y z h k in
    absurd (omega arith)
begins_only a_list (a_name m) x y z h k =
    absurd (named_not m.is_quoted 3 (search rules, search rules) (same_class a_list (a_name m) x y z h k))
begins_only a_list a_tuple x y z h k = let no = same_class a_list a_tuple x y z h k in absurd (omega arith)
begins_only a_tuple (an_integer w) x y z h k = let no = same_class a_tuple (an_integer w) x y z h k in
    absurd (omega arith)
begins_only a_tuple (a_name m) x y z h k =
    absurd (named_not m.is_quoted 4 (search rules, search rules) (same_class a_tuple (a_name m) x y z h k))
begins_only a_tuple a_list x y z h k = let no = same_class a_tuple a_list x y z h k in absurd (omega arith)

-- ---- no beginning at all

-- neither an integer nor a name, and no opening bracket
pub no_term-other : (x : List ℕ) → NoLexeme x
    → ((y : List ℕ) → NextSign 91 x y → ⊥) → ((y : List ℕ) → NextSign 40 x y → ⊥) → NoTerm x
no_term-other x no_lexeme no_list no_tuple (an_integer z) y h = no_lexeme (Integer z) y h
no_term-other x no_lexeme no_list no_tuple (a_name name) y h = no_lexeme (Named name) y h
no_term-other x no_lexeme no_list no_tuple a_list y h = no_list y h
no_term-other x no_lexeme no_list no_tuple a_tuple y h = no_tuple y h
