-- What is taken apart is put together again.
use Rattle.std.proofs.Common.{◌≡◌, ℕ, true, false, Bool, List, [], ◌∷◌, ◌++◌, Some, None, refl, ap, ◌∙◌, subst, cond, if◌then◌else◌, arith, length}
use Rattle.std.specs.Prelude.{◌||◌, IsTrue, nat_le}
use Rattle.std.specs.declared.option.Option.{Option}
use Rattle.std.specs.Option.{option_map}
use Rattle.term_core.specs.Tree.{Head, application, list, tuple, Tree, Trees, integer, branch, none, to_list, of_list, children, bare, list_term, tuple_term}
use Rattle.term_core.specs.Terms.{IsTerm}
use Rattle.term_core.specs.Word.{is_word}
use Rattle.term_core.proofs.TreeLemmas.{of_list-to_list, to_list-of_list}
use Rattle.prim_core.specs.Values.{string_term}
use Rattle.prim_extended.specs.Constructors.{quote, name_text, constructor_in, in_quotes, head_named, made_of, put_together_of, PartsMakeTheTerm}
use Rattle.prim_extended.proofs.QuoteLemmas.{before_quote-append}

-- ---- names

word_named : (text : List ℕ)
    → is_word text ≡ true → head_named text ≡ Some (application (record { text = text; is_quoted = false }))
word_named [] e = absurd (cc)
word_named (b ∷ bs) e =
    ap (λ w. cond w (Some (application (record { text = b ∷ bs; is_quoted = false })))
    (option_map (λ inner. application (record { text = inner; is_quoted = true })) (in_quotes (b ∷ bs)))) e

quoted_named : (text : List ℕ)
    → head_named (quote ∷ text ++ quote ∷ []) ≡ Some (application (record { text = text; is_quoted = true }))
quoted_named text =
    ap (option_map (λ inner. application (record { text = inner; is_quoted = true }))) (before_quote-append text quote)

named : (text : List ℕ) (is_quoted : Bool) → IsTrue (is_quoted || is_word text)
    → head_named (name_text (record { text = text; is_quoted = is_quoted }))
    ≡ Some (application (record { text = text; is_quoted = is_quoted }))
named text true h = quoted_named text
named text false h = word_named text (grind (arith, h))

-- ---- terms

-- a string in range is this one
in_range : (bytes : List ℕ) (b : Bool) (c : Tree) → (if b then Some (string_term bytes) else None) ≡ Some c
    → string_term bytes ≡ c
in_range bytes true c e = cc
in_range bytes false c e = absurd (cc)

headed : (head : Head) (kids : Trees) → Some (branch head (of_list (to_list kids)) none) ≡ Some (branch head kids none)
headed head kids = ap (λ ts. Some (branch head ts none)) (of_list-to_list kids)

made : (t : Tree) → IsTerm t → (c : Tree) → constructor_in t ≡ Some c → made_of c (children t) ≡ Some (bare t)
made (integer z notes) h c e =
    let is : integer z none ≡ c = cc in
    subst (λ c. made_of c [] ≡ Some (integer z none)) is refl
made (branch (application f) kids notes) h c e =
    let is : string_term (name_text f) ≡ c = in_range (name_text f) (nat_le (length (name_text f)) 65536) c e in
    subst (λ c. made_of c (to_list kids) ≡ Some (branch (application f) kids none)) is
    (ap (option_map (λ head. branch head (of_list (to_list kids)) none)) (named f.text f.is_quoted h.0.1)
    ∙ headed (application f) kids)
made (branch list kids notes) h c e =
    let is : list_term [] ≡ c = cc in
    subst (λ c. made_of c (to_list kids) ≡ Some (branch list kids none)) is (headed list kids)
made (branch tuple kids notes) h c e =
    let is : string_term [] ≡ c = cc in
    subst (λ c. made_of c (to_list kids) ≡ Some (branch tuple kids none)) is (headed tuple kids)

-- ---- the pair

pair_is : (us : List Tree) (o : Option Tree) (c l : Tree) → option_map (λ c. tuple_term (c ∷ list_term us ∷ [])) o
    ≡ Some (tuple_term (c ∷ l ∷ [])) → (o ≡ Some c) × (list_term us ≡ l)
pair_is us None c l e = absurd (cc)
pair_is us (Some d) c l e = (cc, cc)

pub parts_make_the_term : PartsMakeTheTerm
parts_make_the_term t c l h e =
    let is = pair_is (children t) (constructor_in t) c l e in
    subst (λ l. put_together_of (c ∷ l ∷ []) ≡ Some (bare t)) is.1
    (ap (made_of c) (to_list-of_list (children t)) ∙ made t h c is.0)
