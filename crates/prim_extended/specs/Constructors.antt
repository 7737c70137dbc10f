-- The primitives that take terms apart, into a constructor and children, and put them together.
use Rattle.std.specs.Prelude.{◌≡◌, ℕ, ◌==◌, false, true, List, [], ◌∷◌, ◌++◌, Some, None, if◌then◌else◌, option_and_then}
use Rattle.std.specs.declared.option.Option.{Option}
use Rattle.std.specs.Option.{option_map}
use Rattle.term_core.specs.Tree.{Symbol, Head, application, list, tuple, Tree, integer, branch, none, of_list, children, bare, integer_term, list_term, tuple_term}
use Rattle.term_core.specs.Terms.{IsTerm}
use Rattle.term_core.specs.Word.{is_word}
use Rattle.prim_core.specs.Values.{string_term, one, two}
use Rattle.prim_extended.specs.Bytes.{list_value, string_in_range}

abbrev pub quote : ℕ
quote = 34

-- a word, or a quoted name with its quotes; nothing in it is escaped
abbrev pub name_text : Symbol → List ℕ
name_text f = if f.is_quoted then quote ∷ f.text ++ quote ∷ [] else f.text

-- The constructor of a term: the text of a name as a string, `[]` for lists, `""` for tuples, and an
-- integer itself.
abbrev pub constructor_in : Tree → Option Tree
constructor_in (integer z notes) = Some (integer_term z)
constructor_in (branch (application f) kids notes) = string_in_range (name_text f)
constructor_in (branch list kids notes) = Some (list_term [])
constructor_in (branch tuple kids notes) = Some (string_term [])

-- The pair of the constructor and the list of the children. The annotations of the term are left out.
abbrev pub parts_of : Tree → Option Tree
parts_of t = option_map (λ c. tuple_term (c ∷ list_term (children t) ∷ [])) (constructor_in t)

abbrev pub taken_apart_of : List Tree → Option Tree
taken_apart_of arguments = one parts_of arguments

-- what is before a quote at the end
abbrev pub before_quote : List ℕ → Option (List ℕ)
before_quote [] = None
before_quote (b ∷ []) = if b == quote then Some [] else None
before_quote (b ∷ c ∷ bs) = option_map (λ inner. b ∷ inner) (before_quote (c ∷ bs))

-- what stands between quotes
abbrev pub in_quotes : List ℕ → Option (List ℕ)
in_quotes [] = None
in_quotes (b ∷ bs) = if b == quote then before_quote bs else None

-- the head that a string names, if it names one
abbrev pub head_named : List ℕ → Option Head
head_named [] = Some tuple
head_named (b ∷ bs) =
    if is_word (b ∷ bs) then Some (application (record { text = b ∷ bs; is_quoted = false }))
    else option_map (λ inner. application (record { text = inner; is_quoted = true })) (in_quotes (b ∷ bs))

-- the term of a constructor and children
abbrev pub made_of : Tree → List Tree → Option Tree
made_of (integer z notes) [] = Some (integer_term z)
made_of (branch list none notes) us = Some (list_term us)
made_of (branch (application f) none notes) us =
    if f.is_quoted then option_map (λ head. branch head (of_list us) none) (head_named f.text) else None
made_of c us = None

abbrev pub put_together_of : List Tree → Option Tree
put_together_of arguments =
    option_and_then (λ p. option_and_then (made_of p.0) (list_value p.1)) (two Some arguments)

-- What is taken apart is put together again, without the annotations of the root.
abbrev pub PartsMakeTheTerm : Type 0
PartsMakeTheTerm = (t constructor children : Tree) → IsTerm t
    → parts_of t ≡ Some (tuple_term (constructor ∷ children ∷ []))
    → put_together_of (constructor ∷ children ∷ []) ≡ Some (bare t)
