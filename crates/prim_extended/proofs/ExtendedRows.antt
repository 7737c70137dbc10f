-- The meaning of the extended primitives, computed on worked rows.
use Rattle.std.proofs.Common.{◌≡◌, ◌-◌, ◌^◌, false, [], ◌∷◌, Some, None, refl, codes}
use Rattle.std.specs.Prelude.{ℕ, ℤ, pos, negsuc, List}
use Rattle.term_core.specs.Tree.{Tree, application, integer, branch, none, more, integer_term, application_term, list_term, tuple_term}
use Rattle.prim_core.specs.Values.{string_term}
use Rattle.prim_core.specs.Standard.{standard}
use Rattle.prim_extended.specs.Extended.{extended}

-- an integer with an annotation
abbrev noted : ℤ → Tree
noted z = integer z (more (integer_term (pos 9)) none)

abbrev pair : Tree → Tree → List Tree
pair t u = t ∷ (u ∷ [])

abbrev strings : List ℕ → List ℕ → List Tree
strings a b = pair (string_term a) (string_term b)

abbrev integers : ℤ → ℤ → List Tree
integers a b = pair (integer_term a) (integer_term b)

-- ---- strings as lists

exploded : extended (codes "explode-string")
    (string_term (codes "aZ") ∷ []) ≡ Some (list_term (integers (pos 97) (pos 90)))
exploded = refl

exploded_nothing : extended (codes "explode-string") (string_term [] ∷ []) ≡ Some (list_term [])
exploded_nothing = refl

no_string : extended (codes "explode-string") (integer_term (pos 97) ∷ []) ≡ None
no_string = refl

imploded : extended (codes "implode-string")
    (list_term (pair (noted (pos 97)) (integer_term (pos 90))) ∷ []) ≡ Some (string_term (codes "aZ"))
imploded = refl

imploded_nothing : extended (codes "implode-string") (list_term [] ∷ []) ≡ Some (string_term [])
imploded_nothing = refl

greatest_byte : extended (codes "implode-string")
    (list_term (integer_term (pos 255) ∷ []) ∷ []) ≡ Some (string_term (255 ∷ []))
greatest_byte = refl

above_bytes : extended (codes "implode-string") (list_term (integers (pos 97) (pos 256)) ∷ []) ≡ None
above_bytes = refl

below_bytes : extended (codes "implode-string") (list_term (integer_term (negsuc 0) ∷ []) ∷ []) ≡ None
below_bytes = refl

no_list : extended (codes "implode-string") (tuple_term (integers (pos 97) (pos 90)) ∷ []) ≡ None
no_list = refl

-- ---- the order of strings

greater_byte : extended (codes "gts") (strings (codes "b") (codes "ab"))
    ≡ Some (tuple_term (strings (codes "b") (codes "ab")))
greater_byte = refl

longer : extended (codes "gts") (strings (codes "ab") (codes "a"))
    ≡ Some (tuple_term (strings (codes "ab") (codes "a")))
longer = refl

shorter : extended (codes "gts") (strings (codes "a") (codes "ab")) ≡ None
shorter = refl

the_same : extended (codes "gts") (strings (codes "a") (codes "a")) ≡ None
the_same = refl

-- ---- remainders

remainder : extended (codes "modi") (integers (pos 7) (pos 2)) ≡ Some (integer_term (pos 1))
remainder = refl

negative_dividend : extended (codes "modi") (integers (negsuc 6) (pos 2)) ≡ Some (integer_term (negsuc 0))
negative_dividend = refl

negative_divisor : extended (codes "modi") (integers (pos 7) (negsuc 1)) ≡ Some (integer_term (pos 1))
negative_divisor = refl

least_by_minus_one : extended (codes "modi") (integers (negsuc (2 ^ 63 - 1)) (negsuc 0)) ≡ Some (integer_term (pos 0))
least_by_minus_one = refl

divided_by_zero : extended (codes "modi") (integers (pos 7) (pos 0)) ≡ None
divided_by_zero = refl

-- ---- constructors

abbrev word : List ℕ → List Tree → Tree
word text us = application_term (record { text = text; is_quoted = false }) us

taken_apart : extended (codes "explode-term") (branch (application (record { text = codes "F"; is_quoted = false }))
    (more (noted (pos 1)) none) (more (integer_term (pos 3)) none) ∷ [])
    ≡ Some (tuple_term (pair (string_term (codes "F")) (list_term (noted (pos 1) ∷ []))))
taken_apart = refl

string_taken_apart : extended (codes "explode-term")
    (string_term (codes "a") ∷ []) ≡ Some (tuple_term (pair (string_term (34 ∷ 97 ∷ 34 ∷ [])) (list_term [])))
string_taken_apart = refl

put_together : extended (codes "mkterm") (pair (string_term (codes "F")) (list_term (integer_term (pos 1) ∷ [])))
    ≡ Some (word (codes "F") (integer_term (pos 1) ∷ []))
put_together = refl

string_put_together : extended (codes "mkterm") (pair (string_term (34 ∷ 97 ∷ 34 ∷ 98 ∷ 34 ∷ [])) (list_term []))
    ≡ Some (string_term (97 ∷ 34 ∷ 98 ∷ []))
string_put_together = refl

half_quoted : extended (codes "mkterm") (pair (string_term (34 ∷ 97 ∷ [])) (list_term [])) ≡ None
half_quoted = refl

one_quote : extended (codes "mkterm") (pair (string_term (34 ∷ [])) (list_term [])) ≡ None
one_quote = refl

no_word : extended (codes "mkterm") (pair (string_term (codes "a b")) (list_term [])) ≡ None
no_word = refl

integer_with_children : extended (codes "mkterm")
    (pair (integer_term (pos 7)) (list_term (integer_term (pos 1) ∷ []))) ≡ None
integer_with_children = refl

-- ---- the order on terms

integers_first : extended (codes "compare") (pair (noted (pos 9)) (word (codes "F") []))
    ≡ Some (integer_term (negsuc 0))
integers_first = refl

the_same_term : extended (codes "compare") (pair (noted (pos 9)) (noted (pos 9))) ≡ Some (integer_term (pos 0))
the_same_term = refl

annotation_after : extended (codes "compare") (pair (noted (pos 9)) (integer_term (pos 9)))
    ≡ Some (integer_term (pos 1))
annotation_after = refl

-- ---- lists

counted : extended (codes "list-length") (list_term (integers (pos 7) (pos 7)) ∷ []) ≡ Some (integer_term (pos 2))
counted = refl

tuple_not_counted : extended (codes "list-length") (tuple_term (integers (pos 7) (pos 7)) ∷ []) ≡ None
tuple_not_counted = refl

reversed : extended (codes "list-reverse") (list_term (pair (noted (pos 1)) (integer_term (pos 2))) ∷ [])
    ≡ Some (list_term (pair (integer_term (pos 2)) (noted (pos 1))))
reversed = refl

concatenated : extended (codes "list-concat")
    (list_term (list_term (integers (pos 1) (pos 2)) ∷ list_term [] ∷ list_term (noted (pos 3) ∷ []) ∷ []) ∷ [])
    ≡ Some (list_term (integer_term (pos 1) ∷ integer_term (pos 2) ∷ noted (pos 3) ∷ []))
concatenated = refl

no_list_among_lists : extended (codes "list-concat") (list_term (pair (list_term []) (tuple_term [])) ∷ []) ≡ None
no_list_among_lists = refl

placed : extended (codes "list-index") (pair (noted (pos 1))
    (list_term (integer_term (pos 1) ∷ noted (pos 1) ∷ noted (pos 1) ∷ []))) ≡ Some (integer_term (pos 1))
placed = refl

in_no_place : extended (codes "list-index") (pair (noted (pos 1)) (list_term (integers (pos 1) (pos 2)))) ≡ None
in_no_place = refl

looked_up : extended (codes "list-lookup")
    (pair (integer_term (pos 1)) (list_term (integer_term (pos 1) ∷ tuple_term (integers (pos 2) (pos 1))
    ∷ tuple_term (pair (integer_term (pos 1)) (noted (pos 3))) ∷ tuple_term (integers (pos 1) (pos 4)) ∷ [])))
    ≡ Some (noted (pos 3))
looked_up = refl

no_such_key : extended (codes "list-lookup") (pair (integer_term (pos 1)) (list_term
    (list_term (integers (pos 1) (pos 2)) ∷ tuple_term (integer_term (pos 1) ∷ integers (pos 2) (pos 3)) ∷ []))) ≡ None
no_such_key = refl

in_order : extended (codes "list-sort") (list_term (integer_term (pos 3) ∷ noted (pos 1) ∷ list_term []
    ∷ integers (pos 1) (pos 3)) ∷ [])
    ≡ Some
    (list_term (integer_term (pos 1) ∷ noted (pos 1) ∷ integer_term (pos 3) ∷ integer_term (pos 3) ∷ list_term [] ∷ []))
in_order = refl

no_order : extended (codes "list-sort") (tuple_term (integers (pos 2) (pos 1)) ∷ []) ≡ None
no_order = refl

left_over : extended (codes "list-without") (pair (list_term (integer_term (pos 3) ∷ noted (pos 1)
    ∷ integers (pos 2) (pos 3))) (list_term (integers (pos 2) (pos 1))))
    ≡ Some (list_term (integer_term (pos 3) ∷ noted (pos 1) ∷ integer_term (pos 3) ∷ []))
left_over = refl

without_no_list : extended (codes "list-without") (pair (list_term []) (integer_term (pos 1))) ≡ None
without_no_list = refl

-- ---- strings

searched : extended (codes "string-search") (strings (codes "abab") (codes "ba")) ≡ Some (integer_term (pos 1))
searched = refl

searched_for_nothing : extended (codes "string-search") (strings [] []) ≡ Some (integer_term (pos 0))
searched_for_nothing = refl

not_there : extended (codes "string-search") (strings (codes "ab") (codes "abc")) ≡ None
not_there = refl

split_up : extended (codes "string-split") (strings (codes ",a,") (codes ","))
    ≡ Some (list_term (string_term [] ∷ string_term (codes "a") ∷ string_term [] ∷ []))
split_up = refl

overlapping : extended (codes "string-split") (strings (codes "aaa") (codes "aa"))
    ≡ Some (list_term (strings [] (codes "a")))
overlapping = refl

split_at_nothing : extended (codes "string-split") (strings (codes "a") []) ≡ None
split_at_nothing = refl

joined : extended (codes "string-join") (pair (list_term (strings (codes "a") (codes "b"))) (string_term (codes ", ")))
    ≡ Some (string_term (codes "a, b"))
joined = refl

nothing_joined : extended (codes "string-join") (pair (list_term []) (string_term (codes ","))) ≡ Some (string_term [])
nothing_joined = refl

no_string_joined : extended (codes "string-join")
    (pair (list_term (pair (string_term []) (integer_term (pos 1)))) (string_term [])) ≡ None
no_string_joined = refl

in_characters : extended (codes "string-characters") (string_term (97 ∷ 195 ∷ 169 ∷ 226 ∷ 130 ∷ 172 ∷ []) ∷ [])
    ≡ Some (list_term (string_term (97 ∷ []) ∷ strings (195 ∷ 169 ∷ []) (226 ∷ 130 ∷ 172 ∷ [])))
in_characters = refl

no_characters : extended (codes "string-characters") (string_term [] ∷ []) ≡ Some (list_term [])
no_characters = refl

begun_before : extended (codes "string-characters") (string_term (169 ∷ 191 ∷ 192 ∷ []) ∷ [])
    ≡ Some (list_term (strings (169 ∷ 191 ∷ []) (192 ∷ [])))
begun_before = refl

upper : extended (codes "upper-case") (string_term (codes "az{Z0") ∷ []) ≡ Some (string_term (codes "AZ{Z0"))
upper = refl

lower : extended (codes "lower-case") (string_term (codes "AZ[z0") ∷ []) ≡ Some (string_term (codes "az[z0"))
lower = refl

-- ---- the names of the standard primitives, on all terms

addi_agrees : (terms : List Tree) → extended (codes "addi") terms ≡ standard (codes "addi") terms
addi_agrees terms = refl

subti_agrees : (terms : List Tree) → extended (codes "subti") terms ≡ standard (codes "subti") terms
subti_agrees terms = refl

muli_agrees : (terms : List Tree) → extended (codes "muli") terms ≡ standard (codes "muli") terms
muli_agrees terms = refl

divi_agrees : (terms : List Tree) → extended (codes "divi") terms ≡ standard (codes "divi") terms
divi_agrees terms = refl

gti_agrees : (terms : List Tree) → extended (codes "gti") terms ≡ standard (codes "gti") terms
gti_agrees terms = refl

strcat_agrees : (terms : List Tree) → extended (codes "strcat") terms ≡ standard (codes "strcat") terms
strcat_agrees terms = refl

strlen_agrees : (terms : List Tree) → extended (codes "strlen") terms ≡ standard (codes "strlen") terms
strlen_agrees terms = refl

int_to_string_agrees : (terms : List Tree)
    → extended (codes "int-to-string") terms ≡ standard (codes "int-to-string") terms
int_to_string_agrees terms = refl

string_to_int_agrees : (terms : List Tree)
    → extended (codes "string-to-int") terms ≡ standard (codes "string-to-int") terms
string_to_int_agrees terms = refl
