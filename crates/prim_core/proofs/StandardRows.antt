-- The standard meaning, computed on worked rows.
use Rattle.std.proofs.Common.{◌≡◌, ◌-◌, ◌^◌, [], ◌∷◌, Some, None, refl, codes, true, false}
use Rattle.std.specs.Prelude.{ℤ, pos, negsuc, List}
use Rattle.std.specs.Fmt.{digits}
use Rattle.term_core.specs.Tree.{Tree, integer, none, more, integer_term, tuple_term, application_term}
use Rattle.prim_core.specs.Values.{string_term}
use Rattle.prim_core.specs.Standard.{standard}

-- an integer with an annotation
abbrev noted : ℤ → Tree
noted z = integer z (more (integer_term (pos 9)) none)

abbrev pair : Tree → Tree → List Tree
pair t u = t ∷ (u ∷ [])

abbrev integers : ℤ → ℤ → List Tree
integers a b = pair (integer_term a) (integer_term b)

annotations_ignored : standard (codes "addi") (pair (integer_term (pos 2)) (noted (pos 3)))
    ≡ Some (integer_term (pos 5))
annotations_ignored = refl

sum_too_great : standard (codes "addi") (integers (pos (2 ^ 63 - 1)) (pos 1)) ≡ None
sum_too_great = refl

difference : standard (codes "subti") (integers (pos 2) (pos 3)) ≡ Some (integer_term (negsuc 0))
difference = refl

product : standard (codes "muli") (integers (negsuc 1) (pos 3)) ≡ Some (integer_term (negsuc 5))
product = refl

cut_towards_zero : standard (codes "divi") (integers (negsuc 6) (pos 2)) ≡ Some (integer_term (negsuc 2))
cut_towards_zero = refl

least_by_minus_one : standard (codes "divi") (integers (negsuc (2 ^ 63 - 1)) (negsuc 0)) ≡ None
least_by_minus_one = refl

divided_by_zero : standard (codes "divi") (integers (pos 7) (pos 0)) ≡ None
divided_by_zero = refl

greater : standard (codes "gti") (pair (noted (pos 2)) (integer_term (pos 1)))
    ≡ Some (tuple_term (integers (pos 2) (pos 1)))
greater = refl

not_greater : standard (codes "gti") (integers (pos 1) (pos 1)) ≡ None
not_greater = refl

joined : standard (codes "strcat") (pair (string_term (codes "ab")) (string_term (codes "c")))
    ≡ Some (string_term (codes "abc"))
joined = refl

word_is_no_string : standard (codes "strlen")
    (application_term (record { text = codes "ab"; is_quoted = false }) [] ∷ []) ≡ None
word_is_no_string = refl

applied_is_no_string : standard (codes "strlen")
    (application_term (record { text = codes "ab"; is_quoted = true }) (string_term [] ∷ []) ∷ []) ≡ None
applied_is_no_string = refl

no_bytes : standard (codes "strlen") (string_term [] ∷ []) ≡ Some (integer_term (pos 0))
no_bytes = refl

printed : standard (codes "int-to-string") (integer_term (negsuc 6) ∷ []) ≡ Some (string_term (codes "-7"))
unfolding digits
printed = refl

leading_zeros : standard (codes "string-to-int") (string_term (codes "-007") ∷ []) ≡ Some (integer_term (negsuc 6))
leading_zeros = refl

minus_zero : standard (codes "string-to-int") (string_term (codes "-0") ∷ []) ≡ Some (integer_term (pos 0))
minus_zero = refl

minus_alone : standard (codes "string-to-int") (string_term (codes "-") ∷ []) ≡ None
minus_alone = refl

no_digits : standard (codes "string-to-int") (string_term [] ∷ []) ≡ None
no_digits = refl

no_plus : standard (codes "string-to-int") (string_term (codes "+1") ∷ []) ≡ None
no_plus = refl

too_great : standard (codes "string-to-int") (string_term (codes "9223372036854775808") ∷ []) ≡ None
too_great = refl

least : standard (codes "string-to-int")
    (string_term (codes "-9223372036854775808") ∷ []) ≡ Some (integer_term (negsuc (2 ^ 63 - 1)))
least = refl

other_names : standard (codes "pow") (integers (pos 1) (pos 1)) ≡ None
other_names = refl

other_arities : standard (codes "addi") (integer_term (pos 1) ∷ []) ≡ None
other_arities = refl
