-- The table of the extended primitives.
use Rattle.std.specs.Prelude.{ℕ, List, [], ◌∷◌, ◌++◌, codes}
use Rattle.prim_core.specs.Signature.{Signature}
use Rattle.prim_core.specs.StandardTable.{standard_signatures}
use Rattle.prim_extended.specs.declared.operations.ExtendedOperation.{ExtendedOperation}
use Rattle.prim_extended.specs.declared.operations.ExtendedOperation.TheVariants.{OnTerms, Compare, TablePut, TableGet, TableRemove, TableKeys, ListLength, ListReverse, ListSort, ListWithout, ListConcat, ListIndex, ListLookup}
use Rattle.prim_extended.specs.declared.operations.TermOperation.TheVariants.{Addi, Subti, Muli, Divi, Gti, Strcat, Strlen, IntToString, StringToInt, ExplodeString, ImplodeString, Gts, Modi, StripAnnos, EqIgnoreAnnos, ExplodeTerm, Mkterm, GreatestNumber, StringSearch, StringSplit, StringJoin, StringCharacters, UpperCase, LowerCase}

abbrev signature : List ℕ → ℕ → Signature
signature name arity = record { name = name; arity = arity }

-- their names and arities, in order, the standard ones first
abbrev pub extended_signatures : List Signature
extended_signatures = standard_signatures
    ++ (signature (codes "explode-string") 1 ∷ (signature (codes "implode-string") 1
    ∷ (signature (codes "gts") 2 ∷ (signature (codes "modi") 2
    ∷ (signature (codes "strip-annos") 1 ∷ (signature (codes "eq-ignore-annos") 2
    ∷ (signature (codes "explode-term") 1 ∷ (signature (codes "mkterm") 2
    ∷ (signature (codes "greatest-number") 2 ∷ (signature (codes "compare") 2
    ∷ (signature (codes "table-put") 3 ∷ (signature (codes "table-get") 2
    ∷ (signature (codes "table-remove") 2 ∷ (signature (codes "table-keys") 1
    ∷ (signature (codes "list-length") 1 ∷ (signature (codes "list-reverse") 1
    ∷ (signature (codes "list-sort") 1
    ∷ (signature (codes "list-concat") 1 ∷ (signature (codes "list-without") 2
    ∷ (signature (codes "list-index") 2
    ∷ (signature (codes "list-lookup") 2 ∷ (signature (codes "string-search") 2
    ∷ (signature (codes "string-split") 2 ∷ (signature (codes "string-join") 2
    ∷ (signature (codes "string-characters") 1
    ∷ (signature (codes "upper-case") 1 ∷ (signature (codes "lower-case") 1 ∷ [])))))))))))))))))))))))))))

-- ---- each as a value

abbrev pub name_of : ExtendedOperation → List ℕ
name_of (OnTerms Addi) = codes "addi"
name_of (OnTerms Subti) = codes "subti"
name_of (OnTerms Muli) = codes "muli"
name_of (OnTerms Divi) = codes "divi"
name_of (OnTerms Gti) = codes "gti"
name_of (OnTerms Strcat) = codes "strcat"
name_of (OnTerms Strlen) = codes "strlen"
name_of (OnTerms IntToString) = codes "int-to-string"
name_of (OnTerms StringToInt) = codes "string-to-int"
name_of (OnTerms ExplodeString) = codes "explode-string"
name_of (OnTerms ImplodeString) = codes "implode-string"
name_of (OnTerms Gts) = codes "gts"
name_of (OnTerms Modi) = codes "modi"
name_of (OnTerms StripAnnos) = codes "strip-annos"
name_of (OnTerms EqIgnoreAnnos) = codes "eq-ignore-annos"
name_of (OnTerms ExplodeTerm) = codes "explode-term"
name_of (OnTerms Mkterm) = codes "mkterm"
name_of (OnTerms GreatestNumber) = codes "greatest-number"
name_of (OnTerms StringSearch) = codes "string-search"
name_of (OnTerms StringSplit) = codes "string-split"
name_of (OnTerms StringJoin) = codes "string-join"
name_of (OnTerms StringCharacters) = codes "string-characters"
name_of (OnTerms UpperCase) = codes "upper-case"
name_of (OnTerms LowerCase) = codes "lower-case"
name_of Compare = codes "compare"
name_of TablePut = codes "table-put"
name_of TableGet = codes "table-get"
name_of TableRemove = codes "table-remove"
name_of TableKeys = codes "table-keys"
name_of ListLength = codes "list-length"
name_of ListReverse = codes "list-reverse"
name_of ListSort = codes "list-sort"
name_of ListWithout = codes "list-without"
name_of ListConcat = codes "list-concat"
name_of ListIndex = codes "list-index"
name_of ListLookup = codes "list-lookup"

abbrev pub arity_of : ExtendedOperation → ℕ
arity_of (OnTerms Addi) = 2
arity_of (OnTerms Subti) = 2
arity_of (OnTerms Muli) = 2
arity_of (OnTerms Divi) = 2
arity_of (OnTerms Gti) = 2
arity_of (OnTerms Strcat) = 2
arity_of (OnTerms Strlen) = 1
arity_of (OnTerms IntToString) = 1
arity_of (OnTerms StringToInt) = 1
arity_of (OnTerms ExplodeString) = 1
arity_of (OnTerms ImplodeString) = 1
arity_of (OnTerms Gts) = 2
arity_of (OnTerms Modi) = 2
arity_of (OnTerms StripAnnos) = 1
arity_of (OnTerms EqIgnoreAnnos) = 2
arity_of (OnTerms ExplodeTerm) = 1
arity_of (OnTerms Mkterm) = 2
arity_of (OnTerms GreatestNumber) = 2
arity_of (OnTerms StringSearch) = 2
arity_of (OnTerms StringSplit) = 2
arity_of (OnTerms StringJoin) = 2
arity_of (OnTerms StringCharacters) = 1
arity_of (OnTerms UpperCase) = 1
arity_of (OnTerms LowerCase) = 1
arity_of Compare = 2
arity_of TablePut = 3
arity_of TableGet = 2
arity_of TableRemove = 2
arity_of TableKeys = 1
arity_of ListLength = 1
arity_of ListReverse = 1
arity_of ListSort = 1
arity_of ListWithout = 2
arity_of ListConcat = 1
arity_of ListIndex = 2
arity_of ListLookup = 2
