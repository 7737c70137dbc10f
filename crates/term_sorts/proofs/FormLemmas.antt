-- Sorts of lists and tuples, by their names and arguments.
use Rattle.std.proofs.Common.{◌≡◌, ℕ, ◌≤◌, List, [], ◌∷◌, length, codes, Some, None, refl, sym, ap, ◌∙◌, arith}
use Rattle.std.specs.declared.option.Option.{Option}
use Rattle.term_core.specs.Tree.{Symbol}
use Rattle.term_sorts.specs.Sorts.{Sort, sort, no_sorts, and_sort, sorts_of, name_of, arguments_of, word, list_sort, tuple_sort, IsListSort, IsTupleSort}
use Rattle.term_sorts.specs.inside.SortView.{sort_of}
use Rattle.term_sorts.specs.declared.sort.Sort.TheInside.{Inside}
use Rattle.term_sorts.proofs.SortLemmas.{sort_list-sorts_of, sorts_of-sort_list}

pub is_list_sort : (f : Symbol) (ss : List Sort) → f ≡ word (codes "list")
    → length ss ≤ 1 → IsListSort (sort f (sorts_of ss))
is_list_sort f [] e h = (None, ap (λ (g : Symbol). sort g no_sorts) e)
is_list_sort f (s ∷ []) e h = (Some s, ap (λ (g : Symbol). sort g (and_sort s no_sorts)) e)
is_list_sort f (s ∷ (q ∷ ss)) e h = absurd (omega arith)

pub list_sort_name : (s : Sort) → IsListSort s → name_of s ≡ word (codes "list")
list_sort_name s (None, e) = ap name_of e
list_sort_name s (Some q, e) = ap name_of e

pub list_sort_short : (s : Sort) → IsListSort s → length (arguments_of s) ≤ 1
list_sort_short s (None, e) = omega (arith, ap (λ (x : Sort). length (arguments_of x)) e)
list_sort_short s (Some q, e) = omega (arith, ap (λ (x : Sort). length (arguments_of x)) e)

pub sort_again : (s : Sort) → sort (name_of s) (sorts_of (arguments_of s)) ≡ s
sort_again (sort f ss) = ap (sort f) (sorts_of-sort_list ss)

pub list_sort_of : (s : Sort) → name_of s ≡ word (codes "list") → length (arguments_of s) ≤ 1 → IsListSort s
list_sort_of s e h =
    let is = is_list_sort (name_of s) (arguments_of s) e h in (is.0, sym (sort_again s) ∙ is.1)

pub tuple_sort_of : (s : Sort) → name_of s ≡ word (codes "tuple") → s ≡ tuple_sort (arguments_of s)
tuple_sort_of s e = sym (sort_again s) ∙ ap (λ (g : Symbol). sort g (sorts_of (arguments_of s))) e

-- a tuple sort has one list of parts
pub parts_again : (ps : List Sort) → arguments_of (tuple_sort ps) ≡ ps
parts_again ps = sort_list-sorts_of ps

pub same_parts : (ps qs : List Sort) → tuple_sort ps ≡ tuple_sort qs → ps ≡ qs
same_parts ps qs e = sym (parts_again ps) ∙ ap arguments_of e ∙ parts_again qs

-- a list sort has one sort of elements, or none
abbrev pub element_of : List Sort → Option Sort
element_of [] = None
element_of (s ∷ ss) = Some s

pub element_again : (e : Option Sort) → element_of (arguments_of (list_sort e)) ≡ e
element_again None = refl
element_again (Some s) = refl

pub same_element : (d e : Option Sort) → list_sort d ≡ list_sort e → d ≡ e
same_element d e h = sym (element_again d) ∙ ap (λ (s : Sort). element_of (arguments_of s)) h ∙ element_again e

pub list_sort_again : (s : Sort) → IsListSort s → s ≡ list_sort (element_of (arguments_of s))
list_sort_again s (e, h) = h
    ∙ ap list_sort (sym (element_again e) ∙ ap (λ (x : Sort). element_of (arguments_of x)) (sym h))

pub tuple_is : (s : Sort) (n : ℕ) → IsTupleSort s n → (s ≡ tuple_sort (arguments_of s)) × (length (arguments_of s) ≡ n)
tuple_is s n (ps, e, l) =
    let same : arguments_of s ≡ ps = ap arguments_of e ∙ parts_again ps in
    (e ∙ ap tuple_sort (sym same), ap length same ∙ l)

-- no sort is one of lists and of tuples
pub list_no_tuple : (s : Sort) (n : ℕ) → IsListSort s → IsTupleSort s n → ⊥
list_no_tuple s n a b =
    let x = list_sort_name s a in
    let y : name_of s ≡ word (codes "tuple") = ap name_of b.1 in
    let z : word (codes "list") ≡ word (codes "tuple") = sym x ∙ y in
    let lengths : ◌≡◌ {A = ℕ} 4 5 = ap (λ (f : Symbol). length f.text) z in absurd (omega (arith, lengths))

-- ---- sorts as the program has them

pub name_read : (a : Inside) (s : Sort) → sort_of a ≡ s → name_of s ≡ a.name
name_read a s e = sym (ap name_of e)

pub arguments_read : (a : Inside) (s : Sort) → sort_of a ≡ s → arguments_of s ≡ a.arguments.items
arguments_read a s e = sym (ap arguments_of e) ∙ sort_list-sorts_of a.arguments.items
