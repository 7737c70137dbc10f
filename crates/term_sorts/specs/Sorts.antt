-- Sorts: which terms are of which sort, by what signatures declare.
use Rattle.std.specs.Prelude.{◌≡◌, ◌⊎◌, ℕ, List, [], ◌∷◌, true, false, length, codes, Some, None, slice_get, if◌then◌else◌}
use Rattle.std.specs.declared.option.Option.{Option}
use Rattle.std.specs.List.{Any, Contains}
use Rattle.term_core.specs.Tree.{Symbol, same_name, application, list, tuple, Tree, Trees, integer, branch, none, more, to_list, children}

-- ---- sorts, and what declares them

-- A sort is a name with sorts as its arguments: `exp`, `list(exp)`.
mutual
  pub data Sort : Type 0 where
    sort : Symbol → Sorts → Sort

  pub data Sorts : Type 0 where
    no_sorts : Sorts
    and_sort : Sort → Sorts → Sorts

abbrev pub sorts_of : List Sort → Sorts
sorts_of [] = no_sorts
sorts_of (s ∷ ss) = and_sort s (sorts_of ss)

abbrev pub sort_list : Sorts → List Sort
sort_list no_sorts = []
sort_list (and_sort s ss) = s ∷ sort_list ss

abbrev pub name_of : Sort → Symbol
name_of (sort f ss) = f

abbrev pub arguments_of : Sort → List Sort
arguments_of (sort f ss) = sort_list ss

abbrev pub word : List ℕ → Symbol
word text = record { text = text; is_quoted = false }

-- `string` and `List` are other words for `str` and `list`.
abbrev pub plain : Symbol → Symbol
plain f =
    if same_name f (word (codes "string")) then word (codes "str") else
    if same_name f (word (codes "List")) then word (codes "list") else f

-- `c : s1 * .. * sn -> s`: c is a constructor of terms of the sort s, with n arguments of these sorts.
pub record Declaration : Type 0 where
  pub name : Symbol
  pub arguments : List Sort
  pub result : Sort

-- `: r -> s`: each term of the sort r is one of the sort s, too.
pub record Injection : Type 0 where
  pub from : Sort
  pub to : Sort

-- what the signatures of all modules declare
pub record Declared : Type 0 where
  pub constructors : List Declaration
  pub injections : List Injection

-- ---- the sorts that have terms of their own

-- of integers
abbrev pub int_sort : Sort
int_sort = sort (word (codes "int")) no_sorts

-- of strings
abbrev pub str_sort : Sort
str_sort = sort (word (codes "str")) no_sorts

-- `list(s)`, of lists whose elements are of the sort s, or `list`, of all lists
abbrev pub list_sort : Option Sort → Sort
list_sort None = sort (word (codes "list")) no_sorts
list_sort (Some s) = sort (word (codes "list")) (and_sort s no_sorts)

-- `tuple(s1,..,sn)`, of tuples of n terms of these sorts
abbrev pub tuple_sort : List Sort → Sort
tuple_sort ss = sort (word (codes "tuple")) (sorts_of ss)

-- ---- injections

-- Injections lead from r to s, by way of these sorts.
abbrev pub Lead : List Injection → Sort → List Sort → Sort → Type 0
Lead injections r [] s = r ≡ s
Lead injections r (q ∷ qs) s =
    Contains injections (record { from = r; to = q }) × Lead injections q qs s

-- The sort s takes the terms of r: it is r, or injections lead from r to it. Cycles do no harm.
abbrev pub Takes : List Injection → Sort → Sort → Type 0
Takes injections s r = (way : List Sort) × Lead injections r way s

-- ---- terms

-- what holds of the sort that a place wants, or of some sort where it wants none
abbrev pub OfWanted : (Sort → Type 0) → Option Sort → Type 0
OfWanted P None = (s : Sort) × P s
OfWanted P (Some s) = P s

-- A term is of a sort that takes what its root gives, if its children are of the sorts that the root
-- then wants. Annotations aren't looked at.
abbrev mutual
  pub HasSort : Declared → Sort → Tree → Type 0
  HasSort D s (integer z notes) = Takes D.injections s int_sort
  -- a string, or a constructor that is declared with so many arguments
  HasSort D s (branch (application f) kids notes) =
      ((f.is_quoted ≡ true) × (kids ≡ none) × Takes D.injections s str_sort)
      ⊎ Any (λ d. (d.name ≡ f) × Takes D.injections s d.result × HaveSorts D d.arguments kids) D.constructors
  HasSort D s (branch list kids notes) =
      (element : Option Sort) × Takes D.injections s (list_sort element) × AllConform D element kids
  HasSort D s (branch tuple kids notes) =
      (parts : List Sort) × Takes D.injections s (tuple_sort parts) × HaveSorts D parts kids

  -- each is of its own sort, and there are as many
  pub HaveSorts : Declared → List Sort → Trees → Type 0
  HaveSorts D [] none = Unit {0}
  HaveSorts D [] (more t ts) = ⊥
  HaveSorts D (s ∷ ss) none = ⊥
  HaveSorts D (s ∷ ss) (more t ts) = HasSort D s t × HaveSorts D ss ts

  -- all are what a place wants
  pub AllConform : Declared → Option Sort → Trees → Type 0
  AllConform D wanted none = Unit {0}
  AllConform D wanted (more t ts) = OfWanted (λ s. HasSort D s t) wanted × AllConform D wanted ts

-- The term is what a place wants: of this sort, or of any.
abbrev pub Conforms : Declared → Option Sort → Tree → Type 0
Conforms D wanted t = OfWanted (λ s. HasSort D s t) wanted

-- A term is well-sorted if it is of some sort.
abbrev pub IsWellSorted : Declared → Tree → Type 0
IsWellSorted D t = Conforms D None t

-- ---- declarations by which each place wants one sort

-- A constructor with so many arguments has one declaration, however often that is repeated.
abbrev pub AreDeclaredOnce : List Declaration → Type 0
AreDeclaredOnce declarations =
    (c d : Declaration) → Contains declarations c → Contains declarations d → c.name ≡ d.name
    → length c.arguments ≡ length d.arguments → c ≡ d

abbrev pub IsListSort : Sort → Type 0
IsListSort s = (element : Option Sort) × (s ≡ list_sort element)

abbrev pub IsTupleSort : Sort → ℕ → Type 0
IsTupleSort s n = (parts : List Sort) × (s ≡ tuple_sort parts) × (length parts ≡ n)

-- two sorts of lists, or of tuples of as many terms
abbrev pub AreAlike : Sort → Sort → Type 0
AreAlike r s = (IsListSort r × IsListSort s) ⊎ ((n : ℕ) × IsTupleSort r n × IsTupleSort s n)

-- No sort takes two sorts of lists, nor two of tuples of as many terms.
abbrev pub TakeNoneAlike : List Injection → Type 0
TakeNoneAlike injections =
    (s p q : Sort) → Takes injections s p → Takes injections s q → AreAlike p q → p ≡ q

abbrev pub AreAgreed : Declared → Type 0
AreAgreed D = AreDeclaredOnce D.constructors × TakeNoneAlike D.injections

-- ---- what places want

-- In a list or a tuple at a place that wants this, a child is at one that wants that.
abbrev pub FromOutside : (Sort → Option Sort → Type 0) → Option Sort → Option Sort → Type 0
FromOutside R None inside = inside ≡ None
FromOutside R (Some s) inside = R s inside

-- If the term is at a place that wants this, then child i, counted from 0, is at one that wants that.
abbrev pub WantsInside : Declared → Option Sort → Tree → ℕ → Option Sort → Type 0
WantsInside D wanted (integer z notes) i inside = ⊥
WantsInside D wanted (branch (application f) kids notes) i inside =
    Any (λ d. (d.name ≡ f) × (length d.arguments ≡ length (to_list kids)) × (inside ≡ slice_get d.arguments i))
    D.constructors
WantsInside D wanted (branch list kids notes) i inside =
    FromOutside (λ s element. Takes D.injections s (list_sort element)) wanted inside
WantsInside D wanted (branch tuple kids notes) i inside =
    FromOutside (λ s part. (parts : List Sort) × Takes D.injections s (tuple_sort parts)
    × (length parts ≡ length (to_list kids)) × (part ≡ slice_get parts i)) wanted inside

-- The same along a path.
abbrev pub WantsAt : Declared → Option Sort → Tree → List ℕ → Option Sort → Type 0
WantsAt D wanted t [] there = there ≡ wanted
WantsAt D wanted t (i ∷ path) there =
    (kid : Tree) × (inside : Option Sort) × (slice_get (children t) i ≡ Some kid)
    × WantsInside D wanted t i inside × WantsAt D inside kid path there
