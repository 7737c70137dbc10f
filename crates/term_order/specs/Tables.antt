-- Tables: maps from terms to terms, as balanced search trees that are terms themselves.
use Rattle.std.specs.Prelude.{ℕ, pos, ◌+◌, ◌*◌, ◌^◌, min, nat_lt, Bool, true, false, ◌&&◌, IsTrue, List, [], ◌∷◌, ◌++◌, map, Some, None, if◌then◌else◌}
use Rattle.std.specs.declared.option.Option.{Option}
use Rattle.std.specs.Option.{option_map}
use Rattle.std.specs.Ordering.{match_ordering}
use Rattle.std.specs.FinMap.{is_sorted}
use Rattle.term_core.specs.Tree.{tuple, Tree, integer, branch, none, more, integer_term, tuple_term}
use Rattle.term_order.specs.Order.{compared}

-- A table is empty, or it is an entry with the number of all entries and two tables: of the lesser keys,
-- and of the greater ones. Another term may stand in a table's place.
pub data Table : Type 0 where
  empty : Table
  node : ℕ → Table → Tree → Tree → Table → Table
  other : Tree → Table

-- ---- as terms: `()`, and `(number,lesser,key,value,greater)`, as `(2,(),"a",1,(1,(),"b",2,()))`

abbrev pub table_of : Tree → Table
table_of (branch tuple none none) = empty
table_of (branch tuple (more (integer (pos n) none) (more l (more k (more v (more r none))))) none) =
    node n (table_of l) k v (table_of r)
table_of t = other t

abbrev pub term_of : Table → Tree
term_of empty = tuple_term []
term_of (node n l k v r) = tuple_term (integer_term (pos n) ∷ term_of l ∷ k ∷ v ∷ term_of r ∷ [])
term_of (other t) = t

-- ---- balance

-- the number of entries as a node says it, as far as it counts
abbrev pub weight : Table → ℕ
weight empty = 0
weight (node n l k v r) = min n (2 ^ 32)
weight (other t) = 0

abbrev pub joined : Table → Tree → Tree → Table → Table
joined l k v r = node (weight l + weight r + 1) l k v r

-- two entries with three tables; the entry in the middle becomes the root
abbrev pub parted : Table → Tree → Tree → Table → Tree → Tree → Table → Table
parted l k v (node n a y u b) x w r = joined (joined l k v a) y u (joined b x w r)
parted l k v m x w r = joined (joined l k v m) x w r

-- Each weight with one added: whether the first is less than a third of the second, or at most half
-- of it. These two make the trees stay low (Hirai and Yamamoto, "Balancing weight-balanced trees").
abbrev pub is_light : Table → Table → Bool
is_light l r = nat_lt ((weight l + 1) * 3) (weight r + 1)

abbrev pub is_half : Table → Table → Bool
is_half l r = nat_lt ((weight l + 1) * 2) (weight r + 2)

-- the right table is the heavier one
abbrev pub turned_left : Table → Tree → Tree → Table → Table
turned_left l k v (node n m x w r) =
    if is_half r m then parted l k v m x w r else joined (joined l k v m) x w r
turned_left l k v r = joined l k v r

-- the left table is the heavier one
abbrev pub turned_right : Table → Tree → Tree → Table → Table
turned_right (node n l x w m) k v r =
    if is_half l m then parted l x w m k v r else joined l x w (joined m k v r)
turned_right l k v r = joined l k v r

abbrev pub balanced : Table → Tree → Tree → Table → Table
balanced l k v r =
    if is_light l r then turned_left l k v r else
    if is_light r l then turned_right l k v r else joined l k v r

-- ---- what tables are for

abbrev pub get : Tree → Table → Option Tree
get k empty = None
get k (node n l x w r) = match_ordering (compared k x) (get k l) (Some w) (get k r)
get k (other t) = None

abbrev pub put : Tree → Tree → Table → Option Table
put k v empty = Some (joined empty k v empty)
put k v (node n l x w r) = match_ordering (compared k x)
    (option_map (λ m. balanced m x w r) (put k v l))
    (Some (joined l x v r))
    (option_map (λ m. balanced l x w m) (put k v r))
put k v (other t) = None

-- the first entry and the table of the others
abbrev pub first_taken : Table → Option ((Tree × Tree) × Table)
first_taken empty = None
first_taken (node n empty k v r) = Some ((k, v), r)
first_taken (node n l k v r) = option_map (λ p. (p.0, balanced p.1 k v r)) (first_taken l)
first_taken (other t) = None

-- the entries of two tables, those of the first before those of the second
abbrev pub merged : Table → Table → Option Table
merged l empty = Some l
merged l r = option_map (λ p. balanced l p.0.0 p.0.1 p.1) (first_taken r)

abbrev pub removed : Tree → Table → Option Table
removed k empty = Some empty
removed k (node n l x w r) = match_ordering (compared k x)
    (option_map (λ m. balanced m x w r) (removed k l))
    (merged l r)
    (option_map (λ m. balanced l x w m) (removed k r))
removed k (other t) = None

-- ---- the map that a table is

-- its entries in order
abbrev pub entries : Table → List (Tree × Tree)
entries empty = []
entries (node n l k v r) = entries l ++ ((k, v) ∷ entries r)
entries (other t) = []

-- whether no other term stands in the place of a table
abbrev pub is_whole : Table → Bool
is_whole empty = true
is_whole (node n l k v r) = is_whole l && is_whole r
is_whole (other t) = false

-- the keys rise
abbrev pub IsTable : Table → Type 0
IsTable t = IsTrue (is_whole t) × IsTrue (is_sorted compared (entries t))

-- its keys in order
abbrev pub keys : Table → Option (List Tree)
keys t = if is_whole t then Some (map (λ e. e.0) (entries t)) else None
