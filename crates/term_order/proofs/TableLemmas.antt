-- Tables are maps: what stands in them, before and after.
use Rattle.std.proofs.Common.{◌≡◌, ℕ, Bool, true, false, ◌&&◌, List, [], ◌∷◌, ◌++◌, Some, None, refl, sym, ap, subst, ◌∙◌, cond, if◌then◌else◌, append_assoc}
use Rattle.std.specs.Prelude.{IsTrue, T, not, pos, negsuc}
use Rattle.std.specs.declared.option.Option.{Option}
use Rattle.std.specs.Option.{option_map}
use Rattle.std.specs.declared.cmp.Ordering.{Ordering}
use Rattle.std.specs.declared.cmp.Ordering.TheVariants.{Less, Equal, Greater}
use Rattle.std.specs.Ordering.{is_lt, is_eq, eq_by_cmp, match_ordering, ordering_reverse}
use Rattle.std.specs.Cmp.{alike_right, eq_by_cmp_equiv}
use Rattle.std.specs.FinMap.Entries.{find, put as put_among, where_key, below_all, is_sorted, by_order, is_sorted-put, is_sorted-where_key, find-put, find-where_key}
use Rattle.term_core.specs.Tree.{application, list, tuple, Tree, integer, branch, none, more}
use Rattle.term_order.specs.Order.{compared}
use Rattle.term_order.specs.Tables.{Table, empty, node, other, joined, parted, is_light, is_half, turned_left, turned_right, balanced, get, put, first_taken, merged, removed, entries, is_whole, IsTable}
use Rattle.term_order.specs.TableLaws.{TermsAreTheirTables, EmptyIsTable, PutPuts, RemovedRemoves}
use Rattle.term_order.proofs.OrderLemmas.{order, same_terms}

-- ---- tests that hold

first_of : (a b : Bool) → IsTrue (a && b) → IsTrue a
first_of true b h = refl
first_of false b h = h

second_of : (a b : Bool) → IsTrue (a && b) → IsTrue b
second_of true b h = h
second_of false b h = absurd (cc)

both_hold : (a b : Bool) → IsTrue a → IsTrue b → IsTrue (a && b)
both_hold true b h k = k
both_hold false b h k = h

is_so : (b : Bool) → T b → IsTrue b
is_so true h = refl
is_so false h = absurd h

so : (b : Bool) → IsTrue b → T b
so b e = subst T (sym e) tt

never : {A : Type 0} → IsTrue false → A
never e = absurd (cc)

less_is : (o : Ordering) → IsTrue (is_lt o) → o ≡ Less
less_is Less h = refl
less_is Equal h = never h
less_is Greater h = never h

-- ---- lists of entries

abbrev Entries : Type 0
Entries = List (Tree × Tree)

-- all keys come before this one
abbrev AllBefore : Tree → Entries → Type 0
AllBefore k [] = Unit {0}
AllBefore k (e ∷ es) = (compared k e.0 ≡ Greater) × AllBefore k es

after_first : (x : Tree) (l : Entries) (e : Tree × Tree) (r : Entries)
    → IsTrue (below_all compared x (l ++ e ∷ r)) → compared e.0 x ≡ Greater
after_first x [] e r h = order.antisymm e.0 x
    ∙ ap ordering_reverse (less_is (compared x e.0) (first_of (is_lt (compared x e.0)) (below_all compared x r) h))
after_first x (d ∷ l) e r h =
    after_first x l e r (second_of (is_lt (compared x d.0)) (below_all compared x (l ++ e ∷ r)) h)

all_before : (l : Entries) (e : Tree × Tree) (r : Entries) → IsTrue (is_sorted compared (l ++ e ∷ r)) → AllBefore e.0 l
all_before [] e r h = tt
all_before (d ∷ l) e r h = (
  after_first d.0 l e r (first_of (below_all compared d.0 (l ++ e ∷ r)) (is_sorted compared (l ++ e ∷ r)) h),
  all_before l e r (second_of (below_all compared d.0 (l ++ e ∷ r)) (is_sorted compared (l ++ e ∷ r)) h),
)

below_left : (x : Tree) (l m : Entries) → IsTrue (below_all compared x (l ++ m)) → IsTrue (below_all compared x l)
below_left x [] m h = refl
below_left x (e ∷ l) m h =
    both_hold (is_lt (compared x e.0)) (below_all compared x l)
    (first_of (is_lt (compared x e.0)) (below_all compared x (l ++ m)) h)
    (below_left x l m (second_of (is_lt (compared x e.0)) (below_all compared x (l ++ m)) h))

sorted_left : (l m : Entries) → IsTrue (is_sorted compared (l ++ m)) → IsTrue (is_sorted compared l)
sorted_left [] m h = refl
sorted_left (e ∷ l) m h =
    both_hold (below_all compared e.0 l) (is_sorted compared l)
    (below_left e.0 l m (first_of (below_all compared e.0 (l ++ m)) (is_sorted compared (l ++ m)) h))
    (sorted_left l m (second_of (below_all compared e.0 (l ++ m)) (is_sorted compared (l ++ m)) h))

sorted_right : (l m : Entries) → IsTrue (is_sorted compared (l ++ m)) → IsTrue (is_sorted compared m)
sorted_right [] m h = h
sorted_right (e ∷ l) m h =
    sorted_right l m (second_of (below_all compared e.0 (l ++ m)) (is_sorted compared (l ++ m)) h)

-- a key that comes after another, or is it, comes after all before that
still_before : (k x : Tree) (l : Entries) → compared k x ≡ Greater → AllBefore x l → AllBefore k l
still_before k x [] g h = tt
still_before k x (e ∷ l) g h = (
  order.antisymm k e.0 ∙ ap ordering_reverse
      (order.trans e.0 x k (order.antisymm e.0 x ∙ ap ordering_reverse h.0)
      (order.antisymm x k ∙ ap ordering_reverse g)),
  still_before k x l g h.1,
)

equal_before : (k x : Tree) (l : Entries) → compared k x ≡ Equal → AllBefore x l → AllBefore k l
equal_before k x l e h = subst (λ y. AllBefore y l) (sym (same_terms k x e)) h

-- a key below another is below all after that
still_below : (k x : Tree) (m : Entries) → compared k x ≡ Less → IsTrue (below_all compared x m)
    → IsTrue (below_all compared k m)
still_below k x [] p h = refl
still_below k x (e ∷ m) p h =
    both_hold (is_lt (compared k e.0)) (below_all compared k m)
    (ap is_lt
    (order.trans k x e.0 p (less_is (compared x e.0) (first_of (is_lt (compared x e.0)) (below_all compared x m) h))))
    (still_below k x m p (second_of (is_lt (compared x e.0)) (below_all compared x m) h))

below_rest : (k x w : Tree) (m : Entries)
    → compared k x ≡ Less → IsTrue (is_sorted compared ((x, w) ∷ m)) → IsTrue (below_all compared k ((x, w) ∷ m))
below_rest k x w m p h =
    both_hold (is_lt (compared k x)) (below_all compared k m) (ap is_lt p)
    (still_below k x m p (first_of (below_all compared x m) (is_sorted compared m) h))

below_same : (k x w : Tree) (m : Entries)
    → compared k x ≡ Equal → IsTrue (is_sorted compared ((x, w) ∷ m)) → IsTrue (below_all compared k m)
below_same k x w m e h = subst (λ y. IsTrue (below_all compared y m)) (sym (same_terms k x e))
    (first_of (below_all compared x m) (is_sorted compared m) h)

-- ---- a key among entries before and after

find_past : (k : Tree) (l m : Entries) → AllBefore k l → find compared k (l ++ m) ≡ find compared k m
find_past k [] m h = refl
find_past k (e ∷ l) m h = ap (λ o. cond (is_eq o) (Some e.1) (find compared k (l ++ m))) h.0 ∙ find_past k l m h.1

found_nothing : (k : Tree) (m : Entries) → IsTrue (below_all compared k m) → find compared k m ≡ None
found_nothing k [] h = refl
found_nothing k (e ∷ m) h =
    ap (λ o. cond (is_eq o) (Some e.1) (find compared k m))
    (less_is (compared k e.0) (first_of (is_lt (compared k e.0)) (below_all compared k m) h))
    ∙ found_nothing k m (second_of (is_lt (compared k e.0)) (below_all compared k m) h)

find_first : (k : Tree) (l m : Entries) → find compared k m ≡ None → find compared k l ≡ find compared k (l ++ m)
find_first k [] m n = sym n
find_first k (e ∷ l) m n = ap (cond (eq_by_cmp compared k e.0) (Some e.1)) (find_first k l m n)

put_past : (k v : Tree) (l m : Entries) → AllBefore k l
    → put_among compared k v (l ++ m) ≡ l ++ put_among compared k v m
put_past k v [] m h = refl
put_past k v (e ∷ l) m h =
    ap (λ o. by_order o ((k, v) ∷ e ∷ (l ++ m)) ((e.0, v) ∷ (l ++ m)) (e ∷ put_among compared k v (l ++ m))) h.0
    ∙ ap (λ es. e ∷ es) (put_past k v l m h.1)

put_first : (k v x w : Tree) (l m : Entries)
    → compared k x ≡ Less → put_among compared k v (l ++ (x, w) ∷ m) ≡ put_among compared k v l ++ (x, w) ∷ m
put_first k v x w [] m p = ap (λ o. by_order o ((k, v) ∷ (x, w) ∷ m) ((x, v) ∷ m) ((x, w) ∷ put_among compared k v m)) p
put_first k v x w (e ∷ l) m p =
    elim (compared k e.0) as (λ o. by_order o
    ((k, v) ∷ e ∷ (l ++ (x, w) ∷ m)) ((e.0, v) ∷ (l ++ (x, w) ∷ m)) (e ∷ put_among compared k v (l ++ (x, w) ∷ m))
    ≡ by_order o ((k, v) ∷ e ∷ l) ((e.0, v) ∷ l) (e ∷ put_among compared k v l) ++ (x, w) ∷ m) [
      | Less ↦ refl
      | Equal ↦ refl
      | Greater ↦ ap (λ es. e ∷ es) (put_first k v x w l m p)
    ]

put_here : (k v x w : Tree) (m : Entries) → compared k x ≡ Equal → put_among compared k v ((x, w) ∷ m) ≡ (x, v) ∷ m
put_here k v x w m p = ap (λ o. by_order o ((k, v) ∷ (x, w) ∷ m) ((x, v) ∷ m) ((x, w) ∷ put_among compared k v m)) p

put_after : (k v x w : Tree) (m : Entries)
    → compared k x ≡ Greater → put_among compared k v ((x, w) ∷ m) ≡ (x, w) ∷ put_among compared k v m
put_after k v x w m p = ap (λ o. by_order o ((k, v) ∷ (x, w) ∷ m) ((x, v) ∷ m) ((x, w) ∷ put_among compared k v m)) p

-- the entries without a key
abbrev without : Tree → Entries → Entries
without k = where_key compared (λ x. not (eq_by_cmp compared k x))

abbrev kept : Ordering → (Tree × Tree) → Entries → Entries
kept o e es = cond (not (is_eq o)) (e ∷ es) es

without_past : (k : Tree) (l m : Entries) → AllBefore k l → without k (l ++ m) ≡ l ++ without k m
without_past k [] m h = refl
without_past k (e ∷ l) m h = ap (λ o. kept o e (without k (l ++ m))) h.0 ∙ ap (λ es. e ∷ es) (without_past k l m h.1)

without_nothing : (k : Tree) (m : Entries) → IsTrue (below_all compared k m) → without k m ≡ m
without_nothing k [] h = refl
without_nothing k (e ∷ m) h =
    ap (λ o. kept o e (without k m))
    (less_is (compared k e.0) (first_of (is_lt (compared k e.0)) (below_all compared k m) h))
    ∙ ap (λ es. e ∷ es) (without_nothing k m (second_of (is_lt (compared k e.0)) (below_all compared k m) h))

without_first : (k : Tree) (l m : Entries) → IsTrue (below_all compared k m) → without k (l ++ m) ≡ without k l ++ m
without_first k [] m h = without_nothing k m h
without_first k (e ∷ l) m h =
    elim (compared k e.0) as (λ o. kept o e (without k (l ++ m)) ≡ kept o e (without k l) ++ m) [
      | Less ↦ ap (λ es. e ∷ es) (without_first k l m h)
      | Equal ↦ without_first k l m h
      | Greater ↦ ap (λ es. e ∷ es) (without_first k l m h)
    ]

-- ---- balancing leaves the entries

-- a table of these parts
abbrev Parts : Table → Table → Tree → Tree → Table → Type 0
Parts t l k v r =
    (entries t ≡ entries l ++ (k, v) ∷ entries r) × (IsTrue (is_whole l) → IsTrue (is_whole r) → IsTrue (is_whole t))

either : (b : Bool) (s t l : Table) (k v : Tree) (r : Table) → Parts s l k v r → Parts t l k v r
    → Parts (if b then s else t) l k v r
either true s t l k v r p q = p
either false s t l k v r p q = q

joined_parts : (l : Table) (k v : Tree) (r : Table) → Parts (joined l k v r) l k v r
joined_parts l k v r = (refl, λ a b. both_hold (is_whole l) (is_whole r) a b)

-- the parts of two entries
abbrev TwoParts : Table → Table → Tree → Tree → Table → Tree → Tree → Table → Type 0
TwoParts t l k v m x w r = (entries t ≡ entries l ++ ((k, v) ∷ (entries m ++ (x, w) ∷ entries r)))
    × (IsTrue (is_whole l) → IsTrue (is_whole m) → IsTrue (is_whole r) → IsTrue (is_whole t))

one_by_one : (l : Table) (k v : Tree) (m : Table) (x w : Tree) (r : Table)
    → TwoParts (joined (joined l k v m) x w r) l k v m x w r
one_by_one l k v m x w r = (
  append_assoc (entries l) ((k, v) ∷ entries m) ((x, w) ∷ entries r),
  λ a b c. both_hold (is_whole l && is_whole m) (is_whole r) (both_hold (is_whole l) (is_whole m) a b) c,
)

parted_parts : (l : Table) (k v : Tree) (m : Table) (x w : Tree) (r : Table)
    → TwoParts (parted l k v m x w r) l k v m x w r
parted_parts l k v empty x w r = one_by_one l k v empty x w r
parted_parts l k v (other t) x w r = one_by_one l k v (other t) x w r
parted_parts l k v (node n a y u b) x w r = (
  append_assoc (entries l) ((k, v) ∷ entries a) ((y, u) ∷ (entries b ++ (x, w) ∷ entries r))
      ∙ ap (λ es. entries l ++ ((k, v) ∷ es))
      (sym (append_assoc (entries a) ((y, u) ∷ entries b) ((x, w) ∷ entries r))),
  λ p q s. both_hold (is_whole l && is_whole a) (is_whole b && is_whole r)
      (both_hold (is_whole l) (is_whole a) p (first_of (is_whole a) (is_whole b) q))
      (both_hold (is_whole b) (is_whole r) (second_of (is_whole a) (is_whole b) q) s),
)

-- two entries as one between tables, of which the right one or the left one has the other
on_the_right : (t l : Table) (k v : Tree) (n : ℕ) (m : Table) (x w : Tree) (r : Table) → TwoParts t l k v m x w r
    → Parts t l k v (node n m x w r)
on_the_right t l k v n m x w r p =
    (p.0, λ a b. p.1 a (first_of (is_whole m) (is_whole r) b) (second_of (is_whole m) (is_whole r) b))

on_the_left : (t : Table) (n : ℕ) (l : Table) (x w : Tree) (m : Table) (k v : Tree) (r : Table)
    → TwoParts t l x w m k v r → Parts t (node n l x w m) k v r
on_the_left t n l x w m k v r p = (
  p.0 ∙ sym (append_assoc (entries l) ((x, w) ∷ entries m) ((k, v) ∷ entries r)),
  λ a b. p.1 (first_of (is_whole l) (is_whole m) a) (second_of (is_whole l) (is_whole m) a) b,
)

from_the_right : (l : Table) (x w : Tree) (m : Table) (k v : Tree) (r : Table)
    → TwoParts (joined l x w (joined m k v r)) l x w m k v r
from_the_right l x w m k v r =
    (refl, λ a b c. both_hold (is_whole l) (is_whole m && is_whole r) a (both_hold (is_whole m) (is_whole r) b c))

turned_left_parts : (l : Table) (k v : Tree) (r : Table) → Parts (turned_left l k v r) l k v r
turned_left_parts l k v empty = joined_parts l k v empty
turned_left_parts l k v (other t) = joined_parts l k v (other t)
turned_left_parts l k v (node n m x w r) =
    either (is_half r m) (parted l k v m x w r) (joined (joined l k v m) x w r) l k v (node n m x w r)
    (on_the_right (parted l k v m x w r) l k v n m x w r (parted_parts l k v m x w r))
    (on_the_right (joined (joined l k v m) x w r) l k v n m x w r (one_by_one l k v m x w r))

turned_right_parts : (l : Table) (k v : Tree) (r : Table) → Parts (turned_right l k v r) l k v r
turned_right_parts empty k v r = joined_parts empty k v r
turned_right_parts (other t) k v r = joined_parts (other t) k v r
turned_right_parts (node n l x w m) k v r =
    either (is_half l m) (parted l x w m k v r) (joined l x w (joined m k v r)) (node n l x w m) k v r
    (on_the_left (parted l x w m k v r) n l x w m k v r (parted_parts l x w m k v r))
    (on_the_left (joined l x w (joined m k v r)) n l x w m k v r (from_the_right l x w m k v r))

balanced_parts : (l : Table) (k v : Tree) (r : Table) → Parts (balanced l k v r) l k v r
balanced_parts l k v r =
    either (is_light l r) (turned_left l k v r) (if is_light r l then turned_right l k v r else joined l k v r) l k v r
    (turned_left_parts l k v r)
    (either (is_light r l) (turned_right l k v r) (joined l k v r) l k v r (turned_right_parts l k v r)
    (joined_parts l k v r))

-- ---- `get`

table_left : (n : ℕ) (l : Table) (x w : Tree) (r : Table) → IsTable (node n l x w r) → IsTable l
table_left n l x w r h = (first_of (is_whole l) (is_whole r) h.0, sorted_left (entries l) ((x, w) ∷ entries r) h.1)

table_right : (n : ℕ) (l : Table) (x w : Tree) (r : Table) → IsTable (node n l x w r) → IsTable r
table_right n l x w r h = (
  second_of (is_whole l) (is_whole r) h.0,
  second_of (below_all compared x (entries r)) (is_sorted compared (entries r))
      (sorted_right (entries l) ((x, w) ∷ entries r) h.1),
)

-- what is found, where the key stands so to the root's
found_at : (q : Tree) (l : Entries) (x w : Tree) (r : Entries) (o : Ordering)
    → compared q x ≡ o → IsTrue (is_sorted compared (l ++ (x, w) ∷ r))
    → match_ordering o (find compared q l) (Some w) (find compared q r) ≡ find compared q (l ++ (x, w) ∷ r)
found_at q l x w r Less p h =
    find_first q l ((x, w) ∷ r) (found_nothing q ((x, w) ∷ r) (below_rest q x w r p (sorted_right l ((x, w) ∷ r) h)))
found_at q l x w r Equal p h =
    sym (find_past q l ((x, w) ∷ r) (equal_before q x l p (all_before l (x, w) r h))
    ∙ ap (λ o. cond (is_eq o) (Some w) (find compared q r)) p)
found_at q l x w r Greater p h =
    sym (find_past q l ((x, w) ∷ r) (still_before q x l p (all_before l (x, w) r h))
    ∙ ap (λ o. cond (is_eq o) (Some w) (find compared q r)) p)

pub get_finds : (t : Table) (q : Tree) → IsTable t → get q t ≡ find compared q (entries t)
get_finds empty q h = refl
get_finds (other t) q h = never h.0
get_finds (node n l x w r) q h =
    (λ i. match_ordering (compared q x) (get_finds l q (table_left n l x w r h) i) (Some w)
    (get_finds r q (table_right n l x w r h) i))
    ∙ found_at q (entries l) x w (entries r) (compared q x) refl h.1

-- ---- `put`

-- there is a table, and it has these entries
abbrev Has : Option Table → Entries → Type 0
Has o es = (u : Table) × (o ≡ Some u) × IsTrue (is_whole u) × (entries u ≡ es)

-- in place of a table before or after an entry, a table with other entries
has_left : (o : Option Table) (es : Entries) (x w : Tree) (r : Table) → IsTrue (is_whole r) → Has o es
    → Has (option_map (λ m. balanced m x w r) o) (es ++ (x, w) ∷ entries r)
has_left o es x w r h (u, is, whole, has) = (
  balanced u x w r,
  ap (option_map (λ m. balanced m x w r)) is,
  (balanced_parts u x w r).1 whole h,
  (balanced_parts u x w r).0 ∙ ap (λ l. l ++ (x, w) ∷ entries r) has,
)

has_right : (o : Option Table) (es : Entries) (l : Table) (x w : Tree) → IsTrue (is_whole l) → Has o es
    → Has (option_map (λ m. balanced l x w m) o) (entries l ++ (x, w) ∷ es)
has_right o es l x w h (u, is, whole, has) = (
  balanced l x w u,
  ap (option_map (λ m. balanced l x w m)) is,
  (balanced_parts l x w u).1 h whole,
  (balanced_parts l x w u).0 ∙ ap (λ m. entries l ++ (x, w) ∷ m) has,
)

has_same : (o : Option Table) (es fs : Entries) → es ≡ fs → Has o es → Has o fs
has_same o es fs e (u, is, whole, has) = (u, is, whole, has ∙ e)

put_at : (k v : Tree) (n : ℕ) (l : Table) (x w : Tree) (r : Table) (o : Ordering)
    → compared k x ≡ o → IsTable (node n l x w r)
    → Has (put k v l) (put_among compared k v (entries l)) → Has (put k v r) (put_among compared k v (entries r))
    → Has (match_ordering o (option_map (λ m. balanced m x w r) (put k v l)) (Some (joined l x v r))
    (option_map (λ m. balanced l x w m) (put k v r)))
    (put_among compared k v (entries l ++ (x, w) ∷ entries r))
put_at k v n l x w r Less p h left right =
    has_same _ _ _ (sym (put_first k v x w (entries l) (entries r) p))
    (has_left (put k v l) _ x w r (second_of (is_whole l) (is_whole r) h.0) left)
put_at k v n l x w r Equal p h left right = (
  joined l x v r,
  refl,
  h.0,
  sym (put_past k v (entries l) ((x, w) ∷ entries r)
      (equal_before k x (entries l) p (all_before (entries l) (x, w) (entries r) h.1))
      ∙ ap (λ m. entries l ++ m) (put_here k v x w (entries r) p)),
)
put_at k v n l x w r Greater p h left right =
    has_same _ _ _ (sym (put_past k v (entries l) ((x, w) ∷ entries r)
    (still_before k x (entries l) p (all_before (entries l) (x, w) (entries r) h.1))
    ∙ ap (λ m. entries l ++ m) (put_after k v x w (entries r) p)))
    (has_right (put k v r) _ l x w (first_of (is_whole l) (is_whole r) h.0) right)

put_has : (t : Table) (k v : Tree) → IsTable t → Has (put k v t) (put_among compared k v (entries t))
put_has empty k v h = (node 1 empty k v empty, refl, refl, refl)
put_has (other t) k v h = never h.0
put_has (node n l x w r) k v h =
    put_at k v n l x w r (compared k x) refl h (put_has l k v (table_left n l x w r h))
    (put_has r k v (table_right n l x w r h))

pub put_puts : PutPuts
put_puts t k v h =
    let (u, is, whole, has) = put_has t k v h in
    let table : IsTable u = (
      whole,
      subst (λ es. IsTrue (is_sorted compared es)) (sym has)
          (is_so _ (is_sorted-put compared order k v (entries t) (so _ h.1))),
    ) in (
      u,
      is,
      table,
      λ q. get_finds u q table ∙ ap (find compared q) has ∙ find-put compared order q k v (entries t)
          ∙ ap (cond (eq_by_cmp compared q k) (Some v)) (sym (get_finds t q h)),
    )

-- ---- `removed`

-- the first entry, and the others
abbrev HasFirst : Option ((Tree × Tree) × Table) → Entries → Type 0
HasFirst o es = (p : (Tree × Tree) × Table) × (o ≡ Some p) × IsTrue (is_whole p.1) × (p.0 ∷ entries p.1 ≡ es)

-- the first entry of a table on the left of an entry
first_left : (o : Option ((Tree × Tree) × Table)) (es : Entries) (k v : Tree) (r : Table) → IsTrue (is_whole r)
    → HasFirst o es
    → HasFirst (option_map (λ p. (p.0, balanced p.1 k v r)) o) (es ++ (k, v) ∷ entries r)
first_left o es k v r h (p, is, whole, has) = (
  (p.0, balanced p.1 k v r),
  ap (option_map (λ p. (p.0, balanced p.1 k v r))) is,
  (balanced_parts p.1 k v r).1 whole h,
  ap (λ l. p.0 ∷ l) (balanced_parts p.1 k v r).0 ∙ ap (λ l. l ++ (k, v) ∷ entries r) has,
)

first_has : (n : ℕ) (l : Table) (k v : Tree) (r : Table) → IsTrue (is_whole (node n l k v r))
    → HasFirst (first_taken (node n l k v r)) (entries (node n l k v r))
first_has n empty k v r h = (((k, v), r), refl, h, refl)
first_has n (other t) k v r h = never h
first_has n (node m a x w b) k v r h =
    first_left (first_taken (node m a x w b)) _ k v r (second_of (is_whole (node m a x w b)) (is_whole r) h)
    (first_has m a x w b (first_of (is_whole (node m a x w b)) (is_whole r) h))

between : (l : Table) (o : Option ((Tree × Tree) × Table)) (es : Entries) → IsTrue (is_whole l) → HasFirst o es
    → Has (option_map (λ p. balanced l p.0.0 p.0.1 p.1) o) (entries l ++ es)
between l o es h (p, is, whole, has) = (
  balanced l p.0.0 p.0.1 p.1,
  ap (option_map (λ p. balanced l p.0.0 p.0.1 p.1)) is,
  (balanced_parts l p.0.0 p.0.1 p.1).1 h whole,
  (balanced_parts l p.0.0 p.0.1 p.1).0 ∙ ap (λ m. entries l ++ m) has,
)

append_nothing : (es : Entries) → es ≡ es ++ []
append_nothing [] = refl
append_nothing (e ∷ es) = ap (λ l. e ∷ l) (append_nothing es)

merged_has : (l r : Table) → IsTrue (is_whole l) → IsTrue (is_whole r) → Has (merged l r) (entries l ++ entries r)
merged_has l empty h k = (l, refl, h, append_nothing (entries l))
merged_has l (other t) h k = never k
merged_has l (node n a x w b) h k = between l (first_taken (node n a x w b)) _ h (first_has n a x w b k)

removed_at : (k : Tree) (n : ℕ) (l : Table) (x w : Tree) (r : Table) (o : Ordering)
    → compared k x ≡ o → IsTable (node n l x w r)
    → Has (removed k l) (without k (entries l)) → Has (removed k r) (without k (entries r))
    → Has (match_ordering o (option_map (λ m. balanced m x w r) (removed k l)) (merged l r)
    (option_map (λ m. balanced l x w m) (removed k r)))
    (without k (entries l ++ (x, w) ∷ entries r))
removed_at k n l x w r Less p h left right =
    has_same _ _ _ (sym (without_first k (entries l) ((x, w) ∷ entries r)
    (below_rest k x w (entries r) p (sorted_right (entries l) ((x, w) ∷ entries r) h.1))))
    (has_left (removed k l) _ x w r (second_of (is_whole l) (is_whole r) h.0) left)
removed_at k n l x w r Equal p h left right =
    has_same _ _ _ (sym (without_past k (entries l) ((x, w) ∷ entries r)
    (equal_before k x (entries l) p (all_before (entries l) (x, w) (entries r) h.1))
    ∙ ap (λ m. entries l ++ m) (ap (λ o. kept o (x, w) (without k (entries r))) p
    ∙ without_nothing k (entries r)
    (below_same k x w (entries r) p (sorted_right (entries l) ((x, w) ∷ entries r) h.1)))))
    (merged_has l r (first_of (is_whole l) (is_whole r) h.0) (second_of (is_whole l) (is_whole r) h.0))
removed_at k n l x w r Greater p h left right =
    has_same _ _ _ (sym (without_past k (entries l) ((x, w) ∷ entries r)
    (still_before k x (entries l) p (all_before (entries l) (x, w) (entries r) h.1))
    ∙ ap (λ m. entries l ++ m) (ap (λ o. kept o (x, w) (without k (entries r))) p)))
    (has_right (removed k r) _ l x w (first_of (is_whole l) (is_whole r) h.0) right)

removed_has : (t : Table) (k : Tree) → IsTable t → Has (removed k t) (without k (entries t))
removed_has empty k h = (empty, refl, refl, refl)
removed_has (other t) k h = never h.0
removed_has (node n l x w r) k h =
    removed_at k n l x w r (compared k x) refl h (removed_has l k (table_left n l x w r h))
    (removed_has r k (table_right n l x w r h))

turned_test : {A : Type 0} (b : Bool) (x y : A) → cond (not b) x y ≡ cond b y x
turned_test true x y = refl
turned_test false x y = refl

find_without : (q k : Tree) (es : Entries)
    → find compared q (without k es) ≡ cond (eq_by_cmp compared q k) None (find compared q es)
find_without q k es =
    find-where_key compared (λ x. not (eq_by_cmp compared k x)) q
    (λ x t. ap (λ o. not (is_eq o)) (sym (alike_right order q x k t))) es
    ∙ turned_test (eq_by_cmp compared k q) (find compared q es) None
    ∙ ap (λ b. cond b None (find compared q es)) ((eq_by_cmp_equiv order).symm k q)

pub removed_removes : RemovedRemoves
removed_removes t k h =
    let (u, is, whole, has) = removed_has t k h in
    let table : IsTable u = (
      whole,
      subst (λ es. IsTrue (is_sorted compared es)) (sym has)
          (is_so _ (is_sorted-where_key compared (λ x. not (eq_by_cmp compared k x)) (entries t) (so _ h.1))),
    ) in (
      u,
      is,
      table,
      λ q. get_finds u q table ∙ ap (find compared q) has ∙ find_without q k (entries t)
          ∙ ap (cond (eq_by_cmp compared q k) None) (sym (get_finds t q h)),
    )

pub empty_is_table : EmptyIsTable
empty_is_table = ((refl, refl), λ q. refl)

-- ---- tables as terms

pub terms_are_their_tables : TermsAreTheirTables
terms_are_their_tables (integer z notes) = refl
terms_are_their_tables (branch (application f) kids notes) = refl
terms_are_their_tables (branch list kids notes) = refl
terms_are_their_tables (branch tuple none none) = refl
terms_are_their_tables (branch tuple none (more m ms)) = refl
terms_are_their_tables (branch tuple (more (branch h us ns) ts) notes) = refl
terms_are_their_tables (branch tuple (more (integer (negsuc n) ms) ts) notes) = refl
terms_are_their_tables (branch tuple (more (integer (pos n) (more m ms)) ts) notes) = refl
terms_are_their_tables (branch tuple (more (integer (pos n) none) none) notes) = refl
terms_are_their_tables (branch tuple (more (integer (pos n) none) (more l none)) notes) = refl
terms_are_their_tables (branch tuple (more (integer (pos n) none) (more l (more k none))) notes) = refl
terms_are_their_tables (branch tuple (more (integer (pos n) none) (more l (more k (more v none)))) notes) = refl
terms_are_their_tables
    (branch tuple (more (integer (pos n) none) (more l (more k (more v (more r (more s ss)))))) notes) = refl
terms_are_their_tables
    (branch tuple (more (integer (pos n) none) (more l (more k (more v (more r none))))) (more m ms)) = refl
terms_are_their_tables (branch tuple (more (integer (pos n) none) (more l (more k (more v (more r none))))) none) =
    λ i. branch tuple (more (integer (pos n) none)
    (more (terms_are_their_tables l i) (more k (more v (more (terms_are_their_tables r i) none))))) none
