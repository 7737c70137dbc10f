-- The terms that tables are written as.
use Rattle.std.proofs.Common.{◌≡◌, ℕ, Bool, true, false, List, [], ◌∷◌, Some, None, refl, sym, ap, ◌∙◌, length, ◌<◌, arith}
use Rattle.std.specs.Prelude.{pos, negsuc, slice_get}
use Rattle.std.specs.declared.option.Option.{Option}
use Rattle.std.specs.Option.{option_map}
use Rattle.term_core.specs.Tree.{Tree, integer, branch, none, more, integer_term, tuple_term, children}
use Rattle.term_core.specs.Size.{size}
use Rattle.term_core.proofs.TreeLemmas.{to_list-of_list}
use Rattle.term_order.specs.Tables.{Table, empty, node, other, table_of, term_of, weight, joined, parted, balanced, turned_left, turned_right, get, put, removed, first_taken, merged, is_whole, entries}
use Rattle.term_order.specs.inside.Parts.{natural_of, is_node, is_empty}
use Rattle.term_order.proofs.TableLemmas.{terms_are_their_tables}

-- ---- which terms are nodes, and which is the empty table

-- a term with five parts, the first of them a number
abbrev IsNode : Tree → Type 0
IsNode t = (n : ℕ) × (a : Tree) × (k : Tree) × (v : Tree) × (b : Tree)
    × (t ≡ tuple_term (integer_term (pos n) ∷ a ∷ k ∷ v ∷ b ∷ []))

written_node : (x : Table) (t : Tree) → term_of x ≡ t → is_node x ≡ true → IsNode t
written_node empty t e h = absurd (cc)
written_node (node n l k v r) t e h = (n, term_of l, k, v, term_of r, sym e)
written_node (other u) t e h = absurd (cc)

written_empty : (x : Table) (t : Tree) → term_of x ≡ t → is_empty x ≡ true → t ≡ tuple_term []
written_empty empty t e h = sym e
written_empty (node n l k v r) t e h = absurd (cc)
written_empty (other u) t e h = absurd (cc)

is_no : (b : Bool) → (b ≡ true → ⊥) → b ≡ false
is_no true h = absurd (h refl)
is_no false h = refl

no_node : (t : Tree) → (IsNode t → ⊥) → is_node (table_of t) ≡ false
no_node t h = is_no (is_node (table_of t)) (λ e. h (written_node (table_of t) t (terms_are_their_tables t) e))

not_empty : (t : Tree) → (t ≡ tuple_term [] → ⊥) → is_empty (table_of t) ≡ false
not_empty t h = is_no (is_empty (table_of t)) (λ e. h (written_empty (table_of t) t (terms_are_their_tables t) e))

-- its own children, if it is a tuple
own_children : (t : Tree) (us : List Tree) → t ≡ tuple_term us → children t ≡ us
own_children t us e = ap children e ∙ to_list-of_list us

plain_again : (t : Tree) (us : List Tree) → t ≡ tuple_term us → t ≡ tuple_term (children t)
plain_again t us e = e ∙ ap tuple_term (sym (own_children t us e))

pub no_node_but_plain : (t : Tree) → (t ≡ tuple_term (children t) → ⊥) → is_node (table_of t) ≡ false
no_node_but_plain t h = no_node t (λ p. h (plain_again t (integer_term (pos p.0) ∷ p.1 ∷ p.2 ∷ p.3 ∷ p.4 ∷ []) p.5))

pub no_node_but_five : (t : Tree) → (length (children t) ≡ 5 → ⊥) → is_node (table_of t) ≡ false
no_node_but_five t h =
    no_node t (λ p. h (ap length (own_children t (integer_term (pos p.0) ∷ p.1 ∷ p.2 ∷ p.3 ∷ p.4 ∷ []) p.5)))

natural_is : (t : Tree) (n : ℕ) → natural_of t ≡ Some n → t ≡ integer_term (pos n)
natural_is (integer (pos m) none) n e = let same : m ≡ n = cc in ap (λ k. integer_term (pos k)) same
natural_is (integer (pos m) (more u us)) n e = absurd (cc)
natural_is (integer (negsuc m) ns) n e = absurd (cc)
natural_is (branch h us ns) n e = absurd (cc)

pub no_node_but_counted : (t c a k v b : Tree)
    → children t ≡ c ∷ a ∷ k ∷ v ∷ b ∷ [] → natural_of c ≡ None → is_node (table_of t) ≡ false
no_node_but_counted t c a k v b e h =
    no_node t (λ p. let same : c ∷ a ∷ k ∷ v ∷ b ∷ [] ≡ integer_term (pos p.0) ∷ p.1 ∷ p.2 ∷ p.3 ∷ p.4 ∷ [] = sym e
    ∙ own_children t (integer_term (pos p.0) ∷ p.1 ∷ p.2 ∷ p.3 ∷ p.4 ∷ []) p.5 in
    let number : c ≡ integer_term (pos p.0) = cc in
    let some : None ≡ Some p.0 = sym h ∙ ap natural_of number in
    cc)

pub node_read : (t c a k v b : Tree) (n : ℕ) → t ≡ tuple_term (children t)
    → children t ≡ c ∷ a ∷ k ∷ v ∷ b ∷ [] → natural_of c ≡ Some n
    → table_of t ≡ node n (table_of a) k v (table_of b)
node_read t c a k v b n plain e number =
    ap table_of (plain ∙ ap tuple_term (e ∙ ap (λ x. x ∷ a ∷ k ∷ v ∷ b ∷ []) (natural_is c n number)))

-- a table is smaller than the one that it is a part of
pub parts_smaller : (t c a k v b : Tree) → t ≡ tuple_term (children t)
    → children t ≡ c ∷ a ∷ k ∷ v ∷ b ∷ [] → (size a < size t) × (size b < size t)
parts_smaller t c a k v b plain e =
    let is : size t ≡ size (tuple_term (c ∷ a ∷ k ∷ v ∷ b ∷ [])) = ap size (plain ∙ ap tuple_term e) in
    (omega (arith, is), omega (arith, is))

nothing_in : (us : List Tree) → slice_get us 0 ≡ None → us ≡ []
nothing_in [] h = refl
nothing_in (u ∷ us) h = absurd (cc)

pub empty_read : (t : Tree) → t ≡ tuple_term (children t)
    → slice_get (children t) 0 ≡ None → is_empty (table_of t) ≡ true
empty_read t plain h = ap (λ x. is_empty (table_of x)) (plain ∙ ap tuple_term (nothing_in (children t) h))

pub not_empty_but_plain : (t : Tree) → (t ≡ tuple_term (children t) → ⊥) → is_empty (table_of t) ≡ false
not_empty_but_plain t h = not_empty t (λ e. h (plain_again t [] e))

pub not_empty_with : (t : Tree) → (slice_get (children t) 0 ≡ None → ⊥) → is_empty (table_of t) ≡ false
not_empty_with t h = not_empty t (λ e. h (ap (λ us. slice_get us 0) (own_children t [] e)))

pub ruleset emptiness = (empty_read, not_empty_but_plain, not_empty_with)

-- ---- what is made of a table that isn't a node

pub no_weight : (x : Table) → is_node x ≡ false → weight x ≡ 0
no_weight empty h = refl
no_weight (node n l k v r) h = absurd (cc)
no_weight (other t) h = refl

pub not_parted : (l : Table) (k v : Tree) (m : Table) (x w : Tree) (r : Table)
    → is_node m ≡ false → parted l k v m x w r ≡ joined (joined l k v m) x w r
not_parted l k v empty x w r h = refl
not_parted l k v (node n a y u b) x w r h = absurd (cc)
not_parted l k v (other t) x w r h = refl

pub not_turned_left : (l : Table) (k v : Tree) (r : Table) → is_node r ≡ false → turned_left l k v r ≡ joined l k v r
not_turned_left l k v empty h = refl
not_turned_left l k v (node n a y u b) h = absurd (cc)
not_turned_left l k v (other t) h = refl

pub not_turned_right : (l : Table) (k v : Tree) (r : Table) → is_node l ≡ false → turned_right l k v r ≡ joined l k v r
not_turned_right empty k v r h = refl
not_turned_right (node n a y u b) k v r h = absurd (cc)
not_turned_right (other t) k v r h = refl

pub got_nothing : (x : Table) (k : Tree) → is_node x ≡ false → get k x ≡ None
got_nothing empty k h = refl
got_nothing (node n l y u r) k h = absurd (cc)
got_nothing (other t) k h = refl

pub ruleset no_nodes = (no_weight, not_parted, not_turned_left, not_turned_right, got_nothing)

-- a table that is neither is another term
pub put_nothing : (x : Table) (k v : Tree) → is_node x ≡ false → is_empty x ≡ false → put k v x ≡ None
put_nothing empty k v h e = absurd (cc)
put_nothing (node n l y u r) k v h e = absurd (cc)
put_nothing (other t) k v h e = refl

pub put_first : (x : Table) (k v : Tree) → is_empty x ≡ true → put k v x ≡ Some (joined x k v x)
put_first empty k v e = refl
put_first (node n l y u r) k v e = absurd (cc)
put_first (other t) k v e = absurd (cc)

pub removed_nothing : (x : Table) (k : Tree) → is_node x ≡ false → is_empty x ≡ false → removed k x ≡ None
removed_nothing empty k h e = absurd (cc)
removed_nothing (node n l y u r) k h e = absurd (cc)
removed_nothing (other t) k h e = refl

pub removed_same : (x : Table) (k : Tree) → is_empty x ≡ true → removed k x ≡ Some x
removed_same empty k e = refl
removed_same (node n l y u r) k e = absurd (cc)
removed_same (other t) k e = absurd (cc)

pub merged_same : (l r : Table) → is_empty r ≡ true → merged l r ≡ Some l
merged_same l empty e = refl
merged_same l (node n a y u b) e = absurd (cc)
merged_same l (other t) e = absurd (cc)

pub whole_but_nodes : (x : Table) → is_node x ≡ false → is_whole x ≡ is_empty x
whole_but_nodes empty h = refl
whole_but_nodes (node n l k v r) h = absurd (cc)
whole_but_nodes (other t) h = refl

pub entries_but_nodes : (x : Table) → is_node x ≡ false → entries x ≡ []
entries_but_nodes empty h = refl
entries_but_nodes (node n l k v r) h = absurd (cc)
entries_but_nodes (other t) h = refl

pub ruleset puts = (put_nothing, put_first)

pub ruleset removals = (removed_nothing, removed_same)

pub ruleset wholes = (whole_but_nodes, entries_but_nodes)

pub no_first : (x : Table) → is_node x ≡ false → first_taken x ≡ None
no_first empty h = refl
no_first (node n l k v r) h = absurd (cc)
no_first (other t) h = refl

pub first_own : (n : ℕ) (l : Table) (k v : Tree) (r : Table)
    → is_empty l ≡ true → first_taken (node n l k v r) ≡ Some ((k, v), r)
first_own n empty k v r e = refl
first_own n (node m a y u b) k v r e = absurd (cc)
first_own n (other t) k v r e = absurd (cc)

pub first_lesser : (n : ℕ) (l : Table) (k v : Tree) (r : Table) → is_empty l ≡ false
    → first_taken (node n l k v r) ≡ option_map (λ p. (p.0, balanced p.1 k v r)) (first_taken l)
first_lesser n empty k v r e = absurd (cc)
first_lesser n (node m a y u b) k v r e = refl
first_lesser n (other t) k v r e = refl

-- the first entry of a table without lesser keys, and of one with them
pub first_is_own : (x l r s : Table) (n : ℕ) (k v a b : Tree) → x ≡ node n l k v r
    → is_empty l ≡ true → a ≡ k → b ≡ v → s ≡ r → Some ((a, b), s) ≡ first_taken x
first_is_own x l r s n k v a b h e key value greater =
    (λ i. Some ((key i, value i), greater i)) ∙ sym (first_own n l k v r e) ∙ sym (ap first_taken h)

pub first_is_lesser : (x l r o m : Table) (n : ℕ) (k v a b : Tree) → x ≡ node n l k v r
    → is_empty l ≡ false → Some ((a, b), o) ≡ first_taken l → m ≡ balanced o k v r
    → Some ((a, b), m) ≡ first_taken x
first_is_lesser x l r o m n k v a b h e first made =
    ap (λ y. Some ((a, b), y)) made ∙ ap (option_map (λ p. (p.0, balanced p.1 k v r))) first
    ∙ sym (first_lesser n l k v r e) ∙ sym (ap first_taken h)

pub merged_first : (l r : Table)
    → is_empty r ≡ false → merged l r ≡ option_map (λ p. balanced l p.0.0 p.0.1 p.1) (first_taken r)
merged_first l empty e = absurd (cc)
merged_first l (node n a y u b) e = refl
merged_first l (other t) e = refl

pub ruleset firsts = (no_first, first_own, first_lesser)

pub ruleset merges = (merged_same, merged_first)

-- ---- what is found is the term of its table

pub as_term : (found : Option Tree) (x : Option Table) → option_map table_of found ≡ x → found ≡ option_map term_of x
as_term None x e = ap (option_map term_of) e
as_term (Some t) x e = ap Some (sym (terms_are_their_tables t)) ∙ ap (option_map term_of) e
