-- The order on terms is total, and only equal terms tie.
use Rattle.std.proofs.Common.{◌≡◌, Bool, true, false, [], refl, sym, ap, subst, ◌∙◌}
use Rattle.std.specs.declared.cmp.Ordering.{Ordering}
use Rattle.std.specs.declared.cmp.Ordering.TheVariants.{Less, Equal, Greater}
use Rattle.std.specs.Ordering.{ordering_then, ordering_reverse, nat_cmp, int_cmp, bool_cmp, on, then_cmp}
use Rattle.std.specs.Cmp.{IsTotalOrder, then_flip, then_total, on_total, bool_cmp_total, alike_right}
use Rattle.std.proofs.lemmas.Cmp.{nat_cmp_total, int_cmp_total}
use Rattle.std.specs.Cmp.Lexicographic.{slice_cmp, on_texts}
use Rattle.std.specs.FinMap.{IsAntisymmetric, nat_cmp-IsAntisymmetric, int_cmp-IsAntisymmetric, slice_cmp-IsAntisymmetric}
use Rattle.term_core.specs.Tree.{Symbol, Head, application, list, tuple, Tree, Trees, integer, branch, none, more}
use Rattle.term_order.specs.Order.{compared_names, rank, compared_heads, compared, compared_all}
use Rattle.term_order.specs.Laws.{TermsAreOrdered}

-- ---- one order and then another

both_equal : (a b : Ordering) → ordering_then a b ≡ Equal → (a ≡ Equal) × (b ≡ Equal)
both_equal Less b e = absurd (cc)
both_equal Equal b e = (refl, e)
both_equal Greater b e = absurd (cc)

less_then : (a b c p q r : Ordering) → ordering_then a p ≡ Less → ordering_then b q ≡ Less
    → (a ≡ Less → b ≡ Less → c ≡ Less) → (a ≡ Equal → c ≡ b) → (b ≡ Equal → c ≡ a) → (p ≡ Less → q ≡ Less → r ≡ Less)
    → ordering_then c r ≡ Less
less_then Less Less c p q r e f both left right rest = ap (λ o. ordering_then o r) (both refl refl)
less_then Less Equal c p q r e f both left right rest = ap (λ o. ordering_then o r) (right refl)
less_then Less Greater c p q r e f both left right rest = absurd (cc)
less_then Equal Less c p q r e f both left right rest = ap (λ o. ordering_then o r) (left refl)
less_then Equal Equal c p q r e f both left right rest = ap (λ o. ordering_then o r) (left refl) ∙ rest e f
less_then Equal Greater c p q r e f both left right rest = absurd (cc)
less_then Greater b c p q r e f both left right rest = absurd (cc)

-- ---- names

names_total : IsTotalOrder compared_names
names_total = then_total (on_texts (λ (f : Symbol). f.text)) (on_total (λ (f : Symbol). f.is_quoted) bool_cmp_total)

bools_same : (a b : Bool) → bool_cmp a b ≡ Equal → a ≡ b
bools_same false false e = refl
bools_same false true e = absurd (cc)
bools_same true false e = absurd (cc)
bools_same true true e = refl

names_same : (f g : Symbol) → compared_names f g ≡ Equal → f ≡ g
names_same f g e =
    let is = both_equal (slice_cmp nat_cmp f.text g.text) (bool_cmp f.is_quoted g.is_quoted) e in
    let text = slice_cmp-IsAntisymmetric nat_cmp-IsAntisymmetric f.text g.text is.0 in
    let quoted = bools_same f.is_quoted g.is_quoted is.1 in
    λ i. record { text = text i; is_quoted = quoted i }

-- ---- heads

abbrev name_in : Head → Symbol
name_in (application f) = f
name_in list = record { text = []; is_quoted = false }
name_in tuple = record { text = []; is_quoted = false }

abbrev by_rank : Head → Head → Ordering
by_rank = then_cmp (on rank nat_cmp) (on name_in compared_names)

heads_by_rank : (g h : Head) → by_rank g h ≡ compared_heads g h
heads_by_rank (application f) (application g) = refl
heads_by_rank (application f) list = refl
heads_by_rank (application f) tuple = refl
heads_by_rank list (application g) = refl
heads_by_rank list list = refl
heads_by_rank list tuple = refl
heads_by_rank tuple (application g) = refl
heads_by_rank tuple list = refl
heads_by_rank tuple tuple = refl

heads_total : IsTotalOrder compared_heads
heads_total = subst (λ (R : Head → Head → Ordering). IsTotalOrder R) (λ i g h. heads_by_rank g h i)
    (then_total (on_total rank nat_cmp_total) (on_total name_in names_total))

heads_same : (g h : Head) → compared_heads g h ≡ Equal → g ≡ h
heads_same (application f) (application g) e = ap application (names_same f g e)
heads_same (application f) list e = absurd (cc)
heads_same (application f) tuple e = absurd (cc)
heads_same list (application g) e = absurd (cc)
heads_same list list e = refl
heads_same list tuple e = absurd (cc)
heads_same tuple (application g) e = absurd (cc)
heads_same tuple list e = absurd (cc)
heads_same tuple tuple e = refl

-- ---- terms

mutual
  same : (t u : Tree) → compared t u ≡ Equal → t ≡ u
  same (integer x ms) (integer y ns) e =
      let is = both_equal (int_cmp x y) (compared_all ms ns) e in
      let z = int_cmp-IsAntisymmetric x y is.0 in
      let notes = all_same ms ns is.1 in
      λ i. integer (z i) (notes i)
  same (integer x ms) (branch h us ns) e = absurd (cc)
  same (branch g ts ms) (integer y ns) e = absurd (cc)
  same (branch g ts ms) (branch h us ns) e =
      let is = both_equal (compared_heads g h) (ordering_then (compared_all ts us) (compared_all ms ns)) e in
      let are = both_equal (compared_all ts us) (compared_all ms ns) is.1 in
      let head = heads_same g h is.0 in
      let kids = all_same ts us are.0 in
      let notes = all_same ms ns are.1 in
      λ i. branch (head i) (kids i) (notes i)

  all_same : (ts us : Trees) → compared_all ts us ≡ Equal → ts ≡ us
  all_same none none e = refl
  all_same none (more u us) e = absurd (cc)
  all_same (more t ts) none e = absurd (cc)
  all_same (more t ts) (more u us) e =
      let is = both_equal (compared t u) (compared_all ts us) e in
      let first = same t u is.0 in
      let rest = all_same ts us is.1 in
      λ i. more (first i) (rest i)

mutual
  turn : (t u : Tree) → compared t u ≡ ordering_reverse (compared u t)
  turn (integer x ms) (integer y ns) =
      (λ i. ordering_then (int_cmp_total.antisymm x y i) (all_turn ms ns i))
      ∙ then_flip (int_cmp y x) (compared_all ns ms)
  turn (integer x ms) (branch h us ns) = refl
  turn (branch g ts ms) (integer y ns) = refl
  turn (branch g ts ms) (branch h us ns) =
      (λ i. ordering_then (heads_total.antisymm g h i) (ordering_then (all_turn ts us i) (all_turn ms ns i)))
      ∙ ap (ordering_then (ordering_reverse (compared_heads h g))) (then_flip (compared_all us ts) (compared_all ns ms))
      ∙ then_flip (compared_heads h g) (ordering_then (compared_all us ts) (compared_all ns ms))

  all_turn : (ts us : Trees) → compared_all ts us ≡ ordering_reverse (compared_all us ts)
  all_turn none none = refl
  all_turn none (more u us) = refl
  all_turn (more t ts) none = refl
  all_turn (more t ts) (more u us) =
      (λ i. ordering_then (turn t u i) (all_turn ts us i)) ∙ then_flip (compared u t) (compared_all us ts)

mutual
  chain : (t u v : Tree) → compared t u ≡ Less → compared u v ≡ Less → compared t v ≡ Less
  chain (integer x ms) (integer y ns) (integer z os) e f =
      less_then (int_cmp x y) (int_cmp y z) (int_cmp x z) (compared_all ms ns) (compared_all ns os)
      (compared_all ms os) e f
      (int_cmp_total.trans x y z) (int_cmp_total.congr x y z) (λ a. sym (alike_right int_cmp_total y z x a))
      (all_chain ms ns os)
  chain (integer x ms) (integer y ns) (branch k vs os) e f = refl
  chain (integer x ms) (branch h us ns) (integer z os) e f = absurd (cc)
  chain (integer x ms) (branch h us ns) (branch k vs os) e f = refl
  chain (branch g ts ms) (integer y ns) v e f = absurd (cc)
  chain (branch g ts ms) (branch h us ns) (integer z os) e f = absurd (cc)
  chain (branch g ts ms) (branch h us ns) (branch k vs os) e f =
      less_then (compared_heads g h) (compared_heads h k) (compared_heads g k)
      (ordering_then (compared_all ts us) (compared_all ms ns))
      (ordering_then (compared_all us vs) (compared_all ns os))
      (ordering_then (compared_all ts vs) (compared_all ms os)) e f
      (heads_total.trans g h k) (heads_total.congr g h k) (λ a. sym (alike_right heads_total h k g a))
      (λ a b. less_then (compared_all ts us) (compared_all us vs) (compared_all ts vs) (compared_all ms ns)
      (compared_all ns os) (compared_all ms os) a b
      (all_chain ts us vs) (λ c. ap (λ l. compared_all l vs) (all_same ts us c))
      (λ c. ap (compared_all ts) (sym (all_same us vs c))) (all_chain ms ns os))

  all_chain : (ts us vs : Trees) → compared_all ts us ≡ Less → compared_all us vs ≡ Less → compared_all ts vs ≡ Less
  all_chain none none vs e f = absurd (cc)
  all_chain none (more u us) none e f = absurd (cc)
  all_chain none (more u us) (more v vs) e f = refl
  all_chain (more t ts) none vs e f = absurd (cc)
  all_chain (more t ts) (more u us) none e f = absurd (cc)
  all_chain (more t ts) (more u us) (more v vs) e f =
      less_then (compared t u) (compared u v) (compared t v) (compared_all ts us) (compared_all us vs)
      (compared_all ts vs) e f
      (chain t u v) (λ a. ap (λ w. compared w v) (same t u a)) (λ a. ap (compared t) (sym (same u v a)))
      (all_chain ts us vs)

pub order : IsTotalOrder compared
order = record { antisymm = turn; trans = chain; congr = λ t u v e. ap (λ w. compared w v) (same t u e) }

pub same_terms : IsAntisymmetric compared
same_terms = same

pub terms_are_ordered : TermsAreOrdered
terms_are_ordered = (order, same_terms)
