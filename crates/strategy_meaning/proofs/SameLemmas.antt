-- The test for equal terms is equality.
use Rattle.std.proofs.Common.{◌≡◌, Bool, true, false, ◌&&◌, refl, sym, ap, ◌∙◌}
use Rattle.std.proofs.lemmas.Bool.Decides.{Decides-int_eq}
use Rattle.term_core.specs.Tree.{Head, application, list, tuple, Tree, Trees, integer, branch, none, more}
use Rattle.term_core.proofs.SameName.{same_name-true, same_name-self}
use Rattle.strategy_meaning.specs.Same.{same_head, same_tree, same_trees}
use Rattle.strategy_meaning.specs.Laws.{SameIsEqual}

and-left : (a b : Bool) → a && b ≡ true → a ≡ true
and-left true b e = refl
and-left false b e = e

and-right : (a b : Bool) → a && b ≡ true → b ≡ true
and-right true b e = e
and-right false b e = absurd (cc)

pub head-eq : (h k : Head) → same_head h k ≡ true → h ≡ k
head-eq (application f) (application g) e = ap application (same_name-true f g e)
head-eq (application f) list e = absurd (cc)
head-eq (application f) tuple e = absurd (cc)
head-eq list (application f) e = absurd (cc)
head-eq list list e = refl
head-eq list tuple e = absurd (cc)
head-eq tuple (application f) e = absurd (cc)
head-eq tuple list e = absurd (cc)
head-eq tuple tuple e = refl

pub head-self : (h : Head) → same_head h h ≡ true
head-self (application f) = same_name-self f
head-self list = refl
head-self tuple = refl

mutual
  tree-eq : (t u : Tree) → same_tree t u ≡ true → t ≡ u
  tree-eq (integer y ns) (integer z ms) e =
      let p = (Decides-int_eq y z).0 (and-left _ (same_trees ns ms) e) in
      let q = trees-eq ns ms (and-right _ (same_trees ns ms) e) in λ i. integer (p i) (q i)
  tree-eq (integer y ns) (branch k vs ms) e = absurd (cc)
  tree-eq (branch h us ns) (integer z ms) e = absurd (cc)
  tree-eq (branch h us ns) (branch k vs ms) e =
      let p = head-eq h k (and-left (same_head h k) (same_trees us vs && same_trees ns ms) e) in
      let rest = and-right (same_head h k) (same_trees us vs && same_trees ns ms) e in
      let q = trees-eq us vs (and-left (same_trees us vs) (same_trees ns ms) rest) in
      let r = trees-eq ns ms (and-right (same_trees us vs) (same_trees ns ms) rest) in λ i. branch (p i) (q i) (r i)

  trees-eq : (ts us : Trees) → same_trees ts us ≡ true → ts ≡ us
  trees-eq none none e = refl
  trees-eq none (more u us) e = absurd (cc)
  trees-eq (more t ts) none e = absurd (cc)
  trees-eq (more t ts) (more u us) e =
      let p = tree-eq t u (and-left (same_tree t u) (same_trees ts us) e) in
      let q = trees-eq ts us (and-right (same_tree t u) (same_trees ts us) e) in λ i. more (p i) (q i)

both : (a b : Bool) → a ≡ true → b ≡ true → a && b ≡ true
both true b h k = k
both false b h k = h

mutual
  tree-self : (t : Tree) → same_tree t t ≡ true
  tree-self (integer z ns) = both _ (same_trees ns ns) ((Decides-int_eq z z).1 refl) (trees-self ns)
  tree-self (branch h us ns) =
      both (same_head h h) (same_trees us us && same_trees ns ns) (head-self h)
      (both (same_trees us us) (same_trees ns ns) (trees-self us) (trees-self ns))

  trees-self : (ts : Trees) → same_trees ts ts ≡ true
  trees-self none = refl
  trees-self (more t ts) = both (same_tree t t) (same_trees ts ts) (tree-self t) (trees-self ts)

pub same_is_equal : SameIsEqual
same_is_equal t u = (tree-eq t u, λ e. ap (same_tree t) (sym e) ∙ tree-self t)
