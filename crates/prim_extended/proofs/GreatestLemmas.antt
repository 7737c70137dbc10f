-- The greatest number of a term that is no string.
use Rattle.std.proofs.Common.{◌≡◌, ℕ, Bool, true, false, List, Some, None, refl, ap, if◌then◌else◌}
use Rattle.std.specs.Prelude.{max}
use Rattle.term_core.specs.Tree.{application, list, tuple, Tree, integer, branch, none, more, of_list, children}
use Rattle.term_core.proofs.TreeLemmas.{of_list-to_list}
use Rattle.prim_core.specs.Values.{string_value}
use Rattle.prim_extended.specs.Greatest.{counted_after, greatest, greatest_of_all}

unquoted : (text : List ℕ) (b : Bool) (n m : ℕ) → None ≡ (if b then Some text else None) → n ≡ (if b then m else n)
unquoted text true n m e = absurd (cc)
unquoted text false n m e = refl

pub of_children : (beginning : List ℕ) (n : ℕ) (t : Tree) → None ≡ string_value t
    → greatest_of_all beginning n (of_list (children t)) ≡ greatest beginning n t
of_children beginning n (integer z notes) e = refl
of_children beginning n (branch (application f) none notes) e =
    unquoted f.text f.is_quoted n (max n (counted_after beginning f.text)) e
of_children beginning n (branch (application f) (more t ts) notes) e =
    ap (λ us. greatest_of_all beginning n (more t us)) (of_list-to_list ts)
of_children beginning n (branch list kids notes) e = ap (greatest_of_all beginning n) (of_list-to_list kids)
of_children beginning n (branch tuple kids notes) e = ap (greatest_of_all beginning n) (of_list-to_list kids)
