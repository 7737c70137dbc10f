-- Children and annotations are lower than their term.
use Rattle.std.proofs.Common.{◌≡◌, ◌<◌, List, ap, arith}
use Rattle.term_core.specs.Tree.{Tree, integer, branch, of_list, children, annotations}
use Rattle.term_core.specs.Size.{height, heights}
use Rattle.term_core.proofs.TreeLemmas.{of_list-to_list}

pub children_lower : (t : Tree) (us : List Tree) → us ≡ children t → heights (of_list us) < height t
children_lower (integer z notes) us e = omega (arith, ap (λ l. heights (of_list l)) e)
children_lower (branch h kids notes) us e =
    omega (arith, ap (λ l. heights (of_list l)) e, ap heights (of_list-to_list kids))

pub annotations_lower : (t : Tree) (us : List Tree) → us ≡ annotations t → heights (of_list us) < height t
annotations_lower (integer z notes) us e =
    omega (arith, ap (λ l. heights (of_list l)) e, ap heights (of_list-to_list notes))
annotations_lower (branch h kids notes) us e =
    omega (arith, ap (λ l. heights (of_list l)) e, ap heights (of_list-to_list notes))
