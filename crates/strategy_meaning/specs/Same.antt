-- A test for equal terms. The laws say that it is equality.
use Rattle.std.specs.Prelude.{Bool, true, false, ◌&&◌}
use Rattle.std.specs.Ordering.{int_eq}
use Rattle.term_core.specs.Tree.{same_name, Head, application, list, tuple, Tree, Trees, integer, branch, none, more}

abbrev pub same_head : Head → Head → Bool
same_head (application f) (application g) = same_name f g
same_head list list = true
same_head tuple tuple = true
same_head h k = false

abbrev mutual
  pub same_tree : Tree → Tree → Bool
  same_tree (integer y ns) (integer z ms) = int_eq y z && same_trees ns ms
  same_tree (branch h us ns) (branch k vs ms) =
      same_head h k && (same_trees us vs && same_trees ns ms)
  same_tree t u = false

  pub same_trees : Trees → Trees → Bool
  same_trees none none = true
  same_trees (more t ts) (more u us) = same_tree t u && same_trees ts us
  same_trees ts us = false
