-- What the fields of a `Term` represent.
use Rattle.std.specs.Prelude.{◌≡◌, ◌≤◌, ◌+◌, ℕ, List, [], ◌∷◌, max}
use Rattle.std.proofs.Common.{arith}
use denote.Param.Weighed.{most}
use Rattle.term_core.specs.Tree.{Tree, integer, branch, application, list, tuple, of_list}
use Rattle.term_core.specs.Size.{height, heights}
use Rattle.term_core.specs.declared.term.Node.{Node}
use Rattle.term_core.specs.declared.term.Node.TheVariants.{Integer, Application, List as AList, Tuple}
use Rattle.term_core.specs.declared.term.Term.TheInside.{Inside}

abbrev pub node_term : Node → List Tree → List Tree → Tree
node_term (Integer z) us notes = integer z (of_list notes)
node_term (Application name) us notes = branch (application name) (of_list us) (of_list notes)
node_term AList us notes = branch list (of_list us) (of_list notes)
node_term Tuple us notes = branch tuple (of_list us) (of_list notes)

-- an integer has no children
abbrev pub node_shape : Node → List Tree → Type 0
node_shape (Integer z) us = us ≡ []
node_shape (Application name) us = Unit {0}
node_shape AList us = Unit {0}
node_shape Tuple us = Unit {0}

abbrev pub view_of : Inside → Tree
view_of a = node_term a.node a.children.items a.annotations.items

abbrev pub HasShape : Inside → Type 0
HasShape a = node_shape a.node a.children.items

-- ---- a child is lower than its parent

pub most_le-heights : (ts : List Tree) → most (λ t. height t + 1) ts ≤ heights (of_list ts) + 1
most_le-heights [] = omega arith
most_le-heights (t ∷ ts) = omega (arith, most_le-heights ts)

-- the least number above the heights of these children and annotations
abbrev pub above_parts : List Tree → List Tree → ℕ
above_parts us notes = max (most (λ t. height t + 1) us) (max (most (λ t. height t + 1) notes) 0)

pub above_parts_le-height : (n : Node) (us notes : List Tree) → node_shape n us
    → above_parts us notes ≤ height (node_term n us notes)
above_parts_le-height (Integer z) [] notes h = omega (arith, most_le-heights notes)
above_parts_le-height (Integer z) (u ∷ us) notes h = absurd (cc)
above_parts_le-height (Application name) us notes h =
    omega (arith, most_le-heights us, most_le-heights notes)
above_parts_le-height AList us notes h = omega (arith, most_le-heights us, most_le-heights notes)
above_parts_le-height Tuple us notes h = omega (arith, most_le-heights us, most_le-heights notes)
