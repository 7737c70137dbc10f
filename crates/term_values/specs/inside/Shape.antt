-- What holds of a node's fields.
use Rattle.std.specs.Prelude.{◌≡◌, ℕ, ◌<◌, List, [], ◌++◌, length}
use Rattle.term_core.specs.Tree.{Tree, children, annotations, list_term}
use Rattle.term_core.specs.declared.kind.Kind.{Kind}
use Rattle.term_core.specs.declared.kind.Kind.TheVariants.{Integer, Application, List as AList, Tuple}

-- an integer has no children
abbrev pub kind_shape : Kind → List Tree → Type 0
kind_shape (Integer z) us = us ≡ []
kind_shape (Application name) us = Unit {0}
kind_shape AList us = Unit {0}
kind_shape Tuple us = Unit {0}

-- Elements in front of a list without annotations; the count covers both.
pub record JoinedShape (front : List Tree) (after : Tree) (count : ℕ) : Type 0 where
  pub some : 0 < length front
  pub list : after ≡ list_term (children after)
  pub counted : count ≡ length (front ++ children after)

-- A node without annotations, given some.
pub record AnnotatedShape (node : Tree) (given : List Tree) : Type 0 where
  pub bare : annotations node ≡ []
  pub some : 0 < length given
