-- The contents of a session: trees and module texts by their names.
use Rattle.std.specs.Prelude.{ℕ, List}
use Rattle.std.specs.Ordering.{nat_cmp}
use Rattle.std.specs.Cmp.Lexicographic.{slice_cmp}
use Rattle.std.specs.FinMap as finmap
use Rattle.term_core.specs.Tree.{Tree}

-- a finite map from labels (byte strings) to values, in byte order
abbrev pub Named : Type 0 → Type 0
Named X = finmap.FinMap (slice_cmp nat_cmp) X

-- Finite maps from labels to trees and from labels to module texts.
pub record Contents : Type 0 where
  pub trees : Named Tree
  pub modules : Named (List ℕ)

-- no trees and no modules
abbrev pub no_contents : Contents
no_contents = record { trees = finmap.empty; modules = finmap.empty }

-- the contents with this tree under this label, and all else unchanged
abbrev pub with_tree : Contents → List ℕ → Tree → Contents
with_tree c name tree = record c { trees = finmap.insert c.trees name tree }

-- the contents without the tree of this label, and all else unchanged
abbrev pub without_tree : Contents → List ℕ → Contents
without_tree c name = record c { trees = finmap.remove c.trees name }

-- the same for module texts
abbrev pub with_module : Contents → List ℕ → List ℕ → Contents
with_module c name text = record c { modules = finmap.insert c.modules name text }

abbrev pub without_module : Contents → List ℕ → Contents
without_module c name = record c { modules = finmap.remove c.modules name }
