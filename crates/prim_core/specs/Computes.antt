-- When an operation may serve as a primitive.
use Rattle.std.specs.Prelude.{◌≡◌, ℕ, List, length}
use Rattle.std.specs.declared.option.Option.{Option}
use Rattle.term_core.specs.Tree.{Tree}

-- An operation computes a function on lists of terms of one length: it may be run on each of them,
-- and its possible answer is the function's value there. The first two arguments say whether an
-- operation may be run on terms, and what it may then answer, apart from want of memory.
pub record Computes {F : Type 0} (may_run : F → List Tree → Type 0)
    (answers : F → List Tree → Option Tree → Type 0) (operation : F) (arity : ℕ)
    (value : List Tree → Option Tree) : Type 0 where
  pub callable : (arguments : List Tree) → length arguments ≡ arity → may_run operation arguments
  pub answered : (arguments : List Tree) (found : Option Tree) → length arguments ≡ arity
      → answers operation arguments found → found ≡ value arguments
