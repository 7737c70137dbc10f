-- How deep the rest of a text nests inside the brackets that are already open.
use Rattle.std.specs.Prelude.{ℕ, ◌<◌, ◌≤◌, List, length}
use Rattle.aterm_text.specs.Nesting.{greatest_open, outside_quotes}
use Rattle.aterm_text.specs.inside.TermStack.{TermStack}
use Rattle.aterm_text.specs.declared.TheConstants.{MAX_NESTING}
use Rattle.aterm_text.specs.declared.reader.machine.Progress.{Progress}
use Rattle.aterm_text.specs.declared.reader.machine.Progress.TheVariants.{More, Done}

-- the number of open brackets
abbrev pub depth : TermStack → ℕ
depth s = length s.open_brackets

-- too many brackets are open at one place of x, if n are open before it
abbrev pub IsTooDeep : ℕ → List ℕ → Type 0
IsTooDeep n x = MAX_NESTING < greatest_open n (outside_quotes x)

-- at most the greatest number are open after a step, and the rest is too deep if and only if the
-- text before the step was
pub record IsAsDeep (n : ℕ) (x : List ℕ) (n' : ℕ) (x' : List ℕ) : Type 0 where
  pub few : n' ≤ MAX_NESTING
  pub forth : IsTooDeep n x → IsTooDeep n' x'
  pub back : IsTooDeep n' x' → IsTooDeep n x

-- what a step says about the depth; at the end of the text nothing is too deep
abbrev pub KeepsDepth : TermStack → List ℕ → Progress → TermStack → Type 0
KeepsDepth s x (More state rest) s' =
    depth s ≤ MAX_NESTING → IsAsDeep (depth s) x (depth s') rest.now
KeepsDepth s x Done s' = depth s ≤ MAX_NESTING → IsTooDeep (depth s) x → ⊥
