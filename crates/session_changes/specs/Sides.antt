-- What is told of one side of a change.
use Rattle.std.specs.Prelude.{ℕ, List, codes}
use Rattle.term_core.specs.Tree.{of_list}
use Rattle.aterm_text.specs.Printed.{print}
use Rattle.session_history.specs.Differences.{in_braces}
use Rattle.session_changes.specs.declared.lines.Side.{Side}
use Rattle.session_changes.specs.declared.lines.Side.TheVariants.{Nothing, Tree, Annotations}

abbrev pub side_text : Side → List ℕ
side_text Nothing = codes "(none)"
side_text (Tree t) = print t.now
side_text (Annotations ts) = in_braces (of_list ts.now)
