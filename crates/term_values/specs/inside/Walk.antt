-- The trees that a walk visits.
use Rattle.std.specs.Prelude.{◌≡◌, List, [], ◌++◌, map, Some, None}
use Rattle.std.specs.declared.option.Option.{Option}
use denote.Ref.{Bor}
use Rattle.term_core.specs.Tree.{Tree, children}
use Rattle.term_changes.specs.Standing.{standing_tree}
use Rattle.term_values.specs.declared.elements.Run.{Run}
use Rattle.term_values.specs.declared.elements.Run.TheVariants as run
use Rattle.term_values.specs.declared.elements.Elements.TheInside.{Inside as ElementsFields}

abbrev pub run_list : Run → List Tree
run_list run.Empty = []
run_list (run.Terms ts) = ts.now
run_list (run.Values vs) = vs.now
run_list (run.Parts ps) = map standing_tree ps.now

abbrev pub after_list : Option (Bor Tree) → List Tree
after_list None = []
after_list (Some v) = children v.now

abbrev pub elements_list : ElementsFields → List Tree
elements_list a = run_list a.run ++ after_list a.after

-- an empty run has no value after it
abbrev pub NoGap : ElementsFields → Type 0
NoGap a = run_list a.run ≡ [] → a.after ≡ None
