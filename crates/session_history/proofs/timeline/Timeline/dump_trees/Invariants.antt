use Rattle.std.proofs.Common.{◌≡◌, ◌≤◌, ◌++◌, [], vec_capacity, drop}
use Rattle.std.specs.Option.{option_map_or}
use Rattle.std.specs.List.{flat_map, AllByRecursion}
use Rattle.std.specs.FinMap as finmap
use Rattle.aterm_text.specs.inside.Printing.{Extends}
use Rattle.term_changes.specs.Slots.{contents}
use Rattle.session_history.specs.Dump.{tree_line, IsNamedTerm}
use Rattle.session_history.proofs.timeline.Timeline.dump_trees.Given as goal

-- the lines written so far, followed by those still to come, are the whole text
abbrev pub invariant-loop-name : goal.invariant-loop-name
invariant-loop-name l = record {
  text : l.initial.out.items
      ++ flat_map (λ name. option_map_or (tree_line name) (finmap.get (contents l.self.store).trees name) []) l.names
      ≡ l.out.items ++ flat_map (λ name.
      option_map_or (tree_line name) (finmap.get (contents l.self.store).trees name) []) (drop l.name-index l.names);
  terms : AllByRecursion (IsNamedTerm (contents l.self.store)) (drop l.name-index l.names)
      → AllByRecursion (IsNamedTerm (contents l.self.store)) l.names;
  grows : Extends l.initial.out.items l.out.items;
  room : vec_capacity l.initial.out ≤ vec_capacity l.out;
}
