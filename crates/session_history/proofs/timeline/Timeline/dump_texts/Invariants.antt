use Rattle.std.proofs.Common.{◌≡◌, ◌≤◌, ◌++◌, Some, vec_capacity, drop}
use Rattle.std.specs.List.{AllByRecursion}
use Rattle.term_core.specs.Word.{label_of}
use Rattle.aterm_text.specs.inside.Printing.{Extends}
use Rattle.term_changes.specs.Slots.{contents}
use Rattle.session_history.specs.Dump.{module_lines}
use Rattle.session_history.proofs.timeline.Timeline.dump_texts.Given as goal

-- the commands written so far, followed by those still to come, are the whole text
abbrev pub invariant-loop-name : goal.invariant-loop-name
invariant-loop-name l = record {
  text : l.initial.out.items ++ module_lines (contents l.self.store) l.names
      ≡ l.out.items ++ module_lines (contents l.self.store) (drop l.name-index l.names);
  labels : AllByRecursion (λ name. label_of name ≡ Some name) (drop l.name-index l.names)
      → AllByRecursion (λ name. label_of name ≡ Some name) l.names;
  grows : Extends l.initial.out.items l.out.items;
  room : vec_capacity l.initial.out ≤ vec_capacity l.out;
}
