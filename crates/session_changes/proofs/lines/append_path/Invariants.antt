use Rattle.std.proofs.Common.{◌≡◌, ◌≤◌, ◌++◌, ◌∷◌, decimal, take}
use Rattle.std.specs.Prelude.{vec_capacity}
use Rattle.std.specs.List.{flat_map}
use Rattle.aterm_text.specs.inside.Printing.{Extends}
use Rattle.session_changes.proofs.lines.append_path.Given as goal

abbrev pub invariant-loop-part : goal.invariant-loop-part
invariant-loop-part l = record {
  text : l.out.items ≡ l.initial.out.items ++ flat_map (λ i. 47 ∷ decimal i) (take l.part-index l.path);
  grows : Extends l.initial.out.items l.out.items;
  room : vec_capacity l.initial.out ≤ vec_capacity l.out;
}
