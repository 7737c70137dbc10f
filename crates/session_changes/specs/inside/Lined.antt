-- Lines that are written and counted.
use Rattle.std.specs.Prelude.{◌≡◌, ℕ, ◌+◌, Bool, true, false, List, ◌++◌, length}
use Rattle.std.specs.List.{flat_map}
use Rattle.std.specs.Ordering.{int_eq}
use Rattle.term_core.specs.Tree.{same_name}
use Rattle.term_core.specs.declared.kind.Kind.{Kind}
use Rattle.term_core.specs.declared.kind.Kind.TheVariants.{Integer, Application, List as AList, Tuple}
use Rattle.session_changes.specs.declared.lines.CountedLines.{CountedLines}

-- These lines were added.
pub record AddsLines (lines : List (List ℕ)) (old new : CountedLines) : Type 0 where
  pub text : new.text.items ≡ old.text.items ++ flat_map (λ l. l) lines
  pub count : new.count ≡ old.count + length lines

abbrev pub same_kind : Kind → Kind → Bool
same_kind (Integer y) (Integer z) = int_eq y z
same_kind (Application f) (Application g) = same_name f.now g.now
same_kind AList AList = true
same_kind Tuple Tuple = true
same_kind a b = false
