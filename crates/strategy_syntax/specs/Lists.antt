-- Lists that may have duplicates.
use Rattle.std.specs.Prelude.{Bool, List, [], ◌∷◌, ◌++◌, if◌then◌else◌}
use Rattle.std.specs.List.{list_any}

module _ {X : Type 0} (same : X → X → Bool) where
  abbrev pub is_among : X → List X → Bool
  is_among x ys = list_any (same x) ys

  -- each element once, at its first occurrence, without those seen before
  abbrev pub first_ones : List X → List X → List X
  first_ones seen [] = []
  first_ones seen (x ∷ xs) =
      if is_among x seen then first_ones seen xs else x ∷ first_ones (seen ++ x ∷ []) xs

  -- the list with the new elements among these appended
  abbrev pub with_new : List X → List X → List X
  with_new seen xs = seen ++ first_ones seen xs

  -- the repeated elements, from left to right, given those seen before
  abbrev pub repeated : List X → List X → List X
  repeated seen [] = []
  repeated seen (x ∷ xs) =
      if is_among x seen then x ∷ repeated seen xs else repeated (seen ++ x ∷ []) xs

  -- the elements that aren't among the others
  abbrev pub without : List X → List X → List X
  without others [] = []
  without others (x ∷ xs) = if is_among x others then without others xs else x ∷ without others xs
