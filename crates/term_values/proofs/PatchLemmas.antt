-- The items of a part.
use Rattle.std.proofs.Common.{◌≡◌, List, [], ◌++◌, ap, ◌∙◌, append-nil}
use Rattle.term_changes.specs.Change.{Change, places}
use Rattle.term_changes.specs.Items.{Item, first_change}
use Rattle.term_changes.specs.inside.Trimmed.{item_of}
use Rattle.term_changes.proofs.TrimLemmas.{trimmed_places}

pub all_places : (c : Change) (xs : List Item) → xs ≡ item_of c ++ [] → places (first_change xs) ≡ places c
all_places c xs h = ap (λ l. places (first_change l)) (h ∙ append-nil (item_of c)) ∙ trimmed_places c
