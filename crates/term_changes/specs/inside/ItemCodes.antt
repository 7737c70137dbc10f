-- What changes after skipped children find, and how the logic stores them.
use Rattle.std.specs.Prelude.{suc, List, [], ◌∷◌, drop, slice_get}
use Rattle.std.specs.Coded.{Coded, code_by, coded×, coded_ℕ, coded_list}
use Rattle.std.specs.Option.{option_map_or}
use Rattle.term_core.specs.Tree.{Tree}
use Rattle.term_core.specs.inside.TreeCode.{tree_code}
use Rattle.term_changes.specs.Change.{Change}
use Rattle.term_changes.specs.inside.ChangeCode.{change_tree, tree_change, change_again}
use Rattle.term_changes.specs.Exchange.{taken}
use Rattle.term_changes.specs.Items.{Item}

abbrev pub taken_item : Item → List Tree → Item
taken_item x us = (x.0, option_map_or (taken x.1) (slice_get us x.0) x.1)

abbrev pub taken_items : List Item → List Tree → List Item
taken_items [] us = []
taken_items (x ∷ xs) us = taken_item x us ∷ taken_items xs (drop (suc x.0) us)

abbrev pub change_code : Coded Change
change_code = code_by Tree tree_code change_tree tree_change change_again

abbrev pub items_code : Coded (List Item)
items_code = coded_list (coded× coded_ℕ change_code)
