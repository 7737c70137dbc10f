-- The lines of a preview, by the entries of its plan.
use Rattle.std.specs.Prelude.{ℕ, List, [], ◌∷◌, IsSome}
use Rattle.std.specs.Option.{option_map_or}
use Rattle.term_core.specs.Tree.{Tree}
use Rattle.term_paths.specs.Paths.{at}
use Rattle.term_changes.specs.Entries.{Entry, slot_tree, subterm, subterm_annotations, slot_text}
use Rattle.script_text.specs.Replies.{replacement_line}

-- each is for a subterm of the tree
abbrev pub AreIn : Tree → List Entry → Type 0
AreIn tree [] = Unit {0}
AreIn tree (subterm slot path t ∷ es) = IsSome (at tree path) × AreIn tree es
AreIn tree (slot_tree slot t ∷ es) = ⊥
AreIn tree (subterm_annotations slot path ts ∷ es) = ⊥
AreIn tree (slot_text slot x ∷ es) = ⊥

-- the line of an entry for a subterm, in the tree as it is now
abbrev pub entry_line : Tree → Entry → List ℕ
entry_line tree (subterm slot path t) =
    option_map_or (λ old. replacement_line (record { path = path; old = old; new = t })) (at tree path) []
entry_line tree (slot_tree slot t) = []
entry_line tree (subterm_annotations slot path ts) = []
entry_line tree (slot_text slot x) = []
