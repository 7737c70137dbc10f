-- The text of a preview, by the entries of its plan.
use Rattle.std.proofs.Common.{◌≡◌, ℕ, List, [], ◌∷◌, ◌++◌, length, Some, refl, sym, ap, ◌∙◌}
use Rattle.std.proofs.lemmas.Slice.Zip.{AllZip-long}
use Rattle.std.specs.Prelude.{is_some}
use Rattle.std.specs.Option.{option_map_or}
use Rattle.std.specs.List.{flat_map, AllZip}
use Rattle.term_core.specs.Tree.{Tree}
use Rattle.term_paths.specs.Paths.{at}
use Rattle.term_changes.specs.Entries.{Entry, slot_tree, subterm, subterm_annotations, slot_text}
use Rattle.session_history.specs.Preview.{Replacement, Preview}
use Rattle.session_core.specs.Previewing.{IsEntryFor, AreThere}
use Rattle.script_text.specs.Replies.{replacement_line, preview_line, preview_text}
use Rattle.script_core.specs.inside.PreviewLines.{AreIn, entry_line}

pub are_in : (tree : Tree) (plan : List Entry) (rs : List Replacement) → AllZip IsEntryFor plan rs → AreThere tree rs
    → AreIn tree plan
are_in tree [] rs are there = tt
are_in tree (subterm slot path t ∷ es) [] are there = absurd are
are_in tree (subterm slot path t ∷ es) (r ∷ rs) are there =
    (ap (λ p. is_some (at tree p)) are.0.0 ∙ ap is_some there.0, are_in tree es rs are.1 there.1)
are_in tree (slot_tree slot t ∷ es) [] are there = absurd are
are_in tree (slot_tree slot t ∷ es) (r ∷ rs) are there = absurd are.0
are_in tree (subterm_annotations slot path ts ∷ es) [] are there = absurd are
are_in tree (subterm_annotations slot path ts ∷ es) (r ∷ rs) are there = absurd are.0
are_in tree (slot_text slot x ∷ es) [] are there = absurd are
are_in tree (slot_text slot x ∷ es) (r ∷ rs) are there = absurd are.0

entry_line-is : (tree : Tree) (e : Entry) (r : Replacement) → IsEntryFor e r → at tree r.path ≡ Some r.old
    → entry_line tree e ≡ replacement_line r
entry_line-is tree (subterm slot path t) r is there =
    ap (λ p. entry_line tree (subterm slot p t)) is.0
    ∙ ap (λ o. option_map_or (λ old. replacement_line (record { path = r.path; old = old; new = t })) o []) there
    ∙ ap (λ u. replacement_line (record { path = r.path; old = r.old; new = u })) is.1
entry_line-is tree (slot_tree slot t) r is there = absurd is
entry_line-is tree (subterm_annotations slot path ts) r is there = absurd is
entry_line-is tree (slot_text slot x) r is there = absurd is

lines_of : (tree : Tree) (plan : List Entry) (rs : List Replacement) → AllZip IsEntryFor plan rs → AreThere tree rs
    → flat_map (entry_line tree) plan ≡ flat_map replacement_line rs
lines_of tree [] [] are there = refl
lines_of tree [] (r ∷ rs) are there = absurd are
lines_of tree (e ∷ es) [] are there = absurd are
lines_of tree (e ∷ es) (r ∷ rs) are there =
    λ i. entry_line-is tree e r are.0 there.0 i ++ lines_of tree es rs are.1 there.1 i

pub same_tree : (t u : Tree) → Some t ≡ Some u → t ≡ u
same_tree t u e = cc

pub text_of_plan : (tree : Tree) (plan : List Entry) (steps : ℕ) (shown : Preview)
    → AllZip IsEntryFor plan shown.replacements → steps ≡ shown.steps
    → AreThere tree shown.replacements
    → preview_line (length plan) steps ++ flat_map (entry_line tree) plan ≡ preview_text shown
text_of_plan tree plan steps shown are same there =
    let count = sym (AllZip-long IsEntryFor plan shown.replacements are) in
    let lines = lines_of tree plan shown.replacements are there in
    (λ i. preview_line (count i) (same i) ++ lines i)
