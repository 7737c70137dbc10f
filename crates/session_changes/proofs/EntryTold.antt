-- What is told of one entry, of a patch, and of a name that isn't asked for.
use Rattle.std.proofs.Common.{◌≡◌, ℕ, true, false, List, [], ◌∷◌, map, slice_get, Some, None, is_some, option_map, refl, sym, ap, ◌∙◌, append-nil, if◌then◌else◌}
use Rattle.std.specs.Prelude.{option_and_then}
use Rattle.std.specs.declared.option.Option.{Option}
use Rattle.std.specs.Option.{option_map_or}
use Rattle.std.specs.List.{flat_map}
use Rattle.std.specs.Str.{bytes_eq}
use Rattle.std.specs.Cmp.Lexicographic.{bytes_decides}
use Rattle.term_core.specs.Tree.{Tree}
use Rattle.term_paths.specs.Paths.{at, set_at}
use Rattle.term_changes.specs.Change.{Change, changed}
use Rattle.term_changes.specs.Slots.{Store, HaveDistinctLabels, content, with_content, slot_of, contents}
use Rattle.term_changes.specs.Entries.{Entry, subterm, Fits}
use Rattle.term_changes.specs.Exchange.{changed_in}
use Rattle.term_changes.specs.PatchLaws.{patch_entries, patched}
use Rattle.term_changes.proofs.SlotLemmas.{no_slot, same_content}
use Rattle.term_changes.proofs.FlipLemmas.{leads_both_ways}
use Rattle.session_history.specs.Differences.{differences, difference_line, changes_of}
use Rattle.session_changes.specs.inside.Told.{log_lines, entry_lines, asked_lines, if_asked, IsAsked, IsNamed}
use Rattle.session_changes.proofs.ChangedLemmas.{no_tree_changes}
use Rattle.session_changes.proofs.LogTold.{log_told, nothing_changed}

-- ---- what is asked for

pub asked_told : {A : Type 0} (asked : Option (List ℕ)) (n : List ℕ) (xs : List A) → IsAsked asked n
    → if_asked asked n xs ≡ xs
asked_told None n xs h = refl
asked_told (Some m) n xs h = ap (λ b. if b then xs else []) ((bytes_decides m n).1 h)

pub unasked_told : {A : Type 0} (asked : Option (List ℕ)) (n : List ℕ) (xs : List A)
    → (IsAsked asked n → ⊥) → if_asked asked n xs ≡ []
unasked_told None n xs never = absurd (never tt)
unasked_told (Some m) n xs never =
    elim (bytes_eq m n) as (λ b. bytes_eq m n ≡ b → (if b then xs else []) ≡ []) [
      | true ↦ λ e. absurd (never ((bytes_decides m n).0 e))
      | false ↦ λ e. refl
    ] refl

module _ (asked : Option (List ℕ)) (s : Store) (trees_are : HaveDistinctLabels s.trees)
    (texts_are : HaveDistinctLabels s.modules) where
  pub one_told : (n : List ℕ) (e : Entry) → IsNamed s n e → Fits (e ∷ []) s
      → log_lines asked (e ∷ []) s ≡ flat_map (asked_lines asked s) ((n, e) ∷ [])
  one_told n e named fits = log_told asked s trees_are texts_are ((n, e) ∷ []) (named, tt) (tt, tt) fits

  -- ---- a patch

  module _ (c : Change) (i : ℕ) (p : List ℕ) where
    told : log_lines asked (patch_entries i p c) s ≡ changes_of asked (contents (patched c i p s)) (contents s)
    told = ap (λ x. changes_of asked (contents x) (contents s)) (leads_both_ways c i p s).1

    -- where nothing is put
    as_before : with_content s.trees i (option_map (λ t. changed_in c t p) (content s.trees i))
        ≡ s.trees → log_lines asked (patch_entries i p c) s ≡ []
    as_before e = told ∙ ap (λ ts. changes_of asked (contents (record s { trees = ts })) (contents s)) e
        ∙ nothing_changed asked (contents s)

    same_there : option_map (λ t. changed_in c t p) (content s.trees i) ≡ content s.trees i
        → log_lines asked (patch_entries i p c) s ≡ []
    same_there e = as_before (ap (with_content s.trees i) e ∙ same_content s.trees i)

    pub no_slot_told : slice_get s.trees i ≡ None → log_lines asked (patch_entries i p c) s ≡ []
    no_slot_told e = as_before (no_slot s.trees i (option_map (λ t. changed_in c t p) (content s.trees i)) e)

    pub no_tree_told : content s.trees i ≡ None → log_lines asked (patch_entries i p c) s ≡ []
    no_tree_told e = same_there (ap (option_map (λ t. changed_in c t p)) e ∙ sym e)

    pub no_part_told : (t : Tree) → content s.trees i ≡ Some t
        → at t p ≡ None → log_lines asked (patch_entries i p c) s ≡ []
    no_part_told t e none =
        same_there (ap (option_map (λ t. changed_in c t p)) e
        ∙ ap (λ o. Some (option_map_or (λ u. set_at t p (changed c u)) o t)) none ∙ sym e)

    module _ (n : List ℕ) (slot : slot_of s.trees n ≡ Some i) where
      pub other_told : (IsAsked asked n → ⊥) → log_lines asked (patch_entries i p c) s ≡ []
      other_told never = told
          ∙ no_tree_changes s i n trees_are slot (option_map (λ t. changed_in c t p) (content s.trees i)) asked never

      pub patch_told : (t w : Tree) → content s.trees i ≡ Some t → at t p ≡ Some w → IsAsked asked n
          → log_lines asked (patch_entries i p c) s ≡ map (difference_line n) (differences p (changed c w) w)
      patch_told t w e there h =
          let e' = subterm i p (changed c w) in
          let lines = map (difference_line n) (differences p (changed c w) w) in
          let found : option_and_then (λ t. at t p) (content s.trees i) ≡ Some w = ap (option_and_then (λ t. at t p)) e
          ∙ there in
          let put_there : option_map (λ t. changed_in c t p) (content s.trees i) ≡ option_map (λ t.
          set_at t p (changed c w)) (content s.trees i) =
          ap (option_map (λ t. changed_in c t p)) e
          ∙ ap (λ o. Some (option_map_or (λ u. set_at t p (changed c u)) o t)) there
          ∙ ap (option_map (λ t. set_at t p (changed c w))) (sym e) in
          let fits : Fits (e' ∷ []) s = (ap is_some found, tt) in
          told
          ∙ ap (λ o. changes_of asked (contents (record s { trees = with_content s.trees i o })) (contents s)) put_there
          ∙ one_told n e' slot fits
          ∙ append-nil (if_asked asked n (entry_lines s n e'))
          ∙ asked_told asked n (entry_lines s n e') h
          ∙ ap (λ o. option_map_or (λ new. map (difference_line n) (differences p (changed c w) new)) o []) found
