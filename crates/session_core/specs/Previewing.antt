-- What a preview lists.
use Rattle.std.specs.Prelude.{◌≡◌, ◌⊎◌, ℕ, List, [], ◌∷◌, Some, None, Ok, Err, IfOk, IfErr}
use Rattle.std.specs.List.{AllZip}
use Rattle.std.specs.FinMap as finmap
use Rattle.std.specs.declared.option.Option.{Option}
use Rattle.std.specs.declared.result.Result.{Result}
use Rattle.term_core.specs.Tree.{Tree}
use Rattle.term_paths.specs.Paths.{at}
use Rattle.term_changes.specs.Entries.{Entry, slot_tree, subterm, subterm_annotations, slot_text}
use Rattle.session_history.specs.Applying.{Meaning}
use Rattle.session_history.specs.History.{History}
use Rattle.session_history.specs.Preview.{Replacement, Previews}
use Rattle.session_history.specs.Preview as definition
use Rattle.session_modules.specs.declared.refusal.Refusal.{Refusal}
use Rattle.session_modules.specs.declared.refusal.Refusal.TheVariants.{Memory}
use Rattle.session_core.specs.declared.preview.Preview.{Preview}

-- an entry that puts what would be there at the place, in whatever slot
abbrev pub IsEntryFor : Entry → Replacement → Type 0
IsEntryFor (subterm slot path t) r = (path ≡ r.path) × (t ≡ r.new)
IsEntryFor (slot_tree slot t) r = ⊥
IsEntryFor (subterm_annotations slot path ts) r = ⊥
IsEntryFor (slot_text slot x) r = ⊥

-- what is there now is at its path in the tree
abbrev pub AreThere : Tree → List Replacement → Type 0
AreThere tree [] = Unit {0}
AreThere tree (r ∷ rs) = (at tree r.path ≡ Some r.old) × AreThere tree rs

-- It lists what applying would replace, as entries, and has the number of steps. What is there now is
-- found in the tree.
pub record ShowsPreview (meaning : Meaning) (name path : List ℕ) (b : ℕ) (text : List ℕ) (h : History)
    (preview : Preview) : Type 0 where
  pub shown : definition.Preview
  pub previews : Previews meaning name path b text h (Ok shown)
  pub plan : AllZip IsEntryFor preview.plan shown.replacements
  pub steps : preview.steps ≡ shown.steps
  pub tree : Tree
  pub held : finmap.get h.now.trees name ≡ Some tree
  pub there : AreThere tree shown.replacements

-- What the answer to a preview says: it shows what applying would replace, or the refusal is that of
-- applying, or want of memory.
pub record AnswersPreview (meaning : Meaning) (name path : List ℕ) (b : ℕ) (text : List ℕ) (h : History)
    (result : Result Preview Refusal) : Type 0 where
  pub ok : IfOk result (ShowsPreview meaning name path b text h)
  pub refused : IfErr result (λ refusal. (refusal ≡ Memory) ⊎ Previews meaning name path b text h (Err refusal))

-- a path and a term, if they are given
abbrev pub StartsWith : List ℕ → Tree → Option (List ℕ × Tree) → Type 0
StartsWith path t None = ⊥
StartsWith path t (Some x) = (x.0 ≡ path) × (x.1 ≡ t)

-- The next of the places: the path and the term of the first entry, if that is for a subterm, and the
-- other entries.
abbrev pub IsNext : List Entry → Option (List ℕ × Tree) → List Entry → Type 0
IsNext [] given rest = (given ≡ None) × (rest ≡ [])
IsNext (subterm slot path t ∷ es) given rest = StartsWith path t given × (rest ≡ es)
IsNext (slot_tree slot t ∷ es) given rest = Unit {0}
IsNext (subterm_annotations slot path ts ∷ es) given rest = Unit {0}
IsNext (slot_text slot x ∷ es) given rest = Unit {0}
