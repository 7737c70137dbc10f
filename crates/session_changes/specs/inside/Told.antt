-- What is told of the entries of a log.
use Rattle.std.specs.Prelude.{◌≡◌, ◌<◌, ℕ, length, Bool, true, false, List, [], ◌∷◌, map, Ok, if◌then◌else◌}
use Rattle.std.specs.Str.{bytes_eq}
use Rattle.std.specs.Option.{option_map_or}
use Rattle.std.specs.declared.option.Option.{Option}
use Rattle.std.specs.declared.option.Option.TheVariants.{Some, None}
use Rattle.term_core.specs.Tree.{annotations, of_list}
use Rattle.prim_core.specs.Signature.{Signature}
use Rattle.term_changes.specs.Slots.{Store, content, contents, slot_of}
use Rattle.term_changes.specs.Entries.{Entry, slot_tree, subterm, subterm_annotations, slot_text, subterm_in, before, Fits}
use Rattle.session_history.specs.Differences.{annotated, differences, difference_line, tree_lines, text_lines, changes_of, base_of}
use Rattle.session_history.specs.Unfolded.{Logged, unfolded}

-- the lines of one entry, of which this is the name
abbrev pub entry_lines : Store → List ℕ → Entry → List (List ℕ)
entry_lines s name (slot_tree i old) = tree_lines name old (content s.trees i)
entry_lines s name (subterm i path old) =
    option_map_or (λ new. map (difference_line name) (differences path old new)) (subterm_in s.trees i path) []
entry_lines s name (subterm_annotations i path old) =
    option_map_or (λ new. map (difference_line name) (annotated path (of_list old) (of_list (annotations new))))
    (subterm_in s.trees i path) []
entry_lines s name (slot_text i old) = text_lines name old (content s.modules i)

-- the lines of the changes from before a log
abbrev pub log_lines : Option (List ℕ) → List Entry → Store → List (List ℕ)
log_lines name log s = changes_of name (contents (before log s)) (contents s)

-- whether changes of this name are asked for
abbrev pub IsAsked : Option (List ℕ) → List ℕ → Type 0
IsAsked None label = Unit {0}
IsAsked (Some name) label = name ≡ label

-- ---- entries, each with the name of its slot

abbrev pub IsNamed : Store → List ℕ → Entry → Type 0
IsNamed s n (slot_tree i o) = slot_of s.trees n ≡ Some i
IsNamed s n (subterm i p o) = slot_of s.trees n ≡ Some i
IsNamed s n (subterm_annotations i p os) = slot_of s.trees n ≡ Some i
IsNamed s n (slot_text i x) = slot_of s.modules n ≡ Some i

abbrev pub AllAs : (List ℕ → Entry → Type 0) → List (List ℕ × Entry) → Type 0
AllAs P [] = Unit {0}
AllAs P (p ∷ ps) = P p.0 p.1 × AllAs P ps

abbrev pub those : List (List ℕ × Entry) → List Entry
those ps = map (λ p. p.1) ps

-- the lines of a name, if they are asked for
abbrev pub if_asked : {A : Type 0} → Option (List ℕ) → List ℕ → List A → List A
if_asked None n xs = xs
if_asked (Some asked) n xs = if bytes_eq asked n then xs else []

abbrev pub asked_lines : Option (List ℕ) → Store → List ℕ × Entry → List (List ℕ)
asked_lines asked s p = if_asked asked p.0 (entry_lines s p.0 p.1)

abbrev pub is_of_text : Entry → Bool
is_of_text (slot_tree i o) = false
is_of_text (subterm i p o) = false
is_of_text (subterm_annotations i p os) = false
is_of_text (slot_text i x) = true

-- the store has the entry's slot; or those of all
abbrev pub HasSlot : Store → Entry → Type 0
HasSlot s (slot_tree i o) = i < length s.trees
HasSlot s (subterm i p o) = i < length s.trees
HasSlot s (subterm_annotations i p os) = i < length s.trees
HasSlot s (slot_text i x) = i < length s.modules

abbrev pub HaveSlots : Store → List Entry → Type 0
HaveSlots s [] = Unit {0}
HaveSlots s (e ∷ es) = HasSlot s e × HaveSlots s es
