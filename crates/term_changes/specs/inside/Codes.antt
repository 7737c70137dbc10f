-- How the logic stores contents, stores and entries.
use Rattle.std.specs.Prelude.{◌≡◌, ℕ, List, ◌⊎◌, refl}
use Rattle.std.proofs.Common.{inl, inr}
use Rattle.std.specs.declared.option.Option.{Option}
use Rattle.std.specs.Coded.{Coded, code_by, coded×, coded⊎, coded_ℕ, coded_list, coded_option}
use Rattle.std.specs.FinMap as finmap
use Rattle.term_core.specs.Tree.{Tree}
use Rattle.term_core.specs.inside.TreeCode.{tree_code}
use Rattle.term_changes.specs.Contents.{Contents, Named}
use Rattle.term_changes.specs.Slots.{Slots, Store}
use Rattle.term_changes.specs.Entries.{Entry, slot_tree, subterm, subterm_annotations, slot_text}

abbrev pub text_code : Coded (List ℕ)
text_code = coded_list coded_ℕ

abbrev pub contents_code : Coded Contents
contents_code =
    code_by (Named Tree × Named (List ℕ))
    (coded× (finmap.code text_code tree_code) (finmap.code text_code text_code))
    (λ c. (c.trees, c.modules)) (λ p. record { trees = p.0; modules = p.1 }) (λ _. refl)

abbrev pub slots_code : {X : Type 0} → Coded X → Coded (Slots X)
slots_code x = coded_list (coded× text_code (coded_option x))

abbrev pub store_code : Coded Store
store_code =
    code_by (Slots Tree × Slots (List ℕ)) (coded× (slots_code tree_code) (slots_code text_code))
    (λ s. (s.trees, s.modules)) (λ p. record { trees = p.0; modules = p.1 }) (λ _. refl)

-- a tree or none, a subterm or annotations at a path, or a text or none
abbrev Kept : Type 0
Kept = Option Tree ⊎ ((List ℕ × Tree) ⊎ ((List ℕ × List Tree) ⊎ Option (List ℕ)))

abbrev kept_code : Coded Kept
kept_code =
    coded⊎ (coded_option tree_code)
    (coded⊎ (coded× text_code tree_code)
    (coded⊎ (coded× text_code (coded_list tree_code)) (coded_option text_code)))

abbrev to_kept : Entry → ℕ × Kept
to_kept (slot_tree i t) = (i, inl t)
to_kept (subterm i p t) = (i, inr (inl (p, t)))
to_kept (subterm_annotations i p ts) = (i, inr (inr (inl (p, ts))))
to_kept (slot_text i t) = (i, inr (inr (inr t)))

abbrev from_kept : ℕ × Kept → Entry
from_kept (i, inl t) = slot_tree i t
from_kept (i, inr (inl a)) = subterm i a.0 a.1
from_kept (i, inr (inr (inl a))) = subterm_annotations i a.0 a.1
from_kept (i, inr (inr (inr t))) = slot_text i t

pub from_kept-to_kept : (e : Entry) → from_kept (to_kept e) ≡ e
from_kept-to_kept (slot_tree i t) = refl
from_kept-to_kept (subterm i p t) = refl
from_kept-to_kept (subterm_annotations i p ts) = refl
from_kept-to_kept (slot_text i t) = refl

abbrev pub entry_code : Coded Entry
entry_code = code_by (ℕ × Kept) (coded× coded_ℕ kept_code) to_kept from_kept from_kept-to_kept
