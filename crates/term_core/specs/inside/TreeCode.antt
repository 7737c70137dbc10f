-- How the logic stores a term: its marks in pre-order, with a mark at the end of each list of
-- terms.
use Rattle.std.specs.Prelude.{◌≡◌, ℕ, ℤ, pos, Bool, false, ◌==◌, cond, List, [], ◌∷◌, Some, None, ◌⊎◌, refl}
use Rattle.std.proofs.Common.{inl, inr, ap, ◌∙◌}
use Rattle.std.specs.declared.option.Option.{Option}
use Rattle.std.specs.Coded.{Coded, code_by, coded×, coded⊎, coded_ℕ, coded_ℤ, coded_bool, coded_list, coded_option}
use Rattle.term_core.specs.Tree.{Symbol, Head, application, list, tuple, Tree, Trees, integer, branch, none, more}

abbrev pub symbol_code : Coded Symbol
symbol_code =
    code_by (List ℕ × Bool) (coded× (coded_list coded_ℕ) coded_bool) (λ n. (n.text, n.is_quoted))
    (λ p. record { text = p.0; is_quoted = p.1 }) (λ _. refl)

abbrev HeadParts : Type 0
HeadParts = ℕ × Symbol

abbrev to_parts : Head → HeadParts
to_parts (application name) = (0, name)
to_parts list = (1, record { text = []; is_quoted = false })
to_parts tuple = (2, record { text = []; is_quoted = false })

abbrev from_parts : HeadParts → Head
from_parts p = cond (p.0 == 0) (application p.1) (cond (p.0 == 1) list tuple)

pub from_parts-to_parts : (h : Head) → from_parts (to_parts h) ≡ h
from_parts-to_parts (application name) = refl
from_parts-to_parts list = refl
from_parts-to_parts tuple = refl

abbrev pub head_code : Coded Head
head_code = code_by HeadParts (coded× coded_ℕ symbol_code) to_parts from_parts from_parts-to_parts

-- an integer, a head, or the end of a list of terms
abbrev Mark : Type 0
Mark = Option (ℤ ⊎ Head)

abbrev mutual
  marks : Tree → List Mark → List Mark
  marks (integer z notes) rest = Some (inl z) ∷ marks_of_all notes rest
  marks (branch head kids notes) rest =
      Some (inr head) ∷ marks_of_all kids (marks_of_all notes rest)

  marks_of_all : Trees → List Mark → List Mark
  marks_of_all none rest = None ∷ rest
  marks_of_all (more t ts) rest = marks t (marks_of_all ts rest)

-- The marks are read from the right, onto a stack of lists of terms.
abbrev read_mark : Mark → List Trees → List Trees
read_mark None stack = none ∷ stack
read_mark (Some (inl z)) [] = []
read_mark (Some (inl z)) (notes ∷ []) = []
read_mark (Some (inl z)) (notes ∷ (ts ∷ stack)) = more (integer z notes) ts ∷ stack
read_mark (Some (inr head)) [] = []
read_mark (Some (inr head)) (kids ∷ []) = []
read_mark (Some (inr head)) (kids ∷ (notes ∷ [])) = []
read_mark (Some (inr head)) (kids ∷ (notes ∷ (ts ∷ stack))) =
    more (branch head kids notes) ts ∷ stack

abbrev read_marks : List Mark → List Trees
read_marks [] = none ∷ []
read_marks (m ∷ ms) = read_mark m (read_marks ms)

abbrev first_tree : List Trees → Tree
first_tree [] = integer (pos 0) none
first_tree (none ∷ stack) = integer (pos 0) none
first_tree (more t ts ∷ stack) = t

mutual
  pub read_marks-marks : (t : Tree) (rest : List Mark) (ts : Trees) (stack : List Trees)
      → read_marks rest ≡ ts ∷ stack → read_marks (marks t rest) ≡ more t ts ∷ stack
  read_marks-marks (integer z notes) rest ts stack e =
      ap (read_mark (Some (inl z))) (read_marks-marks_of_all notes rest ∙ ap (λ s. notes ∷ s) e)
  read_marks-marks (branch head kids notes) rest ts stack e = ap (read_mark (Some (inr head)))
      (read_marks-marks_of_all kids (marks_of_all notes rest) ∙ ap (λ s. kids ∷ s)
      (read_marks-marks_of_all notes rest ∙ ap (λ s. notes ∷ s) e))

  pub read_marks-marks_of_all : (ts : Trees) (rest : List Mark) → read_marks (marks_of_all ts rest)
      ≡ ts ∷ read_marks rest
  read_marks-marks_of_all none rest = refl
  read_marks-marks_of_all (more t ts) rest =
      read_marks-marks t (marks_of_all ts rest) ts (read_marks rest)
      (read_marks-marks_of_all ts rest)

abbrev pub tree_code : Coded Tree
tree_code =
    code_by (List Mark) (coded_list (coded_option (coded⊎ coded_ℤ head_code))) (λ t. marks t [])
    (λ ms. first_tree (read_marks ms))
    (λ t. ap first_tree (read_marks-marks t [] none [] refl))
