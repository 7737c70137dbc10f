-- Laws of lists of sorts, and of their depth.
use Rattle.std.proofs.Common.{◌≡◌, ℕ, zero, suc, ◌≤◌, ◌<◌, List, [], ◌∷◌, length, get_or, refl, sym, ap, ◌∙◌, arith}
use Rattle.term_sorts.specs.Sorts.{Sort, sort, arguments_of, Sorts, no_sorts, and_sort, sorts_of, sort_list}
use Rattle.term_sorts.specs.inside.SortView.{depth, depths}

pub sort_list-sorts_of : (ss : List Sort) → sort_list (sorts_of ss) ≡ ss
sort_list-sorts_of [] = refl
sort_list-sorts_of (s ∷ ss) = ap (λ l. s ∷ l) (sort_list-sorts_of ss)

pub sorts_of-sort_list : (ss : Sorts) → sorts_of (sort_list ss) ≡ ss
sorts_of-sort_list no_sorts = refl
sorts_of-sort_list (and_sort s ss) = ap (and_sort s) (sorts_of-sort_list ss)

-- equal lists have equal sorts
pub sorts_of-only : (ps qs : List Sort) → sorts_of ps ≡ sorts_of qs → ps ≡ qs
sorts_of-only ps qs e = sym (sort_list-sorts_of ps) ∙ ap sort_list e ∙ sort_list-sorts_of qs

-- a sort of a list is no deeper than the list
pub depths-item : (ss : List Sort) (i : ℕ) (s : Sort) → i < length ss → s ≡ get_or ss i s
    → depth s ≤ depths (sorts_of ss)
depths-item [] i s h e = absurd (omega arith)
depths-item (q ∷ ss) zero s h e = omega (arith, ap depth e)
depths-item (q ∷ ss) (suc i) s h e = let below : i < length ss = omega arith in
    omega (arith, depths-item ss i s below e)

pub ruleset sort_parts = (sort_list-sorts_of, sorts_of-sort_list, sorts_of-only, depths-item)

-- the arguments of a sort are less deep
pub arguments_depth : (s : Sort) (ss : List Sort) → ss ≡ arguments_of s → depths (sorts_of ss) < depth s
arguments_depth (sort f qs) ss e =
    omega (arith, ap (λ (l : List Sort). depths (sorts_of l)) e, ap depths (sorts_of-sort_list qs))
