-- Laws of lists of terms, and of heights and sizes.
use Rattle.std.proofs.Common.{◌≡◌, ℕ, ◌+◌, ◌≤◌, ◌<◌, List, [], ◌∷◌, ◌++◌, length, take, get_or, refl, sym, ap, ◌∙◌, arith, zero, suc, max}
use Rattle.std.proofs.lemmas.List.{take_more}
use Rattle.term_core.specs.Tree.{Tree, Trees, integer, branch, none, more, to_list, of_list, children, annotations}
use Rattle.term_core.specs.Size.{height, heights, size, sizes}

pub to_list-of_list : (us : List Tree) → to_list (of_list us) ≡ us
to_list-of_list [] = refl
to_list-of_list (u ∷ us) = ap (λ l. u ∷ l) (to_list-of_list us)

pub of_list-to_list : (ts : Trees) → of_list (to_list ts) ≡ ts
of_list-to_list none = refl
of_list-to_list (more t ts) = ap (more t) (of_list-to_list ts)

-- ---- heights and sizes of lists of terms

pub height_pos : (t : Tree) → 0 < height t
height_pos (integer z notes) = omega arith
height_pos (branch head kids notes) = omega arith

pub size_pos : (t : Tree) → 0 < size t
size_pos (integer z notes) = omega arith
size_pos (branch head kids notes) = omega arith

heights-append : (us : List Tree) (v : Tree) → heights (of_list (us ++ v ∷ [])) ≡ max (heights (of_list us)) (height v)
heights-append [] v = omega arith
heights-append (u ∷ us) v = omega (arith, heights-append us v)

sizes-append : (us : List Tree) (v : Tree) → sizes (of_list (us ++ v ∷ [])) ≡ sizes (of_list us) + size v
sizes-append [] v = omega arith
sizes-append (u ∷ us) v = omega (arith, sizes-append us v)

pub heights-take_more : (us : List Tree) (i : ℕ) (v : Tree) → i < length us → v ≡ get_or us i v
    → heights (of_list (take (i + 1) us)) ≡ max (heights (of_list (take i us))) (height v)
heights-take_more us i v h e = ap (λ l. heights (of_list l))
    (take_more us i v h ∙ ap (λ x. take i us ++ x ∷ []) (sym e)) ∙ heights-append (take i us) v

pub sizes-take_more : (us : List Tree) (i : ℕ) (v : Tree) → i < length us → v ≡ get_or us i v
    → sizes (of_list (take (i + 1) us)) ≡ sizes (of_list (take i us)) + size v
sizes-take_more us i v h e = ap (λ l. sizes (of_list l)) (take_more us i v h ∙ ap (λ x. take i us ++ x ∷ []) (sym e))
    ∙ sizes-append (take i us) v

pub heights-take : (us : List Tree) (i : ℕ) → heights (of_list (take i us)) ≤ heights (of_list us)
heights-take us zero = omega arith
heights-take [] (suc i) = omega arith
heights-take (u ∷ us) (suc i) = omega (arith, heights-take us i)

pub sizes-take : (us : List Tree) (i : ℕ) → sizes (of_list (take i us)) ≤ sizes (of_list us)
sizes-take us zero = omega arith
sizes-take [] (suc i) = omega arith
sizes-take (u ∷ us) (suc i) = omega (arith, sizes-take us i)

-- ---- each child and each annotation is lower than the term

get_or-lower : (ts : Trees) (i : ℕ) (d : Tree) → i < length (to_list ts) → height (get_or (to_list ts) i d) ≤ heights ts
get_or-lower none i d h = absurd (omega arith)
get_or-lower (more t ts) zero d h = omega arith
get_or-lower (more t ts) (suc i) d h = let lower : i < length (to_list ts) = omega arith in
    omega (arith, get_or-lower ts i d lower)

pub child-lower : (t : Tree) (i : ℕ) (d : Tree) → i < length (children t) → height (get_or (children t) i d) < height t
child-lower (integer z notes) i d h = absurd (omega arith)
child-lower (branch head kids notes) i d h = omega (arith, get_or-lower kids i d h)

pub annotation-lower : (t : Tree) (i : ℕ) (d : Tree) → i < length (annotations t)
    → height (get_or (annotations t) i d) < height t
annotation-lower (integer z notes) i d h = omega (arith, get_or-lower notes i d h)
annotation-lower (branch head kids notes) i d h = omega (arith, get_or-lower notes i d h)
