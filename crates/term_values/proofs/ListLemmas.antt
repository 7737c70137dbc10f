-- Lists in chunks.
use Rattle.std.proofs.Common.{◌≡◌, ℕ, ◌+◌, ◌-◌, ◌<◌, ◌≤◌, List, [], ◌∷◌, ◌++◌, length, get_or, drop, take, refl, sym, ap, ◌∙◌, arith, append_assoc, zero, suc}
use Rattle.std.proofs.lemmas.List.{drop-drop, length-append, length-drop, length-take, take-take, drop-append-le, take-append-drop}
use Rattle.term_core.specs.Tree.{Tree, of_list, children, annotations, with_annotations, bare, list_term}
use Rattle.term_core.proofs.TreeLemmas.{to_list-of_list}
use Rattle.term_core.specs.Size.{size, sizes}
use Rattle.term_values.specs.inside.ValueFalls.{sizes-append, some_size}
use Rattle.term_values.proofs.KindLemmas.{with_annotations-same, with_annotations-again}

pub list_children : (us : List Tree) (t : Tree) → t ≡ list_term us → children t ≡ us
list_children us t e = ap children e ∙ to_list-of_list us

-- a list of these trees is a list of its children
pub is_list : (us : List Tree) (t : Tree) → t ≡ list_term us → t ≡ list_term (children t)
is_list us t e = e ∙ ap list_term (sym (list_children us t e))

-- ---- suffixes

pub rest_again : (us : List Tree) (t : Tree) (n k : ℕ) → t ≡ list_term (drop n us)
    → list_term (drop (n + k) us) ≡ list_term (drop k (children t))
rest_again us t n k e = ap list_term (sym (drop-drop k n us) ∙ ap (drop k) (sym (list_children (drop n us) t e)))

pub rest_within : (us : List Tree) (t : Tree) (n k : ℕ) → t ≡ list_term (drop n us) → n ≤ length us
    → k ≤ length (children t) → n + k ≤ length us
rest_within us t n k e h l = omega (arith, h, l, ap length (list_children (drop n us) t e), length-drop n us)

-- ---- chunks

pub chunk_room : (all left front ch : List Tree) (list : Tree) (n m : ℕ) → n ≤ length all → left ≡ take n all
    → list ≡ list_term (drop n all ++ ch) → front ≡ drop m left
    → length front + length (children list) ≤ length all + length ch
chunk_room all left front ch list n m h e k f =
    let kids : children list ≡ drop n all ++ ch = list_children (drop n all ++ ch) list k in
    omega (
      arith,
      h,
      ap length kids,
      length-append (drop n all) ch,
      length-drop n all,
      ap length f,
      length-drop m left,
      ap length e,
      length-take n all,
    )

pub chunk_more : (all left front ch : List Tree) (list next : Tree) (n m : ℕ) → n ≤ length all → m ≤ n
    → left ≡ take n all → list ≡ list_term (drop n all ++ ch) → front ≡ drop m left
    → next ≡ list_term (front ++ children list)
    → next ≡ list_term (drop m all ++ ch)
chunk_more all left front ch list next n m h l e k f g =
    let kids : children list ≡ drop n all ++ ch = list_children (drop n all ++ ch) list k in
    let mine : front ≡ drop m (take n all) = f ∙ ap (drop m) e in
    let split : drop m (take n all) ++ drop n all ≡ drop m all =
    sym (drop-append-le m (take n all) (drop n all) (omega (arith, h, l, length-take n all)))
    ∙ ap (drop m) (take-append-drop n all) in
    g ∙ (λ i. list_term (mine i ++ kids i))
    ∙ ap list_term (sym (append_assoc (drop m (take n all)) (drop n all) ch) ∙ ap (λ us. us ++ ch) split)

pub chunk_left : (all left rest : List Tree) (n m : ℕ) → n ≤ length all → m ≤ n → left ≡ take n all → rest ≡ take m left
    → (length rest ≡ m) × (rest ≡ take m all)
chunk_left all left rest n m h l e f =
    let same : rest ≡ take m all = f ∙ ap (take m) e ∙ take-take m n all l in
    (omega (arith, ap length same, length-take m all, h, l), same)

-- one more element in front of the rest of a chunk
pub link_more : (us ch : List Tree) (i : ℕ) (v rest next : Tree) → i < length us → v ≡ get_or us i v
    → rest ≡ list_term (drop (i + 1) us ++ ch)
    → next ≡ list_term (v ∷ children rest) → next ≡ list_term (drop i us ++ ch)
link_more us ch i v rest next h e k g =
    let kids : children rest ≡ drop (i + 1) us ++ ch = list_children (drop (i + 1) us ++ ch) rest k in
    g ∙ ap (λ l. list_term (v ∷ l)) kids ∙ ap (λ l. list_term (l ++ ch)) (sym (first us i h e))
  where
    first : (vs : List Tree) (n : ℕ) → n < length vs → v ≡ get_or vs n v → drop n vs ≡ v ∷ drop (n + 1) vs
    first [] n l f = absurd (omega (arith, l))
    first (x ∷ vs) zero l f = ap (λ y. y ∷ vs) (sym f)
    first (x ∷ vs) (suc n) l f =
        let one : suc (n + 1) ≡ suc n + 1 = omega arith in
        first vs n (omega (arith, l)) f ∙ ap (λ m. v ∷ drop m (x ∷ vs)) one

-- ---- annotations

pub bare_same : (t : Tree) → length (annotations t) ≡ 0 → t ≡ bare t
bare_same t h = sym (with_annotations-same t) ∙ ap (with_annotations t) (nothing (annotations t) h)
  where
    nothing : (us : List Tree) → length us ≡ 0 → us ≡ []
    nothing [] e = refl
    nothing (u ∷ us) e = absurd (omega (arith, e))

pub annotated_bare : (t u : Tree) (ns : List Tree) → with_annotations t ns ≡ u → annotations t ≡ [] → t ≡ bare u
annotated_bare t u ns e h = bare_same t (ap length h) ∙ sym (with_annotations-again t ns []) ∙ ap bare e

-- ---- elements in front of a list

pub joined_size : (us : List Tree) (t : Tree) → t ≡ list_term (children t)
    → size (list_term (us ++ children t)) ≡ sizes (of_list us) + size t
joined_size us t e = omega (arith, ap size e, sizes-append us (children t))

pub joined_falls : (us : List Tree) (t whole : Tree) → 0 < length us → t ≡ list_term (children t)
    → list_term (us ++ children t) ≡ whole → size t < size whole
joined_falls us t whole h e w = omega (arith, ap size w, joined_size us t e, some_size us h)

pub after_within : (us vs : List Tree) (t : Tree) (k : ℕ) → list_term (us ++ vs) ≡ t → k ≤ length (children t)
    → k - length us ≤ length vs
after_within us vs t k e h = omega (arith, h, ap length (list_children (us ++ vs) t (sym e)), length-append us vs)

drop_after : (us vs : List Tree) (k : ℕ) → length us ≤ k → drop (k - length us) vs ≡ drop k (us ++ vs)
drop_after [] vs k h = let none : k - length {A = Tree} [] ≡ k = omega arith in ap (λ n. drop n vs) none
drop_after (u ∷ us) vs zero h = absurd (omega (arith, h))
drop_after (u ∷ us) vs (suc k) h =
    let less : suc k - length (u ∷ us) ≡ k - length us = omega arith in
    ap (λ n. drop n vs) less ∙ drop_after us vs k (omega (arith, h))

pub rest_of_after : (us vs : List Tree) (t : Tree) (k : ℕ)
    → list_term (us ++ vs) ≡ t → length us ≤ k → list_term (drop (k - length us) vs) ≡ list_term (drop k (children t))
rest_of_after us vs t k e h =
    ap list_term (drop_after us vs k h ∙ ap (drop k) (sym (list_children (us ++ vs) t (sym e))))

-- one element in front of a list
pub one_in_front : (us rest ch : List Tree) (v : Tree)
    → us ≡ rest ++ v ∷ [] → length us ≡ 1 → list_term (v ∷ ch) ≡ list_term (us ++ ch)
one_in_front us [] ch v e h = ap (λ l. list_term (l ++ ch)) (sym e)
one_in_front us (r ∷ rest) ch v e h = absurd (omega (arith, h, ap length e, length-append rest (v ∷ [])))
