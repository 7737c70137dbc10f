-- Sizes and heights of parts.
use Rattle.std.proofs.Common.{◌≡◌, ℕ, ◌+◌, ◌<◌, ◌≤◌, max, List, [], ◌∷◌, ◌++◌, length, drop, slice_get, Some, zero, suc, refl, sym, ap, subst, arith}
use Rattle.term_core.specs.Tree.{Tree, integer, branch, of_list, children, annotations, with_annotations, bare, list_term}
use Rattle.term_core.specs.Size.{height, heights, size, sizes}
use Rattle.term_core.proofs.TreeLemmas.{of_list-to_list, size_pos}
use Rattle.term_values.specs.declared.bounds.Bounds.{Bounds}
use Rattle.term_values.specs.inside.Bounded.{Covers, Bounded, AllBounded, AllWithin}
use Rattle.term_values.specs.inside.ValueFalls.{size_parts, sizes-append, some_size, size_annotated}
use Rattle.term_core.specs.Kind.{made_of}
use Rattle.term_core.specs.declared.kind.Kind.{Kind}
use Rattle.term_core.specs.declared.kind.Kind.TheVariants.{Integer, Application, List as AList, Tuple}
use Rattle.term_values.specs.inside.Shape.{kind_shape}
use Rattle.term_values.specs.declared.value.Top.{Top}
use Rattle.term_values.specs.declared.value.Top.TheVariants.{Borrowed, Owned}
use Rattle.term_values.specs.inside.ValueView.{top_tree, top_shape}

pub height_parts : (t : Tree) → height t ≡ max (heights (of_list (children t))) (heights (of_list (annotations t))) + 1
height_parts (integer z notes) = omega (arith, ap heights (of_list-to_list notes))
height_parts (branch head kids notes) =
    omega (arith, ap heights (of_list-to_list kids), ap heights (of_list-to_list notes))

pub heights-append : (us vs : List Tree)
    → heights (of_list (us ++ vs)) ≡ max (heights (of_list us)) (heights (of_list vs))
heights-append [] vs = omega arith
heights-append (u ∷ us) vs = omega (arith, heights-append us vs)

-- one of n trees whose sizes add up to s and whose heights are below h
pub within_all : (us : List Tree) (b : Bounds) (n s h : ℕ)
    → ((u : Tree) → size u + n ≤ s → height u + 1 ≤ h → Bounded u b)
    → sizes (of_list us) + n + 1 ≤ s + length us → heights (of_list us) + 1 ≤ h → AllWithin us b
within_all [] b n s h f p q = tt
within_all (u ∷ us) b n s h f p q = (
  f u (omega (arith, p, length_sizes us)) (omega (arith, q)),
  within_all us b n s h f (omega (arith, p, size_pos u)) (omega (arith, q)),
)
  where
    length_sizes : (vs : List Tree) → length vs ≤ sizes (of_list vs)
    length_sizes [] = omega arith
    length_sizes (v ∷ vs) = omega (arith, size_pos v, length_sizes vs)

-- ---- one of several trees

pub member_size : (us vs all : List Tree) (v : Tree) → us ++ v ∷ vs ≡ all → size v ≤ sizes (of_list all)
member_size us vs all v e =
    omega (arith, ap (λ l. sizes (of_list l)) e, sizes-append us (v ∷ vs))

pub bounded_along : (t u : Tree) (b : Bounds) → t ≡ u → Bounded t b → Bounded u b
bounded_along t u b e h = subst (λ (x : Tree). Bounded x b) e h

pub got_within : (us : List Tree) (b : Bounds) (i : ℕ) (v : Tree) → slice_get us i ≡ Some v → AllWithin us b
    → Bounded v b
got_within [] b i v e h = absurd (cc)
got_within (u ∷ us) b zero v e h = let same : u ≡ v = cc in bounded_along u v b same h.0
got_within (u ∷ us) b (suc i) v e h = got_within us b i v e h.1

pub covers_along : (s r h k : ℕ) (b : Bounds) → s ≡ r → h ≡ k → Covers s h b → Covers r k b
covers_along s r h k b e f c = subst (λ (n : ℕ). Covers n k b) e (subst (λ (n : ℕ). Covers s n b) f c)

pub all_bounded_more : (us : List Tree) (v : Tree) (b : Bounds)
    → Covers (sizes (of_list us) + size v) (max (heights (of_list us)) (height v)) b → AllBounded (us ++ v ∷ []) b
all_bounded_more us v b h =
    let s : sizes (of_list us) + size v ≡ sizes (of_list (us ++ v ∷ [])) = omega (arith, sizes-append us (v ∷ [])) in
    let k : max (heights (of_list us)) (height v) ≡ heights (of_list (us ++ v ∷ [])) =
    omega (arith, heights-append us (v ∷ [])) in
    covers_along _ _ _ _ b s k h

-- a node over its children and annotations
pub node_bounded : (t : Tree) (us ns : List Tree) (b : Bounds) → us ≡ children t → ns ≡ annotations t
    → Covers (sizes (of_list us) + sizes (of_list ns) + 1) (max (heights (of_list us)) (heights (of_list ns)) + 1) b
    → Bounded t b
node_bounded t us ns b e f h =
    let s : sizes (of_list us) + sizes (of_list ns) + 1 ≡ size t =
    omega (arith, size_parts t, ap (λ l. sizes (of_list l)) e, ap (λ l. sizes (of_list l)) f) in
    let k : max (heights (of_list us)) (heights (of_list ns)) + 1 ≡ height t =
    omega (arith, height_parts t, ap (λ l. heights (of_list l)) e, ap (λ l. heights (of_list l)) f) in
    covers_along _ _ _ _ b s k h

pub nothing : (us : List Tree) → length us ≡ 0 → us ≡ []
nothing [] e = refl
nothing (u ∷ us) e = absurd (omega (arith, e))

-- a node without annotations
pub bare_bounded : (t : Tree) (us : List Tree) (b : Bounds) → us ≡ children t → length (annotations t) ≡ 0
    → Covers (sizes (of_list us) + 1) (heights (of_list us) + 1) b → Bounded t b
bare_bounded t us b e f h =
    node_bounded t us [] b e (sym (nothing (annotations t) f)) (covers_along _ _ _ _ b (omega arith) (omega arith) h)

-- a node without children and annotations
pub leaf_bounded : (t : Tree) (b : Bounds) → length (children t) ≡ 0 → length (annotations t) ≡ 0 → Covers 1 1 b
    → Bounded t b
leaf_bounded t b e f h = node_bounded t [] [] b (sym (nothing (children t) e)) (sym (nothing (annotations t) f)) h

-- ---- new nodes

kind_bounded : (k : Kind) (us : List Tree) (b : Bounds) → kind_shape k us
    → Covers (sizes (of_list us) + 1) (heights (of_list us) + 1) b → Bounded (made_of k us []) b
kind_bounded (Integer z) us b e h =
    let s : sizes (of_list us) + 1 ≡ 1 = omega (arith, ap (λ l. sizes (of_list l)) e) in
    let k : heights (of_list us) + 1 ≡ 1 = omega (arith, ap (λ l. heights (of_list l)) e) in
    covers_along _ _ _ _ b s k h
kind_bounded (Application name) us b e h = covers_along _ _ _ _ b (omega arith) (omega arith) h
kind_bounded AList us b e h = covers_along _ _ _ _ b (omega arith) (omega arith) h
kind_bounded Tuple us b e h = covers_along _ _ _ _ b (omega arith) (omega arith) h

pub top_bounded : (n : Top) (us : List Tree) (b : Bounds) → top_shape n us
    → Covers (sizes (of_list us) + 1) (heights (of_list us) + 1) b → Bounded (top_tree n us []) b
top_bounded (Borrowed k) us b e h = kind_bounded k us b e h
top_bounded (Owned name) us b e h = covers_along _ _ _ _ b (omega arith) (omega arith) h

pub joined_bounded : (us : List Tree) (t : Tree) (b : Bounds) → t ≡ list_term (children t)
    → Covers (sizes (of_list us) + size t) (max (heights (of_list us) + 1) (height t)) b
    → Bounded (list_term (us ++ children t)) b
joined_bounded us t b e h =
    let s : sizes (of_list us) + size t ≡ size (list_term (us ++ children t)) =
    omega (arith, ap size e, sizes-append us (children t)) in
    let k : max (heights (of_list us) + 1) (height t) ≡ height (list_term (us ++ children t)) =
    omega (arith, ap height e, heights-append us (children t)) in
    covers_along _ _ _ _ b s k h

height_annotated : (t : Tree) (ns : List Tree)
    → height (with_annotations t ns) ≡ max (heights (of_list (children t))) (heights (of_list ns)) + 1
height_annotated (integer z notes) ns = omega arith
height_annotated (branch head kids notes) ns = omega (arith, ap heights (of_list-to_list kids))

pub annotated_bounded : (t : Tree) (ns : List Tree) (b : Bounds) → annotations t ≡ []
    → Covers (sizes (of_list ns) + size t) (max (heights (of_list ns) + 1) (height t)) b
    → Bounded (with_annotations t ns) b
annotated_bounded t ns b e h =
    let s : sizes (of_list ns) + size t ≡ size (with_annotations t ns) =
    omega (arith, size_annotated t ns, size_parts t, ap (λ l. sizes (of_list l)) e) in
    let k : max (heights (of_list ns) + 1) (height t) ≡ height (with_annotations t ns) =
    omega (arith, height_annotated t ns, height_parts t, ap (λ l. heights (of_list l)) e) in
    covers_along _ _ _ _ b s k h

-- ---- parts of a term

sizes_drop : (us : List Tree) (k : ℕ) → k ≤ length us → sizes (of_list (drop k us)) + k ≤ sizes (of_list us)
sizes_drop us zero h = omega arith
sizes_drop [] (suc k) h = absurd (omega (arith, h))
sizes_drop (u ∷ us) (suc k) h = omega (arith, sizes_drop us k (omega (arith, h)), size_pos u)

heights_drop : (us : List Tree) (k : ℕ) → heights (of_list (drop k us)) ≤ heights (of_list us)
heights_drop us zero = omega arith
heights_drop [] (suc k) = omega arith
heights_drop (u ∷ us) (suc k) = omega (arith, heights_drop us k)

pub rest_size : (t : Tree) (k : ℕ) → k ≤ length (children t) → size (list_term (drop k (children t))) + k ≤ size t
rest_size t k h = omega (arith, sizes_drop (children t) k h, size_parts t)

pub rest_height : (t : Tree) (k : ℕ) → height (list_term (drop k (children t))) + 0 ≤ height t
rest_height t k = omega (arith, heights_drop (children t) k, height_parts t)

pub bare_less : (t : Tree) → 0 < length (annotations t) → size (bare t) + 1 ≤ size t
bare_less t h = omega (arith, size_annotated t [], size_parts t, some_size (annotations t) h)

pub bare_height : (t : Tree) → height (bare t) + 0 ≤ height t
bare_height t = omega (arith, height_annotated t [], height_parts t)

pub annotations_size : (t : Tree) → sizes (of_list (annotations t)) + 1 ≤ size t
annotations_size t = omega (arith, size_parts t)

pub annotations_height : (t : Tree) → heights (of_list (annotations t)) + 1 ≤ height t
annotations_height t = omega (arith, height_parts t)
