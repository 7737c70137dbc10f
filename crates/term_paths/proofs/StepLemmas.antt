-- One step of the calls on trees: from a term to a child.
use Rattle.std.proofs.Common.{◌≡◌, ℕ, ◌+◌, ◌<◌, ◌≤◌, Bool, true, false, List, ◌∷◌, length, drop, get_or, set, sym, ap, ◌∙◌, Some, None, is_some, option_map}
use Rattle.std.specs.List.{slice_get, refill}
use Rattle.std.specs.Bool.{OnTrue, OnFalse}
use Rattle.std.proofs.lemmas.List.{drop_more, drop_all, length-set, take_at}
use Rattle.std.proofs.lemmas.Option.{slice_get-get_or, slice_get_past}
use Rattle.term_core.specs.Tree.{Tree, children, annotations, with_children, with_child}
use Rattle.term_paths.specs.Paths.{at, leads, annotations_at, set_at, set_annotations_at, ChangesAt}
use Rattle.term_paths.proofs.PathLemmas.{at-child, at-no_child, set_at-child, set_annotations_at-child, with_child-same}

-- ---- reading

at-drop : (here : Tree) (p : List ℕ) (i : ℕ) → i < length p
    → at here (drop i p) ≡ at here (get_or p i 0 ∷ drop (i + 1) p)
at-drop here p i h = ap (at here) (drop_more p i 0 h)

pub at-drop_child : (here kid : Tree) (p : List ℕ) (i : ℕ) → i < length p
    → Some kid ≡ slice_get (children here) (get_or p i 0) → at here (drop i p) ≡ at kid (drop (i + 1) p)
at-drop_child here kid p i h e = at-drop here p i h ∙ at-child here kid (get_or p i 0) (drop (i + 1) p) (sym e)

pub at-drop_no_child : (here : Tree) (p : List ℕ) (i : ℕ) → i < length p
    → None ≡ slice_get (children here) (get_or p i 0) → at here (drop i p) ≡ None
at-drop_no_child here p i h e = at-drop here p i h ∙ at-no_child here (get_or p i 0) (drop (i + 1) p) (sym e)

pub at-drop_all : (here : Tree) (p : List ℕ) (i : ℕ) → length p ≤ i → at here (drop i p) ≡ Some here
at-drop_all here p i h = ap (at here) (drop_all i p h)

-- ---- changing

-- child i of the children while they are lent
pub child_read : (t d : Tree) (us : List Tree) (i : ℕ) → us ≡ children t → i < length (children t)
    → slice_get (children t) i ≡ Some (get_or us i d)
child_read t d us i e h = slice_get-get_or (children t) i d h ∙ ap (λ l. Some (get_or l i d)) (sym e)

-- a write of one of them
pub written : (t new : Tree) (us : List Tree) (i : ℕ) → us ≡ children t
    → with_children t (refill (length (children t)) (children t) (set us i new)) ≡ with_child t i new
written t new us i e =
    let same : length (set us i new) ≡ length (children t) = length-set us i new ∙ ap length e in
    ap (with_children t) (take_at (set us i new) (drop (length (set us i new)) (children t)) (length (children t)) same
    ∙ ap (λ l. set l i new) e)

-- the path leads nowhere if there is no such child
pub at-past : (t : Tree) (i : ℕ) (p rest : List ℕ) → p ≡ i ∷ rest → length (children t) ≤ i → at t p ≡ None
at-past t i p rest e h = ap (at t) e ∙ at-no_child t i rest (slice_get_past (children t) i h)

-- Each clause of a swap, from that of the swap in the child.

pub leads_below : (t kid : Tree) (i : ℕ) (p rest : List ℕ) (r : Bool)
    → p ≡ i ∷ rest → slice_get (children t) i ≡ Some kid → r ≡ leads kid rest → r ≡ leads t p
leads_below t kid i p rest r e is h = h ∙ ap is_some (sym (ap (at t) e ∙ at-child t kid i rest is))

pub old_below : (t kid old : Tree) (i : ℕ) (p rest : List ℕ) (r : Bool) → p ≡ i ∷ rest → slice_get (children t) i
    ≡ Some kid → OnTrue r (at kid rest ≡ Some old) → OnTrue r (at t p ≡ Some old)
old_below t kid old i p rest true e is h = ap (at t) e ∙ at-child t kid i rest is ∙ h
old_below t kid old i p rest false e is h = tt

pub old_annotations_below : (t kid : Tree) (old : List Tree) (i : ℕ) (p rest : List ℕ) (r : Bool)
    → p ≡ i ∷ rest → slice_get (children t) i ≡ Some kid → OnTrue r (annotations_at kid rest ≡ Some old)
    → OnTrue r (annotations_at t p ≡ Some old)
old_annotations_below t kid old i p rest true e is h =
    ap (option_map annotations) (ap (at t) e ∙ at-child t kid i rest is) ∙ h
old_annotations_below t kid old i p rest false e is h = tt

pub set_below : (t kid new u : Tree) (us : List Tree) (i : ℕ) (p rest : List ℕ) (r : Bool)
    → p ≡ i ∷ rest → us ≡ children t → slice_get (children t) i ≡ Some kid → OnTrue r (new ≡ set_at kid rest u)
    → OnTrue r (with_children t (refill (length (children t)) (children t) (set us i new)) ≡ set_at t p u)
set_below t kid new u us i p rest true e lent is h =
    written t new us i lent ∙ ap (with_child t i) h ∙ sym (set_at-child t kid u i rest is)
    ∙ ap (λ q. set_at t q u) (sym e)
set_below t kid new u us i p rest false e lent is h = tt

pub set_annotations_below : (t kid new : Tree) (notes us : List Tree) (i : ℕ) (p rest : List ℕ) (r : Bool)
    → p ≡ i ∷ rest → us ≡ children t → slice_get (children t) i ≡ Some kid
    → OnTrue r (new ≡ set_annotations_at kid rest notes) → OnTrue r
    (with_children t (refill (length (children t)) (children t) (set us i new)) ≡ set_annotations_at t p notes)
set_annotations_below t kid new notes us i p rest true e lent is h =
    written t new us i lent ∙ ap (with_child t i) h ∙ sym (set_annotations_at-child t kid notes i rest is)
    ∙ ap (λ q. set_annotations_at t q notes) (sym e)
set_annotations_below t kid new notes us i p rest false e lent is h = tt

pub outside_below : {X : Type 0} (t kid new : Tree) (x y : X) (us : List Tree) (i : ℕ) (r : Bool) → us ≡ children t
    → slice_get (children t) i ≡ Some kid → OnFalse r ((new ≡ kid) × (x ≡ y)) → OnFalse r
    ((with_children t (refill (length (children t)) (children t) (set us i new)) ≡ t) × (x ≡ y))
outside_below t kid new x y us i true lent is h = tt
outside_below t kid new x y us i false lent is h =
    (written t new us i lent ∙ ap (with_child t i) h.0 ∙ with_child-same t i kid is, h.1)

-- ---- changing with a closure

pub leads_past : (t : Tree) (i : ℕ) (p rest : List ℕ) → p ≡ i ∷ rest → length (children t) ≤ i → false ≡ leads t p
leads_past t i p rest e h = sym (ap is_some (ap (at t) e ∙ at-no_child t i rest (slice_get_past (children t) i h)))

pub changed_below : (P : Tree → Tree → Type 0) (t kid new : Tree) (us : List Tree) (i : ℕ) (p rest : List ℕ) (r : Bool)
    → p ≡ i ∷ rest → us ≡ children t → slice_get (children t) i ≡ Some kid → OnTrue r (ChangesAt P kid rest new)
    → OnTrue r (ChangesAt P t p (with_children t (refill (length (children t)) (children t) (set us i new))))
changed_below P t kid new us i p rest true e lent is h = (
  h.0,
  h.1,
  ap (at t) e ∙ at-child t kid i rest is ∙ h.2,
  h.3,
  set_below t kid new h.1 us i p rest true e lent is h.4,
)
changed_below P t kid new us i p rest false e lent is h = tt

pub same_below : (t kid new : Tree) (us : List Tree) (i : ℕ) (r : Bool) → us ≡ children t
    → slice_get (children t) i ≡ Some kid
    → OnFalse r (new ≡ kid) → OnFalse r (with_children t (refill (length (children t)) (children t) (set us i new)) ≡ t)
same_below t kid new us i true lent is h = tt
same_below t kid new us i false lent is h = written t new us i lent ∙ ap (with_child t i) h ∙ with_child-same t i kid is
