-- Edits, one after the other.
use Rattle.std.proofs.Common.{◌≡◌, ℕ, List, [], ◌∷◌, ◌++◌, reverse, refl, sym, ap, ◌∙◌, subst, slice_get, Some, None, IsSome, is_some}
use Rattle.std.proofs.lemmas.List.{map-append}
use Rattle.std.proofs.lemmas.Grind.{reverse_onto}
use Rattle.term_core.specs.Tree.{Tree, children, with_child}
use Rattle.term_paths.specs.Paths.{at, set_at}
use Rattle.term_paths.specs.Edits.{Edits, paths, prefixed, Replaces}
use Rattle.term_paths.specs.Laws.{EditsMakeTheTree, EditsAfterEdits, EditsOfASubterm, EditsLeadBack}
use Rattle.term_paths.proofs.PathLemmas.{with_child-same, child-with_child, with_child-with_child, at-child, at-no_child, set_at-child}
use Rattle.term_paths.proofs.LawLemmas.{putting_back, set_is_there}

pub edits_make_the_tree : EditsMakeTheTree
edits_make_the_tree [] t u h = h
edits_make_the_tree (x ∷ e) t u h = edits_make_the_tree e (set_at t x.path x.new) u h.1

pub edits_after_edits : EditsAfterEdits
edits_after_edits [] f t u v h g = subst (λ x. Replaces f x v) (sym h) g
edits_after_edits (x ∷ e) f t u v h g = (h.0, edits_after_edits e f (set_at t x.path x.new) u v h.1 g)

-- ---- below a path

pub replaces-child : (e : Edits) (i : ℕ) (t u v : Tree) → slice_get (children t) i ≡ Some u → Replaces e u v
    → Replaces (prefixed (i ∷ []) e) t (with_child t i v)
replaces-child [] i t u v is h = sym (with_child-same t i u is) ∙ ap (with_child t i) h
replaces-child (x ∷ e) i t u v is h =
    let kid = set_at u x.path x.new in
    let step = with_child t i kid in
    let rest : Replaces (prefixed (i ∷ []) e) step (with_child t i v) =
    subst (Replaces (prefixed (i ∷ []) e) step) (with_child-with_child t i kid v)
    (replaces-child e i step kid v (child-with_child t i u kid is) h.1) in (
      subst IsSome (sym (at-child t u i x.path is)) h.0,
      subst (λ y. Replaces (prefixed (i ∷ []) e) y (with_child t i v)) (sym (set_at-child t u x.new i x.path is)) rest,
    )

prefixed-root : (e : Edits) → prefixed [] e ≡ e
prefixed-root [] = refl
prefixed-root (x ∷ e) = ap (λ l. x ∷ l) (prefixed-root e)

prefixed-child : (i : ℕ) (p : List ℕ) (e : Edits) → prefixed (i ∷ []) (prefixed p e) ≡ prefixed (i ∷ p) e
prefixed-child i p [] = refl
prefixed-child i p (x ∷ e) = ap (λ l. record { path = i ∷ (p ++ x.path); new = x.new } ∷ l) (prefixed-child i p e)

pub edits_of_a_subterm : EditsOfASubterm
edits_of_a_subterm e whole t u [] is h =
    let same : whole ≡ t = cc in
    subst (λ x. Replaces x whole u) (sym (prefixed-root e)) (subst (λ x. Replaces e x u) (sym same) h)
edits_of_a_subterm e whole t u (i ∷ p) is h =
    elim (slice_get (children whole) i) as (λ o.
    slice_get (children whole) i ≡ o → Replaces (prefixed (i ∷ p) e) whole (set_at whole (i ∷ p) u)) [
      | None ↦ λ no. absurd (let none = sym (at-no_child whole i p no) ∙ is in cc)
      | Some kid ↦ λ some.
          subst (Replaces (prefixed (i ∷ p) e) whole) (sym (set_at-child whole kid u i p some))
          (subst (λ x. Replaces x whole (with_child whole i (set_at kid p u))) (prefixed-child i p e)
          (replaces-child (prefixed p e) i whole kid (set_at kid p u) some
          (edits_of_a_subterm e kid t u p (sym (at-child whole kid i p some) ∙ is) h)))
    ] refl

-- ---- back

pub edits_lead_back : EditsLeadBack
edits_lead_back [] t u h = ([], refl, sym h)
edits_lead_back (x ∷ e) t u h =
    let step = set_at t x.path x.new in
    let rest = edits_lead_back e step u h.1 in
    elim (at t x.path) as (λ o. at t x.path ≡ o → IsSome o
    → (back : Edits) × (paths back ≡ reverse (paths (x ∷ e))) × Replaces back u t) [
      | None ↦ λ is some. absurd (cc)
      | Some old ↦ λ is some.
          let last : Edits = record { path = x.path; new = old } ∷ [] in (
            rest.0 ++ last,
            map-append (λ y. y.path) rest.0 last ∙ ap (λ l. l ++ (x.path ∷ [])) rest.1
                ∙ sym (reverse_onto (paths e) x.path []),
            edits_after_edits rest.0 last u step t rest.2
                (ap is_some (set_is_there t x.new old x.path is), putting_back t x.new old x.path is),
          )
    ] refl h.0
