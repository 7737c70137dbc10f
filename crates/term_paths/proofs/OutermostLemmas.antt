-- A tree and the same tree after edits agree everywhere else.
use Rattle.std.proofs.Common.{◌≡◌, ℕ, ◌+◌, zero, suc, true, false, cond, ◌==◌, eq-eqb, List, [], ◌∷◌, ◌++◌, map, set, refl, sym, ap, ◌∙◌, subst, Some, None, arith}
use Rattle.std.specs.Prelude.{⊤}
use Rattle.std.specs.List.{slice_get}
use Rattle.std.specs.Bool.{IsFalse}
use Rattle.std.specs.Option.{option_map_or}
use Rattle.term_core.specs.Tree.{Tree, Trees, integer, branch, none, more, to_list, of_list, children, with_child}
use Rattle.term_core.proofs.TreeLemmas.{of_list-to_list}
use Rattle.term_paths.specs.Paths.{set_at}
use Rattle.term_paths.specs.Edits.{Edits, paths, Replaces, has_root, through, kids_of, with_outermost, all_with_outermost}
use Rattle.term_paths.specs.Laws.{OutermostAreEnough}

abbrev Ways : Type 0
Ways = List (List ℕ)

-- If the root isn't among the paths, the trees have the same root, and their children agree outside
-- the paths through them.
abbrev mutual
  Agrees : Ways → Tree → Tree → Type 0
  Agrees ps (integer z notes) u = IsFalse (has_root ps) → u ≡ integer z notes
  Agrees ps (branch h kids notes) u =
      IsFalse (has_root ps) → (others : Trees) × (u ≡ branch h others notes) × AllAgree ps 0 kids others

  -- the same for all children from number i on, with equal numbers of them
  AllAgree : Ways → ℕ → Trees → Trees → Type 0
  AllAgree ps i none none = ⊤
  AllAgree ps i none (more u us) = ⊥
  AllAgree ps i (more t ts) none = ⊥
  AllAgree ps i (more t ts) (more u us) = Agrees (through i ps) t u × AllAgree ps (suc i) ts us

mutual
  agrees-self : (ps : Ways) (t : Tree) → Agrees ps t t
  agrees-self ps (integer z notes) = λ r. refl
  agrees-self ps (branch h kids notes) = λ r. (kids, refl, all_agree-self ps 0 kids)

  all_agree-self : (ps : Ways) (i : ℕ) (ts : Trees) → AllAgree ps i ts ts
  all_agree-self ps i none = tt
  all_agree-self ps i (more t ts) = (agrees-self (through i ps) t, all_agree-self ps (suc i) ts)

-- ---- in sequence

root-left : (ps qs : Ways) → IsFalse (has_root (ps ++ qs)) → IsFalse (has_root ps)
root-left [] qs h = refl
root-left ([] ∷ ps) qs h = h
root-left ((i ∷ p) ∷ ps) qs h = root-left ps qs h

root-right : (ps qs : Ways) → IsFalse (has_root (ps ++ qs)) → IsFalse (has_root qs)
root-right [] qs h = h
root-right ([] ∷ ps) qs h = absurd (cc)
root-right ((i ∷ p) ∷ ps) qs h = root-right ps qs h

through-append : (i : ℕ) (ps qs : Ways) → through i (ps ++ qs) ≡ through i ps ++ through i qs
through-append i [] qs = refl
through-append i ([] ∷ ps) qs = through-append i ps qs
through-append i ((j ∷ p) ∷ ps) qs =
    elim (j == i) as (λ b. cond b (p ∷ through i (ps ++ qs)) (through i (ps ++ qs)) ≡ cond b (p ∷ through i ps)
    (through i ps) ++ through i qs) [
      | true ↦ ap (λ l. p ∷ l) (through-append i ps qs)
      | false ↦ through-append i ps qs
    ]

mutual
  agrees-after : (ps qs : Ways) (t u v : Tree) → Agrees ps t u → Agrees qs u v → Agrees (ps ++ qs) t v
  agrees-after ps qs (integer z notes) u v h g = λ r.
      let k : Agrees qs (integer z notes) v = subst (λ x. Agrees qs x v) (h (root-left ps qs r)) g in
      k (root-right ps qs r)
  agrees-after ps qs (branch x kids notes) u v h g = λ r.
      let m = h (root-left ps qs r) in
      let k : Agrees qs (branch x m.0 notes) v = subst (λ y. Agrees qs y v) m.1 g in
      let n = k (root-right ps qs r) in
      (n.0, n.1, all_agree-after ps qs 0 kids m.0 n.0 m.2 n.2)

  all_agree-after : (ps qs : Ways) (i : ℕ) (ts us vs : Trees) → AllAgree ps i ts us → AllAgree qs i us vs
      → AllAgree (ps ++ qs) i ts vs
  all_agree-after ps qs i none none vs h g =
      elim vs as (λ w. AllAgree qs i none w → AllAgree (ps ++ qs) i none w) [ none ↦ λ k. tt | more v ws ↦ λ k. k ] g
  all_agree-after ps qs i none (more u us) vs h g = absurd h
  all_agree-after ps qs i (more t ts) none vs h g = absurd h
  all_agree-after ps qs i (more t ts) (more u us) none h g = absurd g
  all_agree-after ps qs i (more t ts) (more u us) (more v vs) h g = (
    subst (λ x. Agrees x t v) (sym (through-append i ps qs)) (agrees-after (through i ps) (through i qs) t u v h.0 g.0),
    all_agree-after ps qs (suc i) ts us vs h.1 g.1,
  )

-- ---- one edit

abbrev below : ℕ → Ways → Ways
below i ps = map (λ p. i ∷ p) ps

through-own : (i : ℕ) (ps : Ways) → through i (below i ps) ≡ ps
through-own i [] = refl
through-own i (p ∷ ps) = rw (eq-eqb i i refl) (ap (λ l. p ∷ l) (through-own i ps))

agree-set : (ps : Ways) (i j k : ℕ) (ts : Trees) (u v : Tree) → j ≡ k + i → slice_get (to_list ts) i ≡ Some u
    → Agrees ps u v → AllAgree (below j ps) k ts (of_list (set (to_list ts) i v))
agree-set ps i j k none u v is some h = absurd (cc)
agree-set ps zero j k (more t ts) u v is some h =
    let same : u ≡ t = cc in
    let here : j ≡ k = omega (arith, is) in (
      subst (λ x. Agrees x t v) (sym (ap (λ n. through n (below j ps)) (sym here) ∙ through-own j ps))
          (subst (λ x. Agrees ps x v) same h),
      subst (AllAgree (below j ps) (suc k) ts) (sym (of_list-to_list ts)) (all_agree-self (below j ps) (suc k) ts),
    )
agree-set ps (suc i) j k (more t ts) u v is some h =
    (agrees-self (through k (below j ps)) t, agree-set ps i j (suc k) ts u v (omega (arith, is)) some h)

child-agrees : (ps : Ways) (i : ℕ) (t u v : Tree) → slice_get (children t) i ≡ Some u → Agrees ps u v
    → Agrees (below i ps) t (with_child t i v)
child-agrees ps i (integer z notes) u v is h = λ r. refl
child-agrees ps i (branch x kids notes) u v is h = λ r.
    (of_list (set (to_list kids) i v), refl, agree-set ps i i 0 kids u v (omega arith) is h)

root-agrees : (t v : Tree) → Agrees ([] ∷ []) t v
root-agrees (integer z notes) v = λ r. absurd (cc)
root-agrees (branch h kids notes) v = λ r. absurd (cc)

set-agrees : (p : List ℕ) (t v : Tree) → Agrees (p ∷ []) t (set_at t p v)
set-agrees [] t v = root-agrees t v
set-agrees (i ∷ p) t v =
    elim (slice_get (children t) i) as (λ o. slice_get (children t) i
    ≡ o → Agrees ((i ∷ p) ∷ []) t (option_map_or (λ kid. with_child t i (set_at kid p v)) o t)) [
      | None ↦ λ is. agrees-self ((i ∷ p) ∷ []) t
      | Some kid ↦ λ is. child-agrees (p ∷ []) i t kid (set_at kid p v) is (set-agrees p kid v)
    ] refl

-- ---- all of them

agrees : (e : Edits) (t u : Tree) → Replaces e t u → Agrees (paths e) t u
agrees [] t u h = subst (Agrees [] t) h (agrees-self [] t)
agrees (x ∷ e) t u h =
    let step = set_at t x.path x.new in
    agrees-after (x.path ∷ []) (paths e) t step u (set-agrees x.path t x.new) (agrees e step u h.1)

mutual
  outermost-agrees : (ps : Ways) (t u : Tree) → Agrees ps t u → with_outermost ps t u ≡ u
  outermost-agrees ps (integer z notes) u h =
      elim (has_root ps) as (λ b. (IsFalse b → u ≡ integer z notes) → cond b u (integer z notes) ≡ u) [
        | true ↦ λ k. refl
        | false ↦ λ k. sym (k refl)
      ] h
  outermost-agrees ps (branch x kids notes) u h =
      elim (has_root ps) as (λ b.
      (IsFalse b → (others : Trees) × (u ≡ branch x others notes) × AllAgree ps 0 kids others)
      → cond b u (branch x (all_with_outermost ps 0 kids (kids_of u)) notes) ≡ u) [
        | true ↦ λ k. refl
        | false ↦ λ k. let m = k refl in
            ap (λ w. branch x (all_with_outermost ps 0 kids (kids_of w)) notes) m.1
            ∙ ap (λ l. branch x l notes) (all_outermost-agree ps 0 kids m.0 m.2) ∙ sym m.1
      ] h

  all_outermost-agree : (ps : Ways) (i : ℕ) (ts us : Trees) → AllAgree ps i ts us → all_with_outermost ps i ts us ≡ us
  all_outermost-agree ps i none none h = refl
  all_outermost-agree ps i none (more u us) h = absurd h
  all_outermost-agree ps i (more t ts) none h = absurd h
  all_outermost-agree ps i (more t ts) (more u us) h =
      λ k. more (outermost-agrees (through i ps) t u h.0 k) (all_outermost-agree ps (suc i) ts us h.1 k)

pub outermost_are_enough : OutermostAreEnough
outermost_are_enough e t u h = outermost-agrees (paths e) t u (agrees e t u h)
