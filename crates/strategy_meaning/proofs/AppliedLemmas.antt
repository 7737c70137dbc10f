-- Applying strategies to a subterm.
use Rattle.std.proofs.Common.{◌≡◌, ◌≢◌, ℕ, ◌+◌, ◌≤◌, List, [], ◌∷◌, length, refl, sym, ap, ◌∙◌, subst, slice_get, Some, None, arith}
use Rattle.std.specs.Option.{option_map_or}
use Rattle.term_core.specs.Tree.{Tree, children}
use Rattle.term_core.specs.Size.{height}
use Rattle.term_core.specs.declared.TheConstants.{MAX_HEIGHT}
use Rattle.term_paths.specs.Paths.{at, set_at}
use Rattle.term_paths.specs.Edits.{Edits, Replaces, prefixed}
use Rattle.term_paths.proofs.PathLemmas.{at-child, at-no_child, set_at-child}
use Rattle.term_paths.proofs.EditLemmas.{edits_of_a_subterm}
use Rattle.strategy_syntax.specs.declared.resolved.Resolved.{Resolved}
use Rattle.strategy_meaning.specs.Matching.{Bindings}
use Rattle.strategy_meaning.specs.Answer.{Answer, done, failed, stopped, spent, big, IfDone}
use Rattle.strategy_meaning.specs.Meaning.{World, run_whole}
use Rattle.strategy_meaning.specs.Applied.{Outcome, gives, fails, stops, IfGiven, placed, applied}
use Rattle.strategy_meaning.specs.Laws.{later, in_room, MoreStepsApplyTheSame, MoreRoomAppliesTheSame, AppliedKeepsHeights, AppliedEditsReplace, NoEditsNoChange}
use Rattle.strategy_meaning.proofs.StepLemmas.{more_steps_give_the_same, more_room_gives_the_same}
use Rattle.strategy_meaning.proofs.HeightLemmas.{heights_are_kept, below-kept}
use Rattle.strategy_meaning.proofs.EditLemmas.{edits_replace}

-- ---- steps

placed-later : (t : Tree) (p : List ℕ) (a : Answer) (k : ℕ) → placed t p (later k a) ≡ placed t p a
placed-later t p (done u B b e) k = refl
placed-later t p (failed b) k = refl
placed-later t p (stopped why) k = refl

pub more_steps_apply_the_same : MoreStepsApplyTheSame
more_steps_apply_the_same W p r b t k =
    elim (at t p) as (λ o. option_map_or (λ u. placed t p (run_whole W (length p) r b u)) o fails ≢ stops spent
    → option_map_or (λ u. placed t p (run_whole W (length p) r (b + k) u)) o fails
    ≡ option_map_or (λ u. placed t p (run_whole W (length p) r b u)) o fails) [
      | None ↦ λ n. refl
      | Some u ↦ λ n.
          ap (placed t p) (more_steps_give_the_same W _ (length p) r.strategy b _ u k (λ is. n (ap (placed t p) is)))
          ∙ placed-later t p (run_whole W (length p) r b u) k
    ]

-- ---- room

pub more_room_applies_the_same : MoreRoomAppliesTheSame
more_room_applies_the_same W p r b t k =
    elim (at t p) as (λ o. option_map_or (λ u. placed t p (run_whole W (length p) r b u)) o fails ≢ stops big
    → option_map_or (λ u. placed t p (run_whole (in_room (W.room + k) W) (length p) r b u)) o fails
    ≡ option_map_or (λ u. placed t p (run_whole W (length p) r b u)) o fails) [
      | None ↦ λ n. refl
      | Some u ↦ λ n.
          ap (placed t p) (more_room_gives_the_same W _ (length p) r.strategy b _ u k (λ is. n (ap (placed t p) is)))
    ]

-- ---- heights

height-set : (p : List ℕ) (l : ℕ) (whole t u : Tree) → at whole p ≡ Some t
    → (l + length p + height t ≤ MAX_HEIGHT → l + length p + height u ≤ MAX_HEIGHT)
    → l + height whole ≤ MAX_HEIGHT → l + height (set_at whole p u) ≤ MAX_HEIGHT
height-set [] l whole t u is h low =
    let same : whole ≡ t = cc in
    let before : l + 0 + height t ≤ MAX_HEIGHT = omega (arith, low, ap height same) in
    omega (arith, h before)
height-set (i ∷ p) l whole t u is h low =
    elim (slice_get (children whole) i) as (λ o.
    slice_get (children whole) i ≡ o → l + height (set_at whole (i ∷ p) u) ≤ MAX_HEIGHT) [
      | None ↦ λ no. absurd (let none = sym (at-no_child whole i p no) ∙ is in cc)
      | Some kid ↦ λ some.
          subst (λ x. l + height x ≤ MAX_HEIGHT) (sym (set_at-child whole kid u i p some))
          (below-kept l whole kid (set_at kid p u) i some
          (height-set p (l + 1) kid t u (sym (at-child whole kid i p some) ∙ is)
          (λ before.
          let known : l + length (i ∷ p) + height t ≤ MAX_HEIGHT = omega (arith, before) in
          omega (arith, h known)))
          low)
    ] refl

-- ---- what holds of the whole tree, from what holds of the subterm

given : (P : Tree → Edits → Type 0) (Q : Tree → Bindings → ℕ → Edits → Type 0) (t : Tree) (p : List ℕ) (a : Answer)
    → IfDone a Q → ((u : Tree) (B : Bindings) (b : ℕ) (e : Edits) → Q u B b e → P (set_at t p u) (prefixed p e))
    → IfGiven (placed t p a) P
given P Q t p (done u B b e) h g = g u B b e h
given P Q t p (failed b) h g = tt
given P Q t p (stopped why) h g = tt

-- if there is a subterm, and a run on it
applied-given : (P : Tree → Edits → Type 0) (W : World) (p : List ℕ) (r : Resolved) (b : ℕ) (t : Tree)
    → ((u : Tree) → at t p ≡ Some u → IfGiven (placed t p (run_whole W (length p) r b u)) P)
    → IfGiven (applied W p r b t) P
applied-given P W p r b t h =
    elim (at t p) as (λ o.
    at t p ≡ o → IfGiven (option_map_or (λ u. placed t p (run_whole W (length p) r b u)) o fails) P) [
      | None ↦ λ is. tt
      | Some u ↦ λ is. h u is
    ] refl

pub applied_keeps_heights : AppliedKeepsHeights
applied_keeps_heights W p r b t low =
    applied-given _ W p r b t
    (λ u is. kept u is (run_whole W (length p) r b u) (λ l. heights_are_kept W _ (length p) r.strategy b _ u l)) where
      kept : (u : Tree) → at t p ≡ Some u → (a : Answer)
          → (length p + height u ≤ MAX_HEIGHT → IfDone a (λ v B c e. length p + height v ≤ MAX_HEIGHT))
          → IfGiven (placed t p a) (λ v e. height v ≤ MAX_HEIGHT)
      kept u is (done v B c e) h =
          let low0 : 0 + height t ≤ MAX_HEIGHT = omega (arith, low) in
          let result : 0 + height (set_at t p v) ≤ MAX_HEIGHT = height-set p 0 t u v is (λ k.
          let k0 : length p + height u ≤ MAX_HEIGHT = omega (arith, k) in omega (arith, h k0)) low0 in
          omega (arith, result)
      kept u is (failed c) h = tt
      kept u is (stopped why) h = tt

pub applied_edits_replace : AppliedEditsReplace
applied_edits_replace W p r b t =
    applied-given _ W p r b t (λ u is. given _ _ t p _ (edits_replace W _ (length p) r.strategy b _ u)
    (λ v B c e h. edits_of_a_subterm e t u v p is h))

no_edits : (o : Outcome) (t : Tree) → IfGiven o (λ u e. Replaces e t u) → IfGiven o (λ u e. e ≡ [] → u ≡ t)
no_edits (gives u e) t h = λ is. sym (subst (λ x. Replaces x t u) is h)
no_edits fails t h = tt
no_edits (stops why) t h = tt

pub no_edits_no_change : NoEditsNoChange
no_edits_no_change W p r b t = no_edits (applied W p r b t) t (applied_edits_replace W p r b t)
