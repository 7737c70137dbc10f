-- Alternatives that are skipped.
use Rattle.std.proofs.Common.{◌≡◌, ◌≢◌, ◌⊎◌, inl, inr, ℕ, zero, suc, ◌+◌, ◌<◌, ◌||◌, Bool, true, false, not, cond, eqb, true≢false, List, [], ◌∷◌, length, replicate, get_or, slice_set, refl, sym, ap, subst, ◌∙◌, arith, Global}
use Rattle.std.specs.Prelude.{Box, Some, None, slice_get, option_and_then}
use Rattle.std.specs.declared.option.Option.{Option}
use Rattle.std.proofs.lemmas.Bool.Decides.{Decides-eqb}
use Rattle.std.proofs.lemmas.Option.{slice_get-get_or}
use Rattle.term_core.specs.Tree.{Head}
use Rattle.strategy_syntax.specs.Resolved.{ResolvedPattern, compound, resolved_patterns_of, ResolvedStrategy, matches, seq, guard, scope}
use Rattle.strategy_syntax.proofs.ResolvedPatternLemmas.{resolved_pattern_list-of}
use Rattle.strategy_syntax.specs.Renumbering.{renumbered}
use Rattle.strategy_syntax.specs.Apart.{AreApart, is_apart, is_other, pattern_class, child_class}
use Rattle.strategy_syntax.specs.inside.Skipping.{by_child, by_asking, count_of, Skipping, Kept}
use Rattle.strategy_syntax.specs.declared.skips.Skips.{Skips}

-- ---- other numbers of definitions

pub apart_renumbered : (ns : List ℕ) (n : ℕ) (s : ResolvedStrategy) (r : ℕ) (c : Option (ℕ × ℕ)) → AreApart n s r c
    → AreApart n (renumbered ns s) r c
apart_renumbered ns zero s r c h = tt
apart_renumbered ns (suc n) s r c (k, p, then, second, rest, is, apart, more) = (
  k,
  p,
  renumbered ns then,
  renumbered ns second,
  renumbered ns rest,
  ap (renumbered ns) is,
  apart,
  apart_renumbered ns n rest r c more,
)

pub kept_renumbered : (ns : List ℕ) (o : Option (Box Skips Global)) (s : ResolvedStrategy) → Kept o s
    → Kept o (renumbered ns s)
kept_renumbered ns None s h = tt
kept_renumbered ns (Some k) s h =
    record { apart = λ r c. apart_renumbered ns (count_of k.value r c) s r c (h.apart r c) }

-- ---- one more alternative

or_true : (a b : Bool) → a ≡ true → (a || b) ≡ true
or_true true b e = refl
or_true false b e = absurd (cc)

-- what a root shows, it shows whatever the child is
pub apart_by_root : (n : ℕ) (s : ResolvedStrategy) (r : ℕ) (c : Option (ℕ × ℕ)) → AreApart n s r None → AreApart n s r c
apart_by_root n s r None h = h
apart_by_root zero s r (Some (i, d)) h = tt
apart_by_root (suc n) s r (Some (i, d)) (k, p, then, second, rest, is, apart, more) = (
  k,
  p,
  then,
  second,
  rest,
  is,
  or_true (is_other (pattern_class p) r) (is_other (child_class p i) d) apart,
  apart_by_root n rest r (Some (i, d)) more,
)

plus_one : (n : ℕ) → n + 1 ≡ suc n
plus_one n = omega arith

pub apart_more : (p : ResolvedPattern) (o : ResolvedStrategy) (n m : ℕ) (r : ℕ) (c : Option (ℕ × ℕ)) → is_apart p r c
    ≡ true → AreApart n o r c
    → (m ≡ n + 1) ⊎ (m ≡ 1) → (k : ℕ) (then second : ResolvedStrategy)
    → AreApart m (guard (scope k (seq (matches p) then)) second o) r c
apart_more p o n m r c a h (inl e) k then second =
    subst (λ (x : ℕ). AreApart x (guard (scope k (seq (matches p) then)) second o) r c) (sym (e ∙ plus_one n))
    (k, p, then, second, o, refl, a, h)
apart_more p o n m r c a h (inr e) k then second =
    subst (λ (x : ℕ). AreApart x (guard (scope k (seq (matches p) then)) second o) r c) (sym e)
    (k, p, then, second, o, refl, a, tt)

-- ---- tables

-- an entry that is written, or one of those that were there
pub set_entry : (xs : List ℕ) (i v d : ℕ) (P : ℕ → ℕ → Type 0) → ((e : ℕ) → P e 0) → P i v
    → ((e : ℕ) → P e (get_or xs e 0)) → P d (get_or (slice_set xs i v) d 0)
set_entry [] i v d P z n h = z d
set_entry (x ∷ xs) zero v zero P z n h = n
set_entry (x ∷ xs) zero v (suc d) P z n h = h (suc d)
set_entry (x ∷ xs) (suc i) v zero P z n h = h zero
set_entry (x ∷ xs) (suc i) v (suc d) P z n h =
    set_entry xs i v d (λ e y. P (suc e) y) (λ e. z (suc e)) n (λ e. h (suc e))

pub none_yet : (n e : ℕ) → ◌≡◌ {A = ℕ} (get_or (replicate n 0) e 0) 0
none_yet zero e = refl
none_yet (suc n) zero = refl
none_yet (suc n) (suc e) = none_yet n e

-- a table of roots
pub skips_by_root : (k : Skips) (s : ResolvedStrategy)
    → k.child ≡ None → ((e : ℕ) → AreApart (get_or k.counts e 0) s e None) → Skipping k s
skips_by_root k s is h = record {
  apart = λ r c. subst (λ (o : Option ℕ). AreApart (by_asking k o r c) s r c) (sym is)
      (apart_by_root (get_or k.counts r 0) s r c (h r));
}

asked_child : (k : Skips) (a : ℕ) (s : ResolvedStrategy) (r : ℕ)
    → ((e : ℕ) → AreApart (get_or k.counts e 0) s r (Some (a, e)))
    → (c : Option (ℕ × ℕ)) → AreApart (by_child k a c) s r c
asked_child k a s r h None = tt
asked_child k a s r h (Some (i, e)) =
    elim (eqb i a) as (λ b. eqb i a ≡ b → AreApart (cond b (get_or k.counts e 0) 0) s r (Some (i, e))) [
      | true ↦ λ test.
          subst (λ (j : ℕ). AreApart (get_or k.counts e 0) s r (Some (j, e))) (sym ((Decides-eqb i a).0 test)) (h e)
      | false ↦ λ test. tt
    ] refl

-- a table of a child's roots, for terms whose root has one class
pub skips_by_child : (k : Skips) (a : ℕ) (s : ResolvedStrategy) → k.child ≡ Some a
    → ((e : ℕ) → AreApart (get_or k.counts e 0) s k.root (Some (a, e)))
    → ((r : ℕ) (c : Option (ℕ × ℕ)) → r ≢ k.root → AreApart k.others s r c) → Skipping k s
skips_by_child k a s is h g = record {
  apart = λ r c. subst (λ (o : Option ℕ). AreApart (by_asking k o r c) s r c) (sym is)
      (elim (eqb r k.root) as (λ b. eqb r k.root ≡ b → AreApart (cond b (by_child k a c) k.others) s r c) [
        | true ↦ λ test. let same : r ≡ k.root = (Decides-eqb r k.root).0 test in
            subst (λ (x : ℕ). AreApart (by_child k a c) s x c) (sym same) (asked_child k a s k.root h c)
        | false ↦ λ test. g r c (λ same. true≢false (sym ((Decides-eqb r k.root).1 same) ∙ test))
      ] refl);
}

differs : (root r : ℕ) → r ≢ root → not (eqb root r) ≡ true
differs root r other = elim (eqb root r) as (λ b. eqb root r ≡ b → not b ≡ true) [
  | true ↦ λ test. absurd (other (sym ((Decides-eqb root r).0 test)))
  | false ↦ λ test. refl
] refl

-- a rule for one root is for other other
pub other_root : (p : ResolvedPattern) (root r : ℕ) (c : Option (ℕ × ℕ)) → pattern_class p ≡ Some root
    → r ≢ root → is_apart p r c ≡ true
other_root p root r None is other = ap (λ (o : Option ℕ). is_other o r) is ∙ differs root r other
other_root p root r (Some (i, d)) is other = or_true (is_other (pattern_class p) r) (is_other (child_class p i) d)
    (ap (λ (o : Option ℕ). is_other o r) is ∙ differs root r other)

-- what is skipped where it is not known how many
pub at_most : (n m : ℕ) (s : ResolvedStrategy) (r : ℕ) (c : Option (ℕ × ℕ)) → AreApart m s r c
    → (n ≡ m) ⊎ (n ≡ 0) → AreApart n s r c
at_most n m s r c h (inl e) = subst (λ (k : ℕ). AreApart k s r c) (sym e) h
at_most n m s r c h (inr e) = subst (λ (k : ℕ). AreApart k s r c) (sym e) tt

pub kept_is : (o : Option (Box Skips Global)) (k : Box Skips Global) (s : ResolvedStrategy) → o ≡ Some k → Kept o s
    → Skipping k.value s
kept_is o k s e h = subst (λ (x : Option (Box Skips Global)). Kept x s) e h

-- ---- children of a pattern

pub there : (ps : List ResolvedPattern) (i : ℕ) (p : ResolvedPattern) → i < length ps → p ≡ get_or ps i p
    → slice_get ps i ≡ Some p
there ps i p lt e = slice_get-get_or ps i p lt ∙ ap Some (sym e)

pub child_is : (p : ResolvedPattern) (h : Head) (ps : List ResolvedPattern) (i : ℕ) (o : Option ResolvedPattern)
    → p ≡ compound h (resolved_patterns_of ps) → slice_get ps i ≡ o
    → child_class p i ≡ option_and_then pattern_class o
child_is p h ps i o is e =
    ap (λ (q : ResolvedPattern). child_class q i) is
    ∙ ap (λ (l : List ResolvedPattern). option_and_then pattern_class (slice_get l i)) (resolved_pattern_list-of ps)
    ∙ ap (option_and_then pattern_class) e
