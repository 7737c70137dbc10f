-- Patterns that are built in order, and the cells opened for them.
use Rattle.std.proofs.Common.{◌≡◌, ◌<◌, ◌≤◌, ℕ, ◌+◌, List, [], ◌∷◌, ◌++◌, length, take, drop, map, refl, sym, ap, ◌∙◌, arith, Some, None, get_or, suc, true, false}
use Rattle.std.proofs.lemmas.List.{append-nil, append_assoc, map-append, take_all}
use Rattle.std.proofs.Math.Seq.{drop-cons, take-suc}
use Rattle.std.proofs.Math.ListN.{drop_of_length-le}
use Rattle.term_core.specs.Tree.{Tree}
use Rattle.term_core.specs.Size.{fits}
use Rattle.strategy_syntax.specs.Resolved.{ResolvedPattern, resolved_patterns_of}
use Rattle.strategy_meaning.specs.Matching.{build_pattern}
use Rattle.strategy_meaning.specs.Answer.{Answer, failed, stopped, big}
use Rattle.strategy_meaning.specs.Meaning.{built, built_all}
use Rattle.term_match.specs.CellContents.{CellContents}
use Rattle.term_match.specs.Marks.{mark_of, Before, Stays}
use Rattle.strategy_machine.proofs.TakeLemmas.{built_is, big_is, unbuilt_is}
use Rattle.strategy_machine.proofs.OpenLemmas.{before_self, before_on, stays_self}

-- ---- opened

pub record Opened (old new : CellContents) (us : List Tree) : Type 0 where
  pub cells : new.bindings ≡ old.bindings ++ map Some us
  pub later : Before (mark_of old) (mark_of new)
  pub stays : Stays (mark_of old) old new

pub opened_none : (C : CellContents) → Opened C C []
opened_none C =
    record { cells = sym (append-nil C.bindings); later = before_self (mark_of C); stays = stays_self (mark_of C) C }

pub later_on : (old mid new : CellContents) → Before (mark_of old) (mark_of mid) → Before (mark_of mid) (mark_of new)
    → Before (mark_of old) (mark_of new)
later_on old mid new a b = before_on (mark_of old) (mark_of mid) (mark_of new) a b

pub stays_on : (old mid new : CellContents) → Before (mark_of old) (mark_of mid) → Stays (mark_of old) old mid
    → Stays (mark_of mid) mid new → Stays (mark_of old) old new
stays_on old mid new a s t m b = t m (before_on m (mark_of old) (mark_of mid) b a) ∙ s m b

next : (i : ℕ) → i + 1 ≡ suc i
next i = omega arith

taken : {A : Type 0} (us : List A) (i : ℕ) (u : A) → i < length us → u ≡ get_or us i u
    → take (i + 1) us ≡ take i us ++ u ∷ []
taken us i u lt e = ap (λ k. take k us) (next i) ∙ take-suc us i u lt ∙ ap (λ x. take i us ++ x ∷ []) (sym e)

pub opened_more : (old mid new : CellContents) (us : List Tree) (i : ℕ) (u : Tree) → i < length us → u ≡ get_or us i u
    → new.bindings ≡ mid.bindings ++ Some u ∷ [] → Before (mark_of mid) (mark_of new) → Stays (mark_of mid) mid new
    → Opened old mid (take i us) → Opened old new (take (i + 1) us)
opened_more old mid new us i u lt e c b s h = record {
  cells = c ∙ ap (λ x. x ++ Some u ∷ []) h.cells ∙ append_assoc old.bindings (map Some (take i us)) (Some u ∷ [])
      ∙ ap (λ x. old.bindings ++ x)
      (sym (map-append Some (take i us) (u ∷ [])) ∙ ap (map Some) (sym (taken us i u lt e)));
  later = later_on old mid new h.later b;
  stays = stays_on old mid new h.later h.stays s;
}

pub opened_all : (old new : CellContents) (us : List Tree) (i : ℕ) → length us ≤ i → Opened old new (take i us)
    → new.bindings ≡ old.bindings ++ map Some us
opened_all old new us i le h = h.cells ∙ ap (λ x. old.bindings ++ map Some x) (take_all i us le)

-- ---- built

pub record BuiltSoFar (room : ℕ) (old new : CellContents) (ps : List ResolvedPattern) (E : List ℕ) (l i : ℕ)
    (us : List Tree) : Type 0 where
  pub cells : new ≡ old
  pub built : (c : ℕ) (go : List Tree → Answer) → built_all room (resolved_patterns_of ps) E old.bindings l c go
      ≡ built_all room (resolved_patterns_of (drop i ps)) E old.bindings l c (λ vs. go (us ++ vs))

pub built_none : (room : ℕ) (C : CellContents) (ps : List ResolvedPattern) (E : List ℕ) (l : ℕ) (us : List Tree)
    → us ≡ [] → BuiltSoFar room C C ps E l 0 us
built_none room C ps E l us e = rw e record { cells = refl; built = λ c go. refl }

dropped : (ps : List ResolvedPattern) (i : ℕ) (p : ResolvedPattern) → i < length ps → p ≡ get_or ps i p
    → drop i ps ≡ p ∷ drop (i + 1) ps
dropped ps i p lt e = drop-cons ps i p lt ∙ ap (λ x. x ∷ drop (suc i) ps) (sym e)
    ∙ ap (λ k. p ∷ drop k ps) (sym (next i))

-- the next one
here : (room : ℕ) (old new : CellContents) (ps : List ResolvedPattern) (E : List ℕ) (l i : ℕ) (us : List Tree)
    (p : ResolvedPattern) → i < length ps → p ≡ get_or ps i p → BuiltSoFar room old new ps E l i us
    → (c : ℕ) (go : List Tree → Answer) → built_all room (resolved_patterns_of ps) E old.bindings l c go
    ≡ built room (build_pattern p E old.bindings) l c
    (λ u. built_all room (resolved_patterns_of (drop (i + 1) ps)) E old.bindings l c (λ vs. go (us ++ u ∷ vs)))
here room old new ps E l i us p lt e h c go =
    h.built c go ∙ ap (λ (qs : List ResolvedPattern).
    built_all room (resolved_patterns_of qs) E old.bindings l c (λ vs. go (us ++ vs))) (dropped ps i p lt e)

pub built_more : (room : ℕ) (old new : CellContents) (ps : List ResolvedPattern) (E : List ℕ) (l i : ℕ)
    (us vs : List Tree) (p : ResolvedPattern) (u : Tree) → i < length ps → p ≡ get_or ps i p
    → build_pattern p E new.bindings ≡ Some u → fits room l u ≡ true → vs ≡ us ++ u ∷ []
    → BuiltSoFar room old new ps E l i us → BuiltSoFar room old new ps E l (i + 1) vs
built_more room old new ps E l i us vs p u lt e b f is h = record {
  cells = h.cells;
  built = λ c go. here room old new ps E l i us p lt e h c go
      ∙ built_is room l c u (build_pattern p E old.bindings) _
      (ap (λ (C : CellContents). build_pattern p E C.bindings) (sym h.cells) ∙ b) f
      ∙ ap (λ (f : List Tree → List Tree).
      built_all room (resolved_patterns_of (drop (i + 1) ps)) E old.bindings l c (λ ws. go (f ws)))
      ((λ j ws. sym (append_assoc us (u ∷ []) ws) j) ∙ (λ j ws. sym is j ++ ws));
}

pub built_nothing : (room : ℕ) (old new : CellContents) (ps : List ResolvedPattern) (E : List ℕ) (l i : ℕ)
    (us : List Tree) (p : ResolvedPattern) → i < length ps → p ≡ get_or ps i p
    → build_pattern p E new.bindings ≡ None → BuiltSoFar room old new ps E l i us
    → (c : ℕ) (go : List Tree → Answer) → built_all room (resolved_patterns_of ps) E old.bindings l c go ≡ failed c
built_nothing room old new ps E l i us p lt e b h c go =
    here room old new ps E l i us p lt e h c go
    ∙ unbuilt_is room l c (build_pattern p E old.bindings) _
    (ap (λ (C : CellContents). build_pattern p E C.bindings) (sym h.cells) ∙ b)

pub built_big : (room : ℕ) (old new : CellContents) (ps : List ResolvedPattern) (E : List ℕ) (l i : ℕ) (us : List Tree)
    (p : ResolvedPattern) (u : Tree) → i < length ps → p ≡ get_or ps i p
    → build_pattern p E new.bindings ≡ Some u → fits room l u ≡ false → BuiltSoFar room old new ps E l i us
    → (c : ℕ) (go : List Tree → Answer) → built_all room (resolved_patterns_of ps) E old.bindings l c go ≡ stopped big
built_big room old new ps E l i us p u lt e b f h c go =
    here room old new ps E l i us p lt e h c go
    ∙ big_is room l c u (build_pattern p E old.bindings) _
    (ap (λ (C : CellContents). build_pattern p E C.bindings) (sym h.cells) ∙ b) f

pub built_over : (room : ℕ) (old new : CellContents) (ps : List ResolvedPattern) (E : List ℕ) (l i : ℕ) (us : List Tree)
    → length ps ≤ i → BuiltSoFar room old new ps E l i us
    → (c : ℕ) (go : List Tree → Answer) → built_all room (resolved_patterns_of ps) E old.bindings l c go ≡ go us
built_over room old new ps E l i us le h c go =
    h.built c go ∙ ap (λ (qs : List ResolvedPattern).
    built_all room (resolved_patterns_of qs) E old.bindings l c (λ vs. go (us ++ vs))) (drop_of_length-le ps le)
    ∙ ap go (append-nil us)
