-- Matching, form by form and child by child.
use Rattle.std.proofs.Common.{◌≡◌, ℕ, ◌+◌, ◌<◌, ◌≤◌, ◌↔◌, ◌≢◌, Bool, true, false, cond, IsTrue, List, [], ◌∷◌, length, take, drop, get_or, set, zero, suc, refl, sym, ap, ◌∙◌, arith, Some, None, option_and_then}
use Rattle.std.specs.Prelude.{slice_get}
use Rattle.std.specs.declared.option.Option.{Option}
use Rattle.std.proofs.lemmas.Option.{none-some, same_Some, slice_get_within, get_or_from_slice_get}
use Rattle.std.proofs.lemmas.List.{drop_more, drop_all, length-take}
use Rattle.term_core.specs.Tree.{Head, application, list, tuple, Tree, children, list_term}
use Rattle.term_core.specs.Kind.{made_of}
use Rattle.term_core.specs.declared.kind.Kind.{Kind}
use Rattle.term_core.specs.declared.kind.Kind.TheVariants.{Integer, Application as KindApplication, List as KindList, Tuple as KindTuple}
use Rattle.strategy_syntax.specs.Resolved.{ResolvedPattern, compound, with_tail, resolved_pattern_list, resolved_patterns_of}
use Rattle.strategy_syntax.specs.Heads.{head_at}
use Rattle.strategy_syntax.specs.inside.ResolvedPatternDepth.{resolved_pattern_depth, resolved_patterns_depth}
use Rattle.strategy_meaning.specs.Same.{same_head, same_tree}
use Rattle.strategy_meaning.proofs.SameLemmas.{head-eq, head-self, same_is_equal}
use Rattle.strategy_meaning.specs.Matching.{Bindings, put_or_same, bind, is_headed, elements, match_pattern, match_patterns}

-- ---- depths

pub depth_read : (ps : List ResolvedPattern) (i : ℕ) (p : ResolvedPattern) → i < length ps → p ≡ get_or ps i p
    → resolved_pattern_depth p ≤ resolved_patterns_depth (resolved_patterns_of ps)
depth_read [] i p h e = absurd (omega (arith, h))
depth_read (q ∷ ps) zero p h e = omega (arith, ap resolved_pattern_depth e)
depth_read (q ∷ ps) (suc i) p h e = omega (arith, depth_read ps i p (omega (arith, h)) e)

-- ---- tests

pub same_test : (r s : Bool) → (IsTrue r → IsTrue s) → (IsTrue s → IsTrue r) → r ≡ s
same_test true true f g = refl
same_test true false f g = sym (f refl)
same_test false true f g = g refl
same_test false false f g = refl

pub yes_then : (o : Option Bindings) (f : Bindings → Option Bindings) (B : Bindings) (found : Bool)
    → o ≡ cond found (Some B) None → found ≡ true → option_and_then f o ≡ f B
yes_then o f B found e h = ap (option_and_then f) (e ∙ ap (λ b. cond b (Some B) None) h)

pub no_then : (o : Option Bindings) (f : Bindings → Option Bindings) (B : Bindings) (found : Bool)
    → o ≡ cond found (Some B) None → found ≡ false → option_and_then f o ≡ None
no_then o f B found e h = ap (option_and_then f) (e ∙ ap (λ b. cond b (Some B) None) h)

-- ---- variables

unpacked : (o : Option (Option Tree)) (u : Tree) → option_and_then (λ p. p) o ≡ Some u → o ≡ Some (Some u)
unpacked None u e = absurd (none-some u e)
unpacked (Some None) u e = absurd (none-some u e)
unpacked (Some (Some v)) u e = ap Some e

pub empty_there : (B : Bindings) (i : ℕ) → i < length B → option_and_then (λ p. p) (slice_get B i) ≡ None
    → slice_get B i ≡ Some None
empty_there [] i h e = absurd (omega (arith, h))
empty_there (None ∷ B) zero h e = refl
empty_there (Some u ∷ B) zero h e = absurd (none-some u (sym e))
empty_there (x ∷ B) (suc i) h e = empty_there B i (omega (arith, h)) e

pub bind_bound : (E : List ℕ) (x : ℕ) (t : Tree) (B : Bindings) (i : ℕ) (u : Tree) (r : Bool)
    → slice_get E x ≡ Some i → option_and_then (λ o. o) (slice_get B i) ≡ Some u → IsTrue r ↔ (u ≡ t)
    → bind E x t B ≡ cond r (Some B) None
bind_bound E x t B i u r e f h =
    ap (option_and_then (λ j. put_or_same B j t (slice_get B j))) e
    ∙ ap (put_or_same B i t) (unpacked (slice_get B i) u f)
    ∙ ap (λ b. cond b (Some B) None)
    (same_test (same_tree u t) r (λ k. h.1 ((same_is_equal u t).0 k)) (λ k. (same_is_equal u t).1 (h.0 k)))

pub bind_empty : (E : List ℕ) (x : ℕ) (t : Tree) (B : Bindings) (i : ℕ) → slice_get E x ≡ Some i
    → slice_get B i ≡ Some None → bind E x t B ≡ Some (set B i (Some t))
bind_empty E x t B i e f =
    ap (option_and_then (λ j. put_or_same B j t (slice_get B j))) e ∙ ap (put_or_same B i t) f

-- ---- heads

head_same : (h k : Head) → Some k ≡ Some h → same_head h k ≡ true
head_same h k e = ap (λ x. same_head x k) (sym (same_Some k h e)) ∙ head-self k

pub headed : (k : Kind) (h : Head) (us ns : List Tree) (r : Bool) → IsTrue r ↔ (head_at k ≡ Some h)
    → is_headed h (made_of k us ns) ≡ r
headed (Integer z) h us ns r e =
    same_test false r (λ k. absurd (cc)) (λ k. absurd (none-some h (e.0 k)))
headed (KindApplication f) h us ns r e =
    same_test (same_head h (application f.now)) r (λ k. e.1 (ap Some (sym (head-eq h (application f.now) k))))
    (λ k. head_same h (application f.now) (e.0 k))
headed KindList h us ns r e =
    same_test (same_head h list) r (λ k. e.1 (ap Some (sym (head-eq h list k)))) (λ k. head_same h list (e.0 k))
headed KindTuple h us ns r e =
    same_test (same_head h tuple) r (λ k. e.1 (ap Some (sym (head-eq h tuple k)))) (λ k. head_same h tuple (e.0 k))

pub is_of_head : (k : Kind) (h : Head) (t : Tree) (us ns : List Tree) (r : Bool) → t ≡ made_of k us ns
    → IsTrue r ↔ (head_at k ≡ Some h) → is_headed h t ≡ r
is_of_head k h t us ns r e f = ap (is_headed h) e ∙ headed k h us ns r f

-- ---- one pattern with each term

pub resolved_pattern_list-of : (ps : List ResolvedPattern) → resolved_pattern_list (resolved_patterns_of ps) ≡ ps
resolved_pattern_list-of [] = refl
resolved_pattern_list-of (p ∷ ps) = ap (λ l. p ∷ l) (resolved_pattern_list-of ps)

pub counts_differ : (ps : List ResolvedPattern) (ts : List Tree) (E : List ℕ) (B : Bindings) → length ts ≢ length ps
    → match_patterns (resolved_patterns_of ps) ts E B ≡ None
counts_differ [] [] E B h = absurd (h refl)
counts_differ [] (t ∷ ts) E B h = refl
counts_differ (p ∷ ps) [] E B h = refl
counts_differ (p ∷ ps) (t ∷ ts) E B h =
    elim (match_pattern p t E B) as (λ o.
    option_and_then (λ B1. match_patterns (resolved_patterns_of ps) ts E B1) o ≡ None) [
      | None ↦ refl
      | Some B1 ↦ counts_differ ps ts E B1 (λ e. h (ap suc e))
    ]

-- the patterns from i on, with the terms from i on
abbrev pub matched_from : List ResolvedPattern → List Tree → List ℕ → ℕ → Bindings → Option Bindings
matched_from ps ts E i B = match_patterns (resolved_patterns_of (drop i ps)) (drop i ts) E B

matched_more : (ps : List ResolvedPattern) (ts : List Tree) (E : List ℕ) (i : ℕ) (B : Bindings) (p : ResolvedPattern)
    (t : Tree)
    → i < length ps → p ≡ get_or ps i p → slice_get ts i ≡ Some t
    → matched_from ps ts E i B ≡ option_and_then (λ B1. matched_from ps ts E (i + 1) B1) (match_pattern p t E B)
matched_more ps ts E i B p t h e f =
    (λ k.
    match_patterns (resolved_patterns_of (drop_more ps i p h k)) (drop_more ts i t (slice_get_within ts i t f) k) E B)
    ∙ (λ k. option_and_then (λ B1. matched_from ps ts E (i + 1) B1)
    (match_pattern (sym e k) (get_or_from_slice_get ts i t t f k) E B))

pub matched_next : (ps : List ResolvedPattern) (ts : List Tree) (E : List ℕ) (whole : Option Bindings) (i : ℕ)
    (B C : Bindings)
    (p : ResolvedPattern) (t : Tree) (found : Bool) → i < length ps → p ≡ get_or ps i p → slice_get ts i ≡ Some t
    → matched_from ps ts E i B ≡ whole → match_pattern p t E B ≡ cond found (Some C) None → found ≡ true
    → matched_from ps ts E (i + 1) C ≡ whole
matched_next ps ts E whole i B C p t found h e f w m y =
    sym (yes_then (match_pattern p t E B) (λ B1. matched_from ps ts E (i + 1) B1) C found m y)
    ∙ sym (matched_more ps ts E i B p t h e f) ∙ w

pub matched_no : (ps : List ResolvedPattern) (ts : List Tree) (E : List ℕ) (whole : Option Bindings) (i : ℕ)
    (B C : Bindings)
    (p : ResolvedPattern) (t : Tree) (found : Bool) → i < length ps → p ≡ get_or ps i p → slice_get ts i ≡ Some t
    → matched_from ps ts E i B ≡ whole → match_pattern p t E B ≡ cond found (Some C) None → found ≡ false → whole ≡ None
matched_no ps ts E whole i B C p t found h e f w m y =
    sym w ∙ matched_more ps ts E i B p t h e f
    ∙ no_then (match_pattern p t E B) (λ B1. matched_from ps ts E (i + 1) B1) C found m y

slice_get_none : (ts : List Tree) (i : ℕ) → slice_get ts i ≡ None → length ts ≤ i
slice_get_none [] i e = omega arith
slice_get_none (t ∷ ts) zero e = absurd (none-some t (sym e))
slice_get_none (t ∷ ts) (suc i) e = omega (arith, slice_get_none ts i e)

pub matched_missing : (ps : List ResolvedPattern) (ts : List Tree) (E : List ℕ) (whole : Option Bindings) (i : ℕ)
    (B : Bindings)
    (p : ResolvedPattern) → i < length ps → slice_get ts i ≡ None → matched_from ps ts E i B ≡ whole → whole ≡ None
matched_missing ps ts E whole i B p h f w =
    sym w
    ∙ (λ k. match_patterns (resolved_patterns_of (drop_more ps i p h k)) (drop_all i ts (slice_get_none ts i f) k) E B)

pub matched_all : (ps : List ResolvedPattern) (ts : List Tree) (E : List ℕ) (whole : Option Bindings) (i : ℕ)
    (B : Bindings)
    → length ps ≤ i → length ts ≤ i → matched_from ps ts E i B ≡ whole → whole ≡ Some B
matched_all ps ts E whole i B h k w =
    sym w ∙ (λ j. match_patterns (resolved_patterns_of (drop_all i ps h j)) (drop_all i ts k j) E B)

-- for the first terms only
pub slice_get_front : (ts : List Tree) (n i : ℕ) → i < n → slice_get (take n ts) i ≡ slice_get ts i
slice_get_front ts zero i h = absurd (omega (arith, h))
slice_get_front [] (suc n) i h = refl
slice_get_front (t ∷ ts) (suc n) zero h = refl
slice_get_front (t ∷ ts) (suc n) (suc i) h = slice_get_front ts n i (omega (arith, h))

-- ---- forms

pub compound_headless : (h : Head) (ps : List ResolvedPattern) (t : Tree) (E : List ℕ) (B : Bindings)
    → is_headed h t ≡ false
    → match_pattern (compound h (resolved_patterns_of ps)) t E B ≡ None
compound_headless h ps t E B e =
    ap (λ b. cond b (match_patterns (resolved_patterns_of ps) (children t) E B) None) e

pub compound_matched : (h : Head) (ps : List ResolvedPattern) (t : Tree) (E : List ℕ) (B : Bindings)
    → is_headed h t ≡ true
    → match_pattern (compound h (resolved_patterns_of ps)) t E B
    ≡ match_patterns (resolved_patterns_of ps) (children t) E B
compound_matched h ps t E B e =
    ap (λ b. cond b (match_patterns (resolved_patterns_of ps) (children t) E B) None) e

-- the rest of the test, once there are elements
abbrev pub tail_matched : List ResolvedPattern → ResolvedPattern → List Tree → List ℕ → Bindings → Option Bindings
tail_matched ps p us E B =
    option_and_then (λ B1. match_pattern p (list_term (drop (length ps) us)) E B1)
    (match_patterns (resolved_patterns_of ps) (take (length ps) us) E B)

pub tail_listless : (ps : List ResolvedPattern) (p : ResolvedPattern) (t : Tree) (E : List ℕ) (B : Bindings) (r : Bool)
    → elements t ≡ cond r (Some (children t)) None → r ≡ false
    → match_pattern (with_tail (resolved_patterns_of ps) p) t E B ≡ None
tail_listless ps p t E B r e f =
    ap (option_and_then (λ us. option_and_then
    (λ B1. match_pattern p (list_term (drop (length (resolved_pattern_list (resolved_patterns_of ps))) us)) E B1)
    (match_patterns (resolved_patterns_of ps)
    (take (length (resolved_pattern_list (resolved_patterns_of ps))) us) E B)))
    (e ∙ ap (λ b. cond b (Some (children t)) None) f)

pub tail_listed : (ps : List ResolvedPattern) (p : ResolvedPattern) (t : Tree) (E : List ℕ) (B : Bindings) (r : Bool)
    → elements t ≡ cond r (Some (children t)) None → r ≡ true
    → match_pattern (with_tail (resolved_patterns_of ps) p) t E B ≡ tail_matched ps p (children t) E B
tail_listed ps p t E B r e f =
    ap (option_and_then (λ us. option_and_then
    (λ B1. match_pattern p (list_term (drop (length (resolved_pattern_list (resolved_patterns_of ps))) us)) E B1)
    (match_patterns (resolved_patterns_of ps)
    (take (length (resolved_pattern_list (resolved_patterns_of ps))) us) E B)))
    (e ∙ ap (λ b. cond b (Some (children t)) None) f)
    ∙ ap (λ (l : List ResolvedPattern). option_and_then
    (λ B1. match_pattern p (list_term (drop (length l) (children t))) E B1)
    (match_patterns (resolved_patterns_of ps) (take (length l) (children t)) E B)) (resolved_pattern_list-of ps)

pub tail_short : (ps : List ResolvedPattern) (p : ResolvedPattern) (us : List Tree) (E : List ℕ) (B : Bindings)
    → length us < length ps → tail_matched ps p us E B ≡ None
tail_short ps p us E B h =
    ap (option_and_then (λ B1. match_pattern p (list_term (drop (length ps) us)) E B1))
    (counts_differ ps (take (length ps) us) E B (λ e. omega (arith, h, e, length-take (length ps) us)))
