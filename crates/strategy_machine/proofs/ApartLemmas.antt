-- Alternatives that are skipped, since the classes of roots show that they can't match.
use Rattle.std.proofs.Common.{◌≡◌, ◌⊎◌, inl, inr, ℕ, zero, suc, ◌+◌, ◌%◌, Bor, ◌||◌, Bool, true, false, not, cond, List, [], ◌∷◌, slice_get, refl, sym, ap, subst, ◌∙◌, arith, Some, None, option_and_then, unsigned_abs}
use Rattle.std.specs.Ordering.{int_eq}
use Rattle.std.specs.declared.option.Option.{Option}
use Rattle.std.proofs.lemmas.Bool.Decides.{Decides-eqb, Decides-int_eq}
use Rattle.term_core.specs.Tree.{application, list, tuple, Tree, integer, branch, children, annotations, bare}
use Rattle.term_changes.specs.Standing.{Standing, standing_tree}
use Rattle.strategy_syntax.specs.Resolved.{ResolvedPattern, wildcard, variable, at, number, compound, with_tail, annotated, ResolvedPatterns, no_resolved_patterns, and_resolved_pattern, resolved_pattern_list, ResolvedStrategy, matches, seq, guard, scope}
use Rattle.strategy_syntax.specs.Apart.{head_class, tree_class, pattern_class, child_class, is_other, is_apart, AreApart}
use Rattle.strategy_meaning.specs.Same.{same_head}
use Rattle.strategy_meaning.proofs.SameLemmas.{head-eq}
use Rattle.strategy_meaning.specs.Matching.{Bindings, bind, match_pattern, match_patterns, is_headed}
use Rattle.strategy_meaning.specs.Answer.{Answer}
use Rattle.strategy_meaning.specs.Meaning.{World}
use Rattle.strategy_machine.specs.Table.{scope_at}
use Rattle.strategy_machine.specs.Turns.{State, HoldsIn}
use Rattle.strategy_machine.specs.Hands.{Begin}
use Rattle.strategy_machine.specs.inside.Missing.{Misses, Passes, Suits, SkipsOver}
use Rattle.strategy_machine.specs.inside.Taking.{FormIn}
use Rattle.strategy_machine.proofs.OpenLemmas.{opens_along}
use Rattle.strategy_machine.proofs.TakeLemmas.{run_step, paid}
use Rattle.strategy_machine.proofs.HeadLemmas.{passes_as, passes_more, passes_rule}

-- ---- a pattern with a root of another class

-- no class is another one than itself
not_other : (k c : ℕ) → k ≡ c → is_other (Some k) c ≡ true → false ≡ true
not_other k c e o = ap not (sym ((Decides-eqb k c).1 e)) ∙ o

none_after : (o : Option Bindings) (f : Bindings → Option Bindings)
    → ((B : Bindings) → f B ≡ None) → option_and_then f o ≡ None
none_after None f h = refl
none_after (Some B) f h = h B

pub class_missing : (p : ResolvedPattern) (t : Tree) (E : List ℕ) (B : Bindings)
    → is_other (pattern_class p) (tree_class t) ≡ true → match_pattern p t E B ≡ None
class_missing wildcard t E B e = absurd (cc)
class_missing (variable x) t E B e = absurd (cc)
class_missing (at x p) t E B e =
    none_after (bind E x t B) (λ B1. match_pattern p t E B1) (λ B1. class_missing p t E B1 e)
class_missing (number z) (integer y notes) E B e =
    elim (int_eq z y) as (λ b. int_eq z y ≡ b → cond b (Some B) None ≡ None) [
      | true ↦ λ test. let never = not_other
          (unsigned_abs z % 64) (unsigned_abs y % 64) (ap (λ x. unsigned_abs x % 64) ((Decides-int_eq z y).0 test)) e in
          absurd (cc)
      | false ↦ λ test. refl
    ] refl
class_missing (number z) (branch k us notes) E B e = refl
class_missing (compound h ps) (integer y notes) E B e = refl
class_missing (compound h ps) (branch k us notes) E B e =
    elim (same_head h k) as (λ b.
    same_head h k ≡ b → cond b (match_patterns ps (children (branch k us notes)) E B) None ≡ None) [
      | true ↦ λ test. let never = not_other (head_class h) (head_class k) (ap head_class (head-eq h k test)) e in
          absurd (cc)
      | false ↦ λ test. refl
    ] refl
class_missing (with_tail ps p) (integer y notes) E B e = refl
class_missing (with_tail ps p) (branch (application f) us notes) E B e = refl
class_missing (with_tail ps p) (branch list us notes) E B e = absurd (cc)
class_missing (with_tail ps p) (branch tuple us notes) E B e = refl
class_missing (annotated p ps) (integer y notes) E B e =
    ap (λ (o : Option Bindings). option_and_then (λ B1. match_patterns ps (annotations (integer y notes)) E B1) o)
    (class_missing p (bare (integer y notes)) E B e)
class_missing (annotated p ps) (branch k us notes) E B e =
    ap (λ (o : Option Bindings). option_and_then (λ B1. match_patterns ps (annotations (branch k us notes)) E B1) o)
    (class_missing p (bare (branch k us notes)) E B e)

-- ---- a pattern over a child of another class

children_missing : (ps : ResolvedPatterns) (ts : List Tree) (i : ℕ) (u : Tree) (E : List ℕ) (B : Bindings)
    → slice_get ts i ≡ Some u
    → is_other (option_and_then pattern_class (slice_get (resolved_pattern_list ps) i)) (tree_class u)
    ≡ true → match_patterns ps ts E B ≡ None
children_missing no_resolved_patterns ts zero u E B g e = absurd (cc)
children_missing no_resolved_patterns ts (suc i) u E B g e = absurd (cc)
children_missing (and_resolved_pattern p ps) [] i u E B g e = refl
children_missing (and_resolved_pattern p ps) (t ∷ ts) zero u E B g e =
    let same : t ≡ u = cc in
    ap (λ (o : Option Bindings). option_and_then (λ B1. match_patterns ps ts E B1) o)
    (class_missing p t E B (ap (λ (x : Tree). is_other (pattern_class p) (tree_class x)) same ∙ e))
children_missing (and_resolved_pattern p ps) (t ∷ ts) (suc i) u E B g e =
    none_after (match_pattern p t E B) (λ B1. match_patterns ps ts E B1) (λ B1. children_missing ps ts i u E B1 g e)

cond_none : (b : Bool) (o : Option Bindings) → o ≡ None → cond b o None ≡ None
cond_none true o e = e
cond_none false o e = refl

child_missing : (p : ResolvedPattern) (t : Tree) (i : ℕ) (u : Tree) (E : List ℕ) (B : Bindings)
    → slice_get (children t) i ≡ Some u
    → is_other (child_class p i) (tree_class u) ≡ true → match_pattern p t E B ≡ None
child_missing wildcard t i u E B g e = absurd (cc)
child_missing (variable x) t i u E B g e = absurd (cc)
child_missing (at x p) t i u E B g e = absurd (cc)
child_missing (number z) t i u E B g e = absurd (cc)
child_missing (compound h ps) t i u E B g e =
    cond_none (is_headed h t) (match_patterns ps (children t) E B) (children_missing ps (children t) i u E B g e)
child_missing (with_tail ps p) t i u E B g e = absurd (cc)
child_missing (annotated p ps) t i u E B g e = absurd (cc)

-- ---- alternatives

either_is : (a b : Bool) → (a || b) ≡ true → (a ≡ true) ⊎ (b ≡ true)
either_is true b e = inl refl
either_is false b e = inr e

by_either : (p : ResolvedPattern) (t : Tree) (r i d : ℕ) (u : Tree)
    → tree_class t ≡ r → slice_get (children t) i ≡ Some u → tree_class u ≡ d
    → (is_other (pattern_class p) r ≡ true) ⊎ (is_other (child_class p i) d ≡ true) → Misses p t
by_either p t r i d u s g k (inl e) =
    record { never = λ E B. class_missing p t E B (ap (is_other (pattern_class p)) s ∙ e) }
by_either p t r i d u s g k (inr e) =
    record { never = λ E B. child_missing p t i u E B g (ap (is_other (child_class p i)) k ∙ e) }

apart_misses : (p : ResolvedPattern) (t : Tree) (r : ℕ) (c : Option (ℕ × ℕ)) → Suits t r c
    → is_apart p r c ≡ true → Misses p t
apart_misses p t r None s e = record { never = λ E B. class_missing p t E B (ap (is_other (pattern_class p)) s ∙ e) }
apart_misses p t r (Some (i, d)) (s, u, g, k) e =
    by_either p t r i d u s g k (either_is (is_other (pattern_class p) r) (is_other (child_class p i) d) e)

-- the first of these alternatives is passed over, and the others are still to be
one_passed : (s s1 s2 s3 : ResolvedStrategy) (n b c : ℕ) (t : Tree) (r : ℕ) (x : Option (ℕ × ℕ)) → s ≡ guard s1 s2 s3
    → b ≡ c + 4 → Suits t r x → AreApart (suc n) s r x
    → Passes s b t s3 c × AreApart n s3 r x
one_passed s s1 s2 s3 n b c t r x is e suits (k, p, then, second, rest, other, apart, more) =
    let same : guard s1 s2 s3 ≡ guard (scope k (seq (matches p) then)) second rest = sym is ∙ other in
    let first : s1 ≡ scope k (seq (matches p) then) = cc in
    let last : rest ≡ s3 = cc in (
      passes_as s (guard s1 s2 s3) s3 s3 b c t is refl
          (passes_rule s1 s2 s3 then k p b c t first e (apart_misses p t r x suits apart)),
      subst (λ (q : ResolvedStrategy). AreApart n q r x) last more,
    )

pub passes_first : (s s1 s2 s3 : ResolvedStrategy) (n m b c : ℕ) (t : Tree) → s ≡ guard s1 s2 s3
    → m ≡ n + 1 → b ≡ c + 4 → SkipsOver m s t → Passes s b t s3 c × SkipsOver n s3 t
passes_first s s1 s2 s3 n m b c t is e f h =
    let more : m ≡ suc n = omega (arith, e) in
    let both = one_passed s s1 s2 s3 n b c t h.root h.child is f h.suits
    (subst (λ (k : ℕ). AreApart k s h.root h.child) more h.apart) in
    (both.0, record { root = h.root; child = h.child; suits = h.suits; apart = both.1 })

pub and_then_first : (s0 s v o r : ResolvedStrategy) (b0 b c d n : ℕ) (t : Tree) → v ≡ o → Passes s0 b0 t s b
    → Passes s b t v c → SkipsOver n v t
    → ((u : Tree) → SkipsOver n o u → Passes o c u r d) → Passes s0 b0 t r d
and_then_first s0 s v o r b0 b c d n t e h g k f =
    passes_more s0 s r b0 b d t h (passes_more s v r b c d t g
    (passes_as v o r r c d t e refl (f t (subst (λ (x : ResolvedStrategy). SkipsOver n x t) e k))))

-- no alternative is easily passed over
pub skips_none : (s : ResolvedStrategy) (t : Tree) → SkipsOver 0 s t
skips_none s t = record { root = tree_class t; child = None; suits = refl; apart = tt }

pub skips_no_more : (n : ℕ) (s : ResolvedStrategy) (t : Tree) → n ≡ 0 → SkipsOver n s t
skips_no_more n s t e = subst (λ (k : ℕ). SkipsOver k s t) (sym e) (skips_none s t)

-- ---- in a run

-- what remains after alternatives of a choice whose step is paid
pub take_remaining : (W : World) (sub : Standing) (whole : Answer) (S : State) (s : ResolvedStrategy)
    (r : Bor ResolvedStrategy) (n : ℕ) (p : Standing) (d : ℕ)
    → Passes s (S.steps + 1) (standing_tree p) r.now d → FormIn W sub whole S s n p
    → HoldsIn W sub whole (paid S d) (Begin r n p)
take_remaining W sub whole S s r n p d h g = record {
  now = p;
  edits = g.edits;
  shows = g.shows;
  in_hand = (g.there, refl);
  opens = opens_along _ _
      (sym (run_step W (scope_at S.scopes n) S.level s (S.steps + 1) S.steps S.cells.bindings (standing_tree p) refl)
      ∙ h.same W (scope_at S.scopes n) S.level S.cells.bindings) g.opens;
}
