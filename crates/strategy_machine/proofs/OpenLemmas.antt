-- Opened parts, and answers after edits.
use Rattle.std.proofs.Common.{◌≡◌, ℕ, ◌+◌, List, [], ◌∷◌, ◌++◌, take, reverse, true, refl, sym, ap, ◌∙◌, subst, arith}
use Rattle.std.proofs.lemmas.List.{append-nil, append_assoc, map-append, reverse-append}
use Rattle.term_core.specs.Tree.{Tree}
use Rattle.term_paths.specs.Edits.{Edit, Edits, prefixed}
use Rattle.term_changes.specs.Standing.{Standing, standing_tree}
use Rattle.strategy_meaning.specs.Scopes.{Scope}
use Rattle.strategy_meaning.specs.Matching.{Bindings}
use Rattle.strategy_meaning.specs.Answer.{Stop, Answer, done, failed, stopped, Act, either, with_edits, and_then}
use Rattle.strategy_meaning.specs.Meaning.{World, run, leftmost, those_done, cut}
use Rattle.strategy_machine.specs.Table.{scope_at}
use Rattle.term_match.specs.CellContents.{CellContents}
use Rattle.term_match.specs.Marks.{Before, Stays}
use Rattle.term_match.specs.declared.cells.Mark.{Mark}
use Rattle.strategy_machine.specs.Leading.{Leads, Has}
use Rattle.strategy_machine.specs.Frames.{Becomes, Opens, Meets, put_back, walked, left_behind}
use Rattle.strategy_machine.specs.declared.frames.Frame.{Frame}
use Rattle.strategy_machine.specs.declared.frames.Frame.TheVariants.{Then, Choose, Restore, Each, Leftmost, Those, Tail, Rest, Head, After, Leave, Cut}
use Rattle.strategy_machine.proofs.LeadLemmas.{leads_nothing, leads_on}

-- ---- answers

pub with_edits-none : (x : Answer) → with_edits [] x ≡ x
with_edits-none (done t B b e) = refl
with_edits-none (failed b) = refl
with_edits-none (stopped w) = refl

pub with_edits-append : (e f : Edits) (x : Answer) → with_edits e (with_edits f x) ≡ with_edits (e ++ f) x
with_edits-append e f (done t B b d) = ap (done t B b) (sym (append_assoc e f d))
with_edits-append e f (failed b) = refl
with_edits-append e f (stopped w) = refl

pub with_edits-and_then : (e : Edits) (x : Answer) (act : Act)
    → with_edits e (and_then x act) ≡ and_then (with_edits e x) act
with_edits-and_then e (done t B b d) act = with_edits-append e d (act b B t)
with_edits-and_then e (failed b) act = refl
with_edits-and_then e (stopped w) act = refl

pub with_edits-cut : (e : Edits) (n : ℕ) (x : Answer) → with_edits e (cut n x) ≡ cut n (with_edits e x)
with_edits-cut e n (done t B b d) = refl
with_edits-cut e n (failed b) = refl
with_edits-cut e n (stopped w) = refl

pub with_edits-done : (e : Edits) (t : Tree) (B : Bindings) (b : ℕ) → with_edits e (done t B b []) ≡ done t B b e
with_edits-done e t B b = ap (done t B b) (append-nil e)

pub and_then-done : (x : Answer) → and_then x (λ b B t. done t B b []) ≡ x
and_then-done (done t B b e) = ap (done t B b) (append-nil e)
and_then-done (failed b) = refl
and_then-done (stopped w) = refl

pub prefixed-prefixed : (p q : List ℕ) (e : Edits) → prefixed p (prefixed q e) ≡ prefixed (p ++ q) e
prefixed-prefixed p q [] = refl
prefixed-prefixed p q (x ∷ e) =
    (λ i. record { path = sym (append_assoc p q x.path) i; new = x.new } ∷ prefixed-prefixed p q e i)

pub prefixed-nothing : (e : Edits) → prefixed [] e ≡ e
prefixed-nothing [] = refl
prefixed-nothing (x ∷ e) = ap (λ (f : Edits). x ∷ f) (prefixed-nothing e)

pub pushed : {A : Type 0} (xs ys : List A) (x : A) → ys ≡ xs ++ x ∷ [] → reverse ys ≡ x ∷ reverse xs
pushed xs ys x e = ap reverse e ∙ reverse-append xs (x ∷ [])

-- ---- parts

pub opens_along : {R : Becomes} {path : List ℕ} {p : Standing} {T : Edits} (a b : Answer) → a ≡ b → Opens R path p T a
    → Opens R path p T b
opens_along {R = R} a b e h = record {
  start = h.start;
  base = h.base;
  before = h.before;
  leads = h.leads;
  trail = h.trail;
  is = subst (λ (x : Answer). R h.start h.base (with_edits h.before x)) e h.is;
}

pub opens_map : {R S : Becomes} {path : List ℕ} {p : Standing} {T : Edits} {a : Answer}
    → ((start : Standing) (base : Edits) (x : Answer) → R start base x → S start base x) → Opens R path p T a
    → Opens S path p T a
opens_map f h = record {
  start = h.start;
  base = h.base;
  before = h.before;
  leads = h.leads;
  trail = h.trail;
  is = f h.start h.base _ h.is;
}

-- the whole answer from the part's answer after some edits
pub opens_through : {R S : Becomes} {path : List ℕ} {p : Standing} {T : Edits} (a b : Answer)
    → ((start : Standing) (base e : Edits) → R start base (with_edits e a) → S start base (with_edits e b))
    → Opens R path p T a → Opens S path p T b
opens_through a b f h = record {
  start = h.start;
  base = h.base;
  before = h.before;
  leads = h.leads;
  trail = h.trail;
  is = f h.start h.base h.before h.is;
}

-- the part continues after some more edits
pub opens_on : {R : Becomes} (path : List ℕ) (p q : Standing) (T U d : Edits) (a : Answer)
    → Leads p d q → U ≡ T ++ prefixed path d → Opens R path p T (with_edits d a) → Opens R path q U a
opens_on {R = R} path p q T U d a l e h = record {
  start = h.start;
  base = h.base;
  before = h.before ++ d;
  leads = leads_on h.start p q h.before d h.leads l;
  trail = e ∙ ap (λ (x : Edits). x ++ prefixed path d) h.trail
      ∙ append_assoc h.base (prefixed path h.before) (prefixed path d)
      ∙ ap (λ (x : Edits). h.base ++ x)
      (sym (map-append (λ (x : Edit). record { path = path ++ x.path; new = x.new }) h.before d));
  is = subst (R h.start h.base) (with_edits-append h.before d a) h.is;
}

-- another part is opened here
pub opens_new : {R : Becomes} (path : List ℕ) (p : Standing) (T : Edits) (a : Answer) → Has p → R p T a
    → Opens R path p T a
opens_new {R = R} path p T a h r = record {
  start = p;
  base = T;
  before = [];
  leads = leads_nothing p h;
  trail = sym (append-nil T);
  is = subst (R p T) (sym (with_edits-none a)) r;
}

-- ---- marks

pub before_self : (m : Mark) → Before m m
before_self m = (omega arith, omega arith)

pub before_on : (a b c : Mark) → Before a b → Before b c → Before a c
before_on a b c h k = (omega (arith, h.0, k.0), omega (arith, h.1, k.1))

pub stays_self : (m : Mark) (C : CellContents) → Stays m C C
stays_self m C k b = refl

-- The frames look at no more than what the cells hold for the marks that may be asked for.
pub meets_kept : (W : World) (sub : Standing) (whole : Answer) (C D : CellContents) (top up : Mark) (es : List Scope)
    (l : ℕ) (fs : List Frame) (start : Standing) (base : Edits) (a : Answer)
    → Before top up → Stays top C D → Meets W sub whole C top es l fs start base a
    → Meets W sub whole D up es l fs start base a
meets_kept W sub whole C D top up es l [] start base a b st h = h
meets_kept W sub whole C D top up es l (Then s n ∷ fs) start base a b st h =
    (h.0, meets_kept W sub whole C D top up es l fs start base _ b st h.1)
meets_kept W sub whole C D top up es l (Choose s2 s3 n saved k m ∷ fs) start base a b st h = (
  h.0,
  h.1,
  h.2,
  before_on m top up h.3 b,
  opens_map (λ s e x g.
      meets_kept W sub whole C D m m es l fs s e x (before_self m) (λ j lt. st j (before_on j m top lt h.3)) g)
      (opens_along _ _ (ap (λ (K : Bindings). either a (λ t B c e. with_edits e (run W (scope_at es n) l s2.now c B t))
      (λ c. run W (scope_at es n) l s3.now c K (standing_tree saved))) (sym (st m h.3))) h.4),
)
meets_kept W sub whole C D top up es l (Restore saved k ∷ fs) start base a b st h =
    (h.0, h.1, opens_map (λ s e x g. meets_kept W sub whole C D top up es l fs s e x b st g) h.2)
meets_kept W sub whole C D top up es l (Each acts n w ∷ fs) start base a b st h =
    (h.0, h.1, opens_map (λ s e x g. meets_kept W sub whole C D top up es w.level fs s e x b st g) h.2)
meets_kept W sub whole C D top up es l (Leftmost s n w m ∷ fs) start base a b st h = (
  h.0,
  h.1,
  before_on m top up h.2 b,
  h.3,
  opens_map (λ s e x g.
      meets_kept W sub whole C D m m es w.level fs s e x (before_self m) (λ j lt. st j (before_on j m top lt h.2)) g)
      (opens_along _ _ (ap (λ (K : Bindings). either (put_back w.index (standing_tree (walked w)) a) done
      (λ c. leftmost (run W (scope_at es n) (w.level + 1) s.now) (left_behind w) (w.index + 1) c K
      (standing_tree (walked w)))) (sym (st m h.2))) h.4),
)
meets_kept W sub whole C D top up es l (Those s n w m any ∷ fs) start base a b st h = (
  h.0,
  h.1,
  before_on m top up h.2 b,
  opens_map (λ s e x g.
      meets_kept W sub whole C D m m es w.level fs s e x (before_self m) (λ j lt. st j (before_on j m top lt h.2)) g)
      (opens_along _ _ (ap (λ (K : Bindings). either (put_back w.index (standing_tree (walked w)) a)
      (λ t B c e.
      with_edits e (those_done (run W (scope_at es n) (w.level + 1) s.now) (left_behind w) true (w.index + 1) c B t))
      (λ c. those_done (run W (scope_at es n) (w.level + 1) s.now) (left_behind w) any (w.index + 1) c K
      (standing_tree (walked w)))) (sym (st m h.2))) h.3),
)
meets_kept W sub whole C D top up es l (Tail s n k ∷ fs) start base a b st h =
    (h.0, meets_kept W sub whole C D top up es l fs start base _ b st h.1)
meets_kept W sub whole C D top up es l (Rest node ps n k ∷ fs) start base a b st h =
    (h.0, h.1, h.2, opens_map (λ s e x g. meets_kept W sub whole C D top up es l fs s e x b st g) h.3)
meets_kept W sub whole C D top up es l (Head s n w ∷ fs) start base a b st h =
    (h.0, h.1, h.2, opens_map (λ s e x g. meets_kept W sub whole C D top up es w.level fs s e x b st g) h.3)
meets_kept W sub whole C D top up es l (After node first k ∷ fs) start base a b st h =
    (h.0, h.1, h.2, h.3, opens_map (λ s e x g. meets_kept W sub whole C D top up es l fs s e x b st g) h.4)
meets_kept W sub whole C D top up es l (Leave n ∷ fs) start base a b st h =
    (h.0, meets_kept W sub whole C D top up (take n es) l fs start base a b st h.1)
meets_kept W sub whole C D top up es l (Cut n k ∷ fs) start base a b st h = (
  h.0,
  omega (arith, h.1, b.0),
  meets_kept W sub whole C D (record { count = n; filled = top.filled }) (record { count = n; filled = up.filled })
      (take k es) l fs start base (cut n a)
      (omega arith, b.1) (λ j lt. st j (omega (arith, lt.0, h.1), lt.1)) h.2,
)

pub opens_kept : (W : World) (sub : Standing) (whole : Answer) (C D : CellContents) (top up : Mark) (es : List Scope)
    (l : ℕ) (fs : List Frame) (path : List ℕ) (p : Standing) (T : Edits) (a : Answer)
    → Before top up → Stays top C D → Opens (Meets W sub whole C top es l fs) path p T a
    → Opens (Meets W sub whole D up es l fs) path p T a
opens_kept W sub whole C D top up es l fs path p T a b st h =
    opens_map (λ s e x g. meets_kept W sub whole C D top up es l fs s e x b st g) h

-- ---- a part that stops makes the whole stop

pub meets_stopped : (W : World) (sub : Standing) (whole : Answer) (C : CellContents) (top : Mark) (es : List Scope)
    (l : ℕ) (fs : List Frame) (start : Standing) (base : Edits) (w : Stop)
    → Meets W sub whole C top es l fs start base (stopped w) → whole ≡ stopped w
meets_stopped W sub whole C top es l [] start base w h = sym h.2
meets_stopped W sub whole C top es l (Then s n ∷ fs) start base w h =
    meets_stopped W sub whole C top es l fs start base w h.1
meets_stopped W sub whole C top es l (Choose s2 s3 n saved k m ∷ fs) start base w h =
    meets_stopped W sub whole C m es l fs h.4.start h.4.base w h.4.is
meets_stopped W sub whole C top es l (Restore saved k ∷ fs) start base w h =
    meets_stopped W sub whole C top es l fs h.2.start h.2.base w h.2.is
meets_stopped W sub whole C top es l (Each acts n v ∷ fs) start base w h =
    meets_stopped W sub whole C top es v.level fs h.2.start h.2.base w h.2.is
meets_stopped W sub whole C top es l (Leftmost s n v m ∷ fs) start base w h =
    meets_stopped W sub whole C m es v.level fs h.4.start h.4.base w h.4.is
meets_stopped W sub whole C top es l (Those s n v m any ∷ fs) start base w h =
    meets_stopped W sub whole C m es v.level fs h.3.start h.3.base w h.3.is
meets_stopped W sub whole C top es l (Tail s n k ∷ fs) start base w h =
    meets_stopped W sub whole C top es l fs start base w h.1
meets_stopped W sub whole C top es l (Rest node ps n k ∷ fs) start base w h =
    meets_stopped W sub whole C top es l fs h.3.start h.3.base w h.3.is
meets_stopped W sub whole C top es l (Head s n v ∷ fs) start base w h =
    meets_stopped W sub whole C top es v.level fs h.3.start h.3.base w h.3.is
meets_stopped W sub whole C top es l (After node first k ∷ fs) start base w h =
    meets_stopped W sub whole C top es l fs h.4.start h.4.base w h.4.is
meets_stopped W sub whole C top es l (Leave n ∷ fs) start base w h =
    meets_stopped W sub whole C top (take n es) l fs start base w h.1
meets_stopped W sub whole C top es l (Cut n k ∷ fs) start base w h =
    meets_stopped W sub whole C (record { count = n; filled = top.filled }) (take k es) l fs start base w h.2
