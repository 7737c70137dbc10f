-- Where scopes and cells that a strategy adds end.
use Rattle.std.proofs.Common.{◌≡◌, ◌<◌, ◌≤◌, ℕ, List, [], ◌∷◌, length, take, reverse, refl, sym, ap, ◌∙◌, subst, arith, Bor}
use Rattle.std.proofs.lemmas.List.{length-take, get_or-take, take-take}
use Rattle.term_paths.specs.Edits.{Edits}
use Rattle.term_changes.specs.Standing.{Standing, standing_tree}
use Rattle.strategy_syntax.specs.Resolved.{ResolvedStrategy}
use Rattle.strategy_meaning.specs.Scopes.{Scope}
use Rattle.strategy_meaning.specs.Answer.{Answer, done, failed, stopped, with_edits}
use Rattle.strategy_meaning.specs.Meaning.{World, run, form, cut}
use Rattle.strategy_machine.specs.Table.{nowhere, scope_at, Starts}
use Rattle.term_match.specs.CellContents.{CellContents}
use Rattle.term_match.specs.Marks.{mark_of, Before, Stays}
use Rattle.strategy_machine.specs.Frames.{Meets}
use Rattle.strategy_machine.specs.Turns.{State, HoldsIn}
use Rattle.strategy_machine.specs.inside.Taking.{FormIn}
use Rattle.strategy_machine.specs.inside.Endings.{LeavesScopes, LeavesCells, AnswersIn, with_those}
use Rattle.strategy_machine.specs.declared.frames.Frame.{Frame}
use Rattle.strategy_machine.specs.declared.frames.Frame.TheVariants.{Leave, Cut}
use Rattle.strategy_machine.specs.declared.stack.Slot.TheVariants as slots
use Rattle.strategy_machine.specs.inside.Slots.{EndsWith}
use Rattle.strategy_machine.proofs.SlotLemmas.{leave_is, cut_is, ends_reversed}
use Rattle.strategy_machine.specs.Hands.{Begin}
use Rattle.strategy_machine.proofs.TableArguments.{starts-length}
use Rattle.strategy_machine.proofs.OpenLemmas.{with_edits-cut, opens_along, opens_through, meets_kept}

-- ---- the innermost frame

pub leaves_leave : (gs : List Frame) (k : ℕ) → EndsWith (slots.Leave k) gs → LeavesScopes (reverse gs) k
leaves_leave gs k h = subst (λ (l : List Frame). LeavesScopes l k)
    (sym (ends_reversed gs (slots.Leave k) (Leave k) h (leave_is h.1 k h.3))) refl

pub leaves_cut : (gs : List Frame) (n k : ℕ) → EndsWith (slots.Cut n k) gs → LeavesScopes (reverse gs) k
leaves_cut gs n k h = subst (λ (l : List Frame). LeavesScopes l k)
    (sym (ends_reversed gs (slots.Cut n k) (Cut n k) h (cut_is h.1 n k h.3))) refl

pub leaves_cells : (gs : List Frame) (n k : ℕ) → EndsWith (slots.Cut n k) gs → LeavesCells (reverse gs) k
leaves_cells gs n k h = subst (λ (l : List Frame). LeavesCells l k)
    (sym (ends_reversed gs (slots.Cut n k) (Cut n k) h (cut_is h.1 n k h.3))) refl

-- ---- scopes

-- scopes after the first ones don't matter
fewer_same : (k m : ℕ) (xs mid ys : List Scope) → k ≤ length xs → k ≤ m → mid ≡ take m xs → Starts mid ys
    → take k ys ≡ take k xs
fewer_same k m xs mid ys lk le e st =
    let n : length mid ≡ length (take m xs) = ap (λ (l : List Scope). length l) e in
    let here : k ≤ length mid = omega (arith, n, length-take m xs, lk, le) in
    sym (take-take k (length mid) ys here) ∙ ap (take k) (st ∙ e) ∙ take-take k m xs le

fewer_length : (k m : ℕ) (xs mid ys : List Scope) → k ≤ length xs → k ≤ m → mid ≡ take m xs → Starts mid ys
    → k ≤ length ys
fewer_length k m xs mid ys lk le e st =
    let n : length mid ≡ length (take m xs) = ap (λ (l : List Scope). length l) e in
    omega (arith, n, length-take m xs, lk, le, starts-length mid ys st)

pub still_there : (n m : ℕ) (xs mid : List Scope) → n < length xs → n < m → mid ≡ take m xs → n < length mid
still_there n m xs mid l k e =
    let c : length mid ≡ length (take m xs) = ap (λ (l : List Scope). length l) e in
    omega (arith, c, length-take m xs, l, k)

pub still_same : (n m : ℕ) (xs mid : List Scope) → n < m → mid ≡ take m xs → scope_at mid n ≡ scope_at xs n
still_same n m xs mid k e = ap (λ l. scope_at l n) e ∙ get_or-take m xs n nowhere k

-- ---- answers

cut_twice : (n m : ℕ) (a : Answer) → n ≤ m → cut n (cut m a) ≡ cut n a
cut_twice n m (done t B b e) le = ap (λ l. done t l b e) (take-take n m B le)
cut_twice n m (failed b) le = refl
cut_twice n m (stopped w) le = refl

pub form_answers : (W : World) (sub : Standing) (whole : Answer) (S : State) (r : ResolvedStrategy) (n : ℕ)
    (p : Standing) → FormIn W sub whole S r n p
    → AnswersIn W sub whole S p
    (form W (run W) (scope_at S.scopes n) S.level r S.steps S.cells.bindings (standing_tree p))
form_answers W sub whole S r n p h = record { edits = h.edits; shows = h.shows; opens = h.opens }

pub begun : (W : World) (sub : Standing) (whole : Answer) (S : State) (s : Bor ResolvedStrategy) (n : ℕ) (p : Standing)
    → n < length S.scopes
    → AnswersIn W sub whole S p (run W (scope_at S.scopes n) S.level s.now S.steps S.cells.bindings (standing_tree p))
    → HoldsIn W sub whole S (Begin s n p)
begun W sub whole S s n p lt h =
    record { now = p; edits = h.edits; shows = h.shows; in_hand = (lt, refl); opens = h.opens }

pub along : (W : World) (sub : Standing) (whole : Answer) (S : State) (p : Standing) (a b : Answer)
    → a ≡ b → AnswersIn W sub whole S p a → AnswersIn W sub whole S p b
along W sub whole S p a b e h = record { edits = h.edits; shows = h.shows; opens = opens_along a b e h.opens }

-- ---- scopes that end

-- a new frame ends them
pub leave_pushed : (W : World) (sub : Standing) (whole : Answer) (S : State) (p : Standing) (a : Answer)
    (es : List Scope) → Starts S.scopes es
    → AnswersIn W sub whole S p a
    → AnswersIn W sub whole (with_those S S.cells es (Leave (length S.scopes) ∷ S.frames)) p a
leave_pushed W sub whole S p a es st h = record {
  edits = h.edits;
  shows = h.shows;
  opens = opens_through a a (λ start base e r. (
    starts-length S.scopes es st,
    subst
        (λ (y : List Scope). Meets W sub whole S.cells (mark_of S.cells) y S.level S.frames start base (with_edits e a))
        (sym st) r,
  )) h.opens;
}

-- the existing frame ends them
pub leave_kept : (W : World) (sub : Standing) (whole : Answer) (S : State) (p : Standing) (a : Answer) (k m : ℕ)
    (mid es : List Scope)
    → LeavesScopes S.frames k → k ≤ m → mid ≡ take m S.scopes → Starts mid es → AnswersIn W sub whole S p a
    → AnswersIn W sub whole (with_those S S.cells es S.frames) p a
leave_kept W sub whole S p a k m mid es f le e st h = record {
  edits = h.edits;
  shows = h.shows;
  opens = opens_through a a (λ start base x r. kept S.frames start base (with_edits x a) f r) h.opens;
}
  where
    kept : (fs : List Frame) (start : Standing) (base : Edits) (b : Answer) → LeavesScopes fs k
        → Meets W sub whole S.cells (mark_of S.cells) S.scopes S.level fs start base b
        → Meets W sub whole S.cells (mark_of S.cells) es S.level fs start base b
    kept [] start base b g r = absurd g
    kept (Leave n ∷ fs) start base b g r =
        let low : n ≤ m = omega (arith, g, le) in (
          fewer_length n m S.scopes mid es r.0 low e st,
          subst (λ (y : List Scope). Meets W sub whole S.cells (mark_of S.cells) y S.level fs start base b)
              (sym (fewer_same n m S.scopes mid es r.0 low e st)) r.1,
        )
    kept (Cut n j ∷ fs) start base b g r =
        let low : j ≤ m = omega (arith, g, le) in (
          fewer_length j m S.scopes mid es r.0 low e st,
          r.1,
          subst (λ (y : List Scope). Meets W sub whole S.cells (record { count = n; filled = (mark_of S.cells).filled })
              y S.level fs start base (cut n b)) (sym (fewer_same j m S.scopes mid es r.0 low e st)) r.2,
        )
    kept (f ∷ fs) start base b g r = absurd g

-- ---- cells that end

pub cut_pushed : (W : World) (sub : Standing) (whole : Answer) (S : State) (p : Standing) (a : Answer)
    (D : CellContents) (es : List Scope)
    → Starts S.scopes es → Before (mark_of S.cells) (mark_of D) → Stays (mark_of S.cells) S.cells D
    → AnswersIn W sub whole S p (cut (length S.cells.bindings) a)
    → AnswersIn W sub whole (with_those S D es (Cut (length S.cells.bindings) (length S.scopes) ∷ S.frames)) p a
cut_pushed W sub whole S p a D es st b sy h = record {
  edits = h.edits;
  shows = h.shows;
  opens = opens_through _ _ (λ start base e x. (
    starts-length S.scopes es st,
    b.0,
    meets_kept W sub whole S.cells D (mark_of S.cells)
        (record { count = length S.cells.bindings; filled = length D.filled }) (take (length S.scopes) es) S.level
        S.frames start base _ (omega arith, b.1) sy
        (subst (λ (y : List Scope). Meets W sub whole S.cells (mark_of S.cells) y S.level S.frames start base
        (cut (length S.cells.bindings) (with_edits e a))) (sym st)
        (subst (Meets W sub whole S.cells (mark_of S.cells) S.scopes S.level S.frames start base)
        (with_edits-cut e (length S.cells.bindings) a) x)),
  )) h.opens;
}

pub cut_kept : (W : World) (sub : Standing) (whole : Answer) (S : State) (p : Standing) (a : Answer) (k m : ℕ)
    (mid es : List Scope) (D : CellContents)
    → LeavesCells S.frames k → k ≤ m → mid ≡ take m S.scopes → Starts mid es → Before (mark_of S.cells) (mark_of D)
    → Stays (mark_of S.cells) S.cells D
    → AnswersIn W sub whole S p (cut (length S.cells.bindings) a)
    → AnswersIn W sub whole (with_those S D es S.frames) p a
cut_kept W sub whole S p a k m mid es D f le e st b sy h = record {
  edits = h.edits;
  shows = h.shows;
  opens = opens_through _ _ (λ start base x r. kept S.frames start base x f r) h.opens;
}
  where
    first : ℕ
    first = length S.cells.bindings

    kept : (fs : List Frame) (start : Standing) (base x : Edits) → LeavesCells fs k
        → Meets W sub whole S.cells (mark_of S.cells) S.scopes S.level fs start base (with_edits x (cut first a))
        → Meets W sub whole D (mark_of D) es S.level fs start base (with_edits x a)
    kept [] start base x g r = absurd g
    kept (Cut n j ∷ fs) start base x g r =
        let low : j ≤ m = omega (arith, g, le) in
        let once : cut n (with_edits x (cut first a)) ≡ cut n (with_edits x a) = ap (cut n) (with_edits-cut x first a)
        ∙ cut_twice n first (with_edits x a) r.1 in (
          fewer_length j m S.scopes mid es r.0 low e st,
          omega (arith, r.1, b.0),
          meets_kept W sub whole S.cells D (record { count = n; filled = (mark_of S.cells).filled })
              (record { count = n; filled = (mark_of D).filled }) (take j es) S.level fs start base
              (cut n (with_edits x a))
              (omega arith, b.1) (λ i lt. sy i (omega (arith, lt.0, r.1), lt.1))
              (subst
              (λ (y : List Scope). Meets W sub whole S.cells (record { count = n; filled = (mark_of S.cells).filled }) y
              S.level fs start base (cut n (with_edits x a))) (sym (fewer_same j m S.scopes mid es r.0 low e st))
              (subst (Meets W sub whole S.cells (record { count = n; filled = (mark_of S.cells).filled })
              (take j S.scopes) S.level fs start base) once r.2)),
        )
    kept (f ∷ fs) start base x g r = absurd g
