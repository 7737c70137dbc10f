-- One step back and one step forward are inverse, and so are any number of them.
use Rattle.std.proofs.Common.{◌≡◌, ◌<◌, ℕ, zero, suc, [], ◌∷◌, length, arith, true, cond, is_none, Some, None, Ok, Err, Option, option_and_then, ok_or, refl, sym, ap, subst, ◌∙◌}
use Rattle.std.specs.Option.{option_map_or}
use Rattle.term_changes.specs.Contents.{Contents}
use Rattle.session_modules.specs.Modules.{Checks}
use Rattle.session_history.specs.History.{HistoryGroup, History, stepped, step_back, step_forward, moved, undone, redone}
use Rattle.session_history.specs.Acts.{ActResult, Passing, Holding, Given, Leaves, ComesTo, committed, undo, redo}
use Rattle.session_history.specs.Laws.{ChangeIsUndone, GroupIsUndone, RedoTakesUndoBack, UndoTakesRedoBack}
use Rattle.session_modules.specs.declared.refusal.Refusal.{Refusal}
use Rattle.session_modules.specs.declared.refusal.Refusal.TheVariants.{NoUndo, NoRedo, Group, NoGroup}
use Rattle.session_history.proofs.StepLemmas.{same_Ok, passing_Ok, holding_Ok, given_Ok, passed, stopped, held, ok_or-Ok, none_of}

-- ---- one step

pub same_Some : (g h : History) → Some g ≡ Some h → g ≡ h
same_Some g h e = cc

step_back-step_forward : (h g : History) → step_forward h ≡ Some g → step_back g ≡ Some h
step_back-step_forward h g e = grind arith

step_forward-step_back : (h g : History) → step_back h ≡ Some g → step_forward g ≡ Some h
step_forward-step_back h g e = grind arith

-- ---- several steps

and_then-Some : (o : Option History) → option_and_then (λ g. Some g) o ≡ o
and_then-Some o = grind arith

module _ (move : History → Option History) where
  -- the last move made first
  moved_last : (k : ℕ) (h : History) → moved move (suc k) h ≡ option_and_then move (moved move k h)
  moved_last zero h = and_then-Some (move h)
  moved_last (suc k) h =
      elim (move h) as (λ o.
      option_and_then (λ g. moved move (suc k) g) o ≡ option_and_then move (option_and_then (λ g. moved move k g) o)) [
        | None ↦ refl
        | Some g ↦ moved_last k g
      ]

  -- what each move keeps, all of them keep
  pub moved_keeps : (P : History → Type 0) → ((h m : History) → P h → move h ≡ Some m → P m) → (k : ℕ) (h g : History)
      → P h → moved move k h ≡ Some g → P g
  moved_keeps P keeps zero h g p e = subst P (same_Some _ _ e) p
  moved_keeps P keeps (suc k) h g p e = by (move h) refl (λ m. moved_keeps P keeps k m g) e
    where
      by : (o : Option History) → move h ≡ o → ((m : History) → P m → moved move k m ≡ Some g → P g)
          → option_and_then (λ m. moved move k m) o ≡ Some g → P g
      by None is rest q = absurd (cc)
      by (Some m) is rest q = rest m (keeps h m p is) q

-- moves and the moves that take them back
module _ (move back : History → Option History) (taken : (h m : History) → move h ≡ Some m → back m ≡ Some h) where
  moved_back : (k : ℕ) (h g : History) → moved move k h ≡ Some g → moved back k g ≡ Some h
  moved_back zero h g e = sym e
  moved_back (suc k) h g e = by (move h) refl (λ m. moved_back k m g) e
    where
      by : (o : Option History) → move h ≡ o → ((m : History) → moved move k m ≡ Some g → moved back k g ≡ Some m)
          → option_and_then (λ m. moved move k m) o ≡ Some g → moved back (suc k) g ≡ Some h
      by None p rest q = absurd (cc)
      by (Some m) p rest q = moved_last back k g ∙ ap (option_and_then back) (rest m q) ∙ taken h m p

-- fewer steps than asked for
pub undone_past : (k : ℕ) (h : History) → length h.past < k → undone k h ≡ None
undone_past zero h l = absurd (omega (arith, l))
undone_past (suc k) h l = grind (arith, undone_past k)

pub redone_past : (k : ℕ) (h : History) → length h.later < k → redone k h ≡ None
redone_past zero h l = absurd (omega (arith, l))
redone_past (suc k) h l = grind (arith, redone_past k)

-- ---- going back and forward leaves the group

stays_back : (h m : History) → h.group ≡ None → step_back h ≡ Some m → m.group ≡ None
stays_back h m was e = grind arith

stays_forward : (h m : History) → h.group ≡ None → step_forward h ≡ Some m → m.group ≡ None
stays_forward h m was e = grind arith

-- ---- the laws

-- going this many steps, which exist, outside a group
module _ (h g : History) (o : Option History) (refusal : Refusal) where
  abbrev Goes : ActResult → Type 0
  Goes = Holding (is_none h.group) Group (Passing (ok_or o refusal) Leaves)

  pub goes : h.group ≡ None → o ≡ Some g → Goes (Ok g)
  goes outside there =
      held (is_none h.group) Group (Passing (ok_or o refusal) Leaves) (Ok g) (ap is_none outside)
      (passed (ok_or o refusal) Leaves g (Ok g) (ap (λ (o : Option History). ok_or o refusal) there) refl)

  pub goes_nowhere : h.group ≡ None → o ≡ None → Goes (Err refusal)
  goes_nowhere outside none =
      held (is_none h.group) Group (Passing (ok_or o refusal) Leaves) (Err refusal) (ap is_none outside)
      (stopped (ok_or o refusal) Leaves refusal (ap (λ (o : Option History). ok_or o refusal) none))

  pub went : Goes (Ok g) → (h.group ≡ None) × (o ≡ Some g)
  went done =
      let outside = holding_Ok (is_none h.group) Group (Passing (ok_or o refusal) Leaves) g done in
      let there = passing_Ok (ok_or o refusal) Leaves g outside.1 in (
        none_of h.group outside.0,
        ok_or-Ok o refusal there.0 there.1 ∙ ap (λ (x : History). Some x) (sym (same_Ok there.0 g there.2)),
      )

pub redo_takes_undo_back : RedoTakesUndoBack
redo_takes_undo_back k h g done =
    let back = went h g (undone k h) NoUndo done in
    goes g h (redone k g) NoRedo (moved_keeps step_back (λ g. g.group ≡ None) stays_back k h g back.0 back.1)
    (moved_back step_back step_forward step_forward-step_back k h g back.1)

pub undo_takes_redo_back : UndoTakesRedoBack
undo_takes_redo_back k h g done =
    let forth = went h g (redone k h) NoRedo done in
    goes g h (undone k g) NoUndo (moved_keeps step_forward (λ g. g.group ≡ None) stays_forward k h g forth.0 forth.1)
    (moved_back step_forward step_back step_back-step_forward k h g forth.1)

-- a step from these contents to the current ones is undone and redone
step_is_undone : (from c : Contents) (h : History) → h.group ≡ None → (g : History)
    → record (stepped from h) { now = c } ≡ g
    → ComesTo (undo 1) g (Ok (record h { now = from; later = g.now ∷ [] }))
    × ComesTo (redo 1) (record h { now = from; later = g.now ∷ [] }) (Ok g)
step_is_undone from c h none g e =
    let Back : History → Type 0 = λ g. ComesTo (undo 1) g (Ok (record h { now = from; later = g.now ∷ [] }))
    × ComesTo (redo 1) (record h { now = from; later = g.now ∷ [] }) (Ok g) in
    let then : History = record (stepped from h) { now = c } in
    let back : History = record h { now = from; later = c ∷ [] } in
    subst Back e (
      goes then back (undone 1 then) NoUndo none refl,
      goes back then (redone 1 back) NoRedo none refl,
    )

pub change_is_undone : ChangeIsUndone
change_is_undone c h g e none =
    step_is_undone h.now c h none g
    (sym (e ∙ ap (λ o. option_map_or (λ g. record h { now = c; group = Some (record g { changed = true }) }) o
    (record (stepped h.now h) { now = c })) none))

pub group_is_undone : GroupIsUndone
group_is_undone group h g is was done =
    let there = passing_Ok (ok_or h.group NoGroup)
    (λ group. Given (Checks h.primitives h.now.modules) (λ p. Leaves (committed group h))) g done in
    let checked = given_Ok (Checks h.primitives h.now.modules) (λ p. Leaves (committed there.0 h)) g there.2 in
    let same : there.0 ≡ group = cc (ok_or-Ok h.group NoGroup there.0 there.1) in
    let left : committed group h ≡ g = ap (λ (x : HistoryGroup). committed x h) (sym same)
    ∙ sym (same_Ok (committed there.0 h) g checked.2) in
    let stepped_from : record (stepped group.begun (record h { group = None })) { now = h.now } ≡ g =
    ap (λ b. cond b (record (stepped group.begun h) { group = None }) (record h { group = None })) (sym was) ∙ left in
    let undone = step_is_undone group.begun h.now (record h { group = None }) refl g stepped_from in
    let now : g.now ≡ h.now = ap (λ g. g.now) (sym stepped_from) in (
      subst (λ (x : Contents). ComesTo (undo 1) g (Ok (record h { now = group.begun; later = x ∷ []; group = None })))
          now undone.0,
      subst (λ (x : Contents). ComesTo (redo 1) (record h { now = group.begun; later = x ∷ []; group = None }) (Ok g))
          now undone.1,
    )
