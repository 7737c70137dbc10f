-- What a run foresees, in the words of a session.
use Rattle.std.proofs.Common.{◌≡◌, ◌-◌, ◌⊎◌, ℕ, List, [], ◌∷◌, ◌++◌, length, map, Option, Some, None, IsSome, Result, Ok, Err, inl, inr, refl, sym, ap, subst, ◌∙◌, arith}
use Rattle.std.specs.Prelude.{option_and_then, unwrap_or}
use Rattle.std.specs.List.{AllZip}
use Rattle.prim_core.specs.Signature.{Signature}
use Rattle.term_core.specs.Tree.{Tree}
use Rattle.term_paths.specs.Paths.{at, set_at}
use Rattle.term_paths.specs.Laws.{AreApart}
use Rattle.term_paths.specs.Edits.{Edit, Edits, Replaces, prefixed, edited}
use Rattle.term_paths.proofs.PathLemmas.{at-append}
use Rattle.term_paths.proofs.LawLemmas.{set_is_there}
use Rattle.term_paths.proofs.ApartLemmas.{apart_is_left}
use Rattle.term_changes.specs.Putting.{ApartFromAll, entries_at}
use Rattle.term_changes.proofs.OrderLemmas.{left_apart}
use Rattle.term_changes.specs.Entries.{Entry, subterm_in}
use Rattle.strategy_syntax.specs.declared.resolved.Resolved.{Resolved}
use Rattle.strategy_check.specs.Programs.{Program}
use Rattle.strategy_meaning.specs.Answer.{Answer, done, failed, stopped}
use Rattle.strategy_meaning.specs.Applied.{placed}
use Rattle.strategy_run.specs.Applies.{applied_in}
use Rattle.strategy_meaning.specs.Meaning.{run_whole}
use Rattle.strategy_meaning.specs.Outermost.{IsBefore, IsBeforeAll, AreInOrder}
use Rattle.session_history.specs.Applying.{Meaning, world_in, given_by, stopped_as}
use Rattle.session_history.specs.History.{History}
use Rattle.session_history.specs.Preview.{Replacement, IsShown, Foresees as Shows, ForeseesAt, Previews}
use Rattle.session_history.specs.Preview as definition
use Rattle.session_history.specs.Acts.{Located}
use Rattle.session_history.specs.Unfolded.{Logged, unfolded}
use Rattle.session_modules.specs.declared.refusal.Refusal.{Refusal}
use Rattle.session_modules.specs.declared.refusal.Refusal.TheVariants.{Memory, Fails}
use Rattle.session_history.proofs.ActLemmas.{place_held, part_there, the_place}
use Rattle.session_core.specs.Previewing.{IsEntryFor, AreThere, ShowsPreview, AnswersPreview}
use Rattle.session_core.specs.declared.preview.Preview.{Preview}
use Rattle.session_core.specs.inside.Foreseen.{Foresees, PlansTo, PlansNothing}
use Rattle.session_core.specs.inside.Resolved.{ResolvesTo, IsUnresolved}
use Rattle.session_core.proofs.ApplyLemmas.{same_program}
use Rattle.session_core.proofs.PlanLemmas.{ends_there}
use Rattle.session_core.proofs.ResolveLemmas.{unresolved_before, resolved_then}

-- ---- places that are set one after the other are there in the end

before_apart : (p q : List ℕ) → IsBefore p q → AreApart p q
before_apart [] q h = absurd h
before_apart (i ∷ p) [] h = absurd h
before_apart (i ∷ p) (j ∷ q) (inl less) = (
  λ w. let e = w.1 in let same : i ≡ j = (cc) in omega (arith, same, less),
  λ w. let e = w.1 in let same : j ≡ i = (cc) in omega (arith, same, less),
)
before_apart (i ∷ p) (j ∷ q) (inr h) =
    let apart = before_apart p q h.1 in
    (λ w. let e = w.1 in apart.0 (w.0, (cc)), λ w. let e = w.1 in apart.1 (w.0, (cc)))

before_apart_all : (p : List ℕ) (e : Edits) → IsBeforeAll p e → ApartFromAll p e
before_apart_all p [] h = tt
before_apart_all p (x ∷ e) h = (before_apart p x.path h.0, before_apart_all p e h.1)

replaces_edited : (e : Edits) (t u : Tree) → Replaces e t u → edited t e ≡ u
replaces_edited [] t u h = h
replaces_edited (x ∷ e) t u h = replaces_edited e (set_at t x.path x.new) u h.1

there_of : (o : Option Tree) → IsSome o → (u : Tree) × (o ≡ Some u)
there_of None h = absurd (cc)
there_of (Some u) h = (u, refl)

-- the replacement that a place shows
abbrev shown_at : List ℕ → Tree → Edit → Replacement
shown_at path before x = record { path = path ++ x.path; old = unwrap_or (at before x.path) before; new = x.new }

-- the entries of the places are those of the replacements
entries_for : (slot : ℕ) (path : List ℕ) (before : Tree) (e : Edits)
    → AllZip IsEntryFor (entries_at slot (prefixed path e)) (map (shown_at path before) e)
entries_for slot path before [] = tt
entries_for slot path before (x ∷ e) = ((refl, refl), entries_for slot path before e)

-- ---- places that are set one after the other are there at the start

abbrev AllSome : Tree → Edits → Type 0
AllSome t [] = Unit {0}
AllSome t (x ∷ e) = IsSome (at t x.path) × AllSome t e

some_before : (e : Edits) (t u : Tree) (q : List ℕ) → ApartFromAll q e → AllSome (set_at t q u) e → AllSome t e
some_before [] t u q apart some = tt
some_before (x ∷ e) t u q apart some =
    (subst (λ o. IsSome o) (apart_is_left t u q x.path apart.0) some.0, some_before e t u q apart.1 some.1)

all_some : (e : Edits) (t u : Tree) → Replaces e t u → AreInOrder e → AllSome t e
all_some [] t u made order = tt
all_some (x ∷ e) t u made order = (
  made.0,
  some_before e t x.new x.path (before_apart_all x.path e order.0)
      (all_some e (set_at t x.path x.new) u made.1 order.1),
)

old_there : (t u : Tree) (p : List ℕ) → IsSome (at t p) → at t p ≡ Some (unwrap_or (at t p) u)
old_there t u p some = let there = there_of (at t p) some in there.1 ∙ ap (λ o. Some (unwrap_or o u)) (sym there.1)

-- each place shows what is there before and after
module _ (path : List ℕ) (before after : Tree) where
  are_shown : (e : Edits) (t : Tree) → Replaces e t after → AreInOrder e → AllSome before e
      → AllZip (IsShown path before after) e (map (shown_at path before) e)
  are_shown [] t made order some = tt
  are_shown (x ∷ e) t made order some =
      let u = there_of (at t x.path) made.0 in
      let next = set_at t x.path x.new in
      let new : at after x.path ≡ Some x.new =
      ap (λ y. at y x.path) (sym (replaces_edited e next after made.1))
      ∙ left_apart e x.path next (before_apart_all x.path e order.0) ∙ set_is_there t x.new u.0 x.path u.1 in
      ((refl, old_there before before x.path some.0, new), are_shown e next made.1 order.1 some.1)

module _ (path : List ℕ) (tree before : Tree) (here : at tree path ≡ Some before) where
  are_there : (e : Edits) → AllSome before e → AreThere tree (map (shown_at path before) e)
  are_there [] some = tt
  are_there (x ∷ e) some = (
    at-append tree path x.path ∙ ap (option_and_then (λ y. at y x.path)) here ∙ old_there before before x.path some.0,
    are_there e some.1,
  )

-- ---- a run in the slot is a run at the place

module _ (meaning : Meaning) (ps : List Signature) (t : Logged) (name path text : List ℕ) (steps : ℕ) where
  abbrev now : History
  now = unfolded ps t

  preview_unresolved : (refusal : Refusal) → (refusal ≡ Memory) ⊎ IsUnresolved name path text now refusal
      → AnswersPreview meaning name path steps text now (Err refusal)
  preview_unresolved refusal (inl memory) = record { ok = tt; refused = inl memory }
  preview_unresolved refusal (inr before) = record {
    ok = tt;
    refused = inr (unresolved_before ps t name path text (ForeseesAt meaning path steps now) refusal before);
  }

  module _ (cached : Option Program) (i : ℕ) (whole : Resolved) (r : ResolvesTo ps t name path text cached i whole)
      (lent : Program) (is : Some lent ≡ cached) where
    abbrev here : Located
    here = the_place t name path i r.there

    abbrev run_on : Tree → Answer
    run_on part = run_whole (world_in meaning lent ps t.limits.max_terms) (length path) whole steps part

    found : (part : Tree) → subterm_in t.store.trees i path ≡ Some part → at r.there.tree path ≡ Some part
    found part found_it = sym (ap (option_and_then (λ y. at y path)) r.there.is.held) ∙ found_it

    -- the subterm that the slot's tree has there is that of the place
    same_part : (part : Tree) → subterm_in t.store.trees i path ≡ Some part → part ≡ here.part
    same_part part found_it = let same : Some part ≡ Some here.part = sym (found part found_it)
        ∙ part_there t name path i r.there in (cc)

    comes : (outcome : Result definition.Preview Refusal) → Shows path steps here.part (run_on here.part) outcome
        → Previews meaning name path steps text now outcome
    comes outcome p =
        let same : lent ≡ r.program = same_program lent r.program (is ∙ r.cache) in
        resolved_then ps t name path text (ForeseesAt meaning path steps now) cached i whole r outcome
        (subst (λ (q : Program). Shows path steps here.part
        (run_whole (world_in meaning q ps t.limits.max_terms) (length path) whole steps here.part) outcome) same p)

    at_part : (part : Tree) → subterm_in t.store.trees i path ≡ Some part
        → (outcome : Result definition.Preview Refusal) → Shows path steps part (run_on part) outcome
        → Previews meaning name path steps text now outcome
    at_part part found_it outcome p =
        comes outcome (subst (λ y. Shows path steps y (run_on y) outcome) (same_part part found_it) p)

    shows_preview : (preview : Preview) → Foresees (world_in meaning lent ps t.limits.max_terms) t.store i path whole
        steps preview.plan preview.steps → ShowsPreview meaning name path steps text now preview
    shows_preview preview f =
        let g = f.gives in
        let list = map (shown_at path f.part) f.places in
        let some = all_some f.places f.part g.after g.made g.outermost.order in
        let shown : definition.Preview = record { replacements = list; steps = preview.steps } in
        let is : ◌≡◌ {A = Result definition.Preview Refusal} (Ok shown)
        (Ok (record { replacements = list; steps = steps - g.left })) =
        ap (λ n. Ok (record { replacements = list; steps = n })) g.took in
        record {
          shown = shown;
          previews = at_part f.part f.there (Ok shown) (subst (λ a. Shows path steps f.part a (Ok shown)) (sym g.is) (
            f.places,
            list,
            g.outermost,
            are_shown path f.part g.after f.places f.part g.made g.outermost.order some,
            is,
          ));
          plan = subst (λ es. AllZip IsEntryFor es list) (sym f.plan) (entries_for i path f.part f.places);
          steps = refl;
          tree = r.there.tree;
          held = place_held t name path i r.there;
          there = are_there path r.there.tree f.part (found f.part f.there) f.places some;
        }

    -- a run that gives no tree
    refuses_run : (tree part : Tree) (answer : Answer) (refusal : Refusal)
        → given_by (placed tree path answer) ≡ Err refusal → Shows path steps part answer (Err refusal)
    refuses_run tree part (done after bindings left edits) refusal e = absurd (cc)
    refuses_run tree part (failed left) refusal e = let same : Fails ≡ refusal = cc in ap Err (sym same)
    refuses_run tree part (stopped why) refusal e = let same : stopped_as why ≡ refusal = cc in ap Err (sym same)

    preview_fails : (refusal : Refusal)
        → given_by (applied_in (world_in meaning lent ps t.limits.max_terms) t.store.trees i path whole steps)
        ≡ Err refusal → Previews meaning name path steps text now (Err refusal)
    preview_fails refusal none =
        let there : subterm_in t.store.trees i path ≡ Some here.part =
        ap (option_and_then (λ y. at y path)) r.there.is.held ∙ part_there t name path i r.there in
        let ends =
        ends_there (world_in meaning lent ps t.limits.max_terms) t.store i path whole steps here.part _ there refl in
        at_part here.part there (Err refusal)
        (refuses_run ends.0 here.part (run_on here.part) refusal (sym (ap given_by ends.1) ∙ none))

  -- what the call answers, where nothing is planned, and what it shows
  pub preview_refused : (refusal : Refusal) → (refusal ≡ Memory)
      ⊎ (IsUnresolved name path text now refusal ⊎ PlansNothing meaning ps t name path text steps refusal)
      → AnswersPreview meaning name path steps text now (Err refusal)
  preview_refused refusal (inl memory) = preview_unresolved refusal (inl memory)
  preview_refused refusal (inr (inl before)) = preview_unresolved refusal (inr before)
  preview_refused refusal (inr (inr p)) = record {
    ok = tt;
    refused = inr (preview_fails (Some p.program) p.slot p.whole p.resolves p.program refl refusal p.ends);
  }

  pub preview_shows : (i : ℕ) (entries : List Entry) (taken : ℕ)
      (p : PlansTo meaning ps t name path text steps i entries taken) (preview : Preview)
      → preview.plan ≡ entries → preview.steps ≡ taken
      → AnswersPreview meaning name path steps text now (Ok preview)
  preview_shows i entries taken p preview plan count =
      let f = subst
      (λ n. Foresees (world_in meaning p.program ps t.limits.max_terms) t.store i path p.whole steps preview.plan n)
      (sym count)
      (subst (λ es. Foresees (world_in meaning p.program ps t.limits.max_terms) t.store i path p.whole steps es taken)
      (sym plan) p.foresees) in
      record { ok = shows_preview (Some p.program) i p.whole p.resolves p.program refl preview f; refused = tt }
