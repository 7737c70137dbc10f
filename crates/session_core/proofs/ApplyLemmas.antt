-- What applying a strategy in a store means for the history.
use Rattle.std.proofs.Common.{◌≡◌, ◌⊎◌, ℕ, List, Option, Some, Result, Ok, Err, IfErr, OnOk, OnErr, inl, inr, refl, sym, ap, ◌∙◌}
use Rattle.std.specs.Option.{option_map_or}
use Rattle.prim_core.specs.Signature.{Signature}
use Rattle.strategy_syntax.specs.declared.resolved.Resolved.{Resolved}
use Rattle.strategy_check.specs.Programs.{Program}
use Rattle.strategy_meaning.specs.Applied.{Outcome as Ending, fails, applied}
use Rattle.strategy_run.specs.Applies.{applied_in}
use Rattle.term_core.specs.Tree.{Tree}
use Rattle.term_changes.specs.Contents.{Contents, with_tree}
use Rattle.term_changes.specs.Slots.{contents}
use Rattle.term_changes.specs.Entries.{Entry, after}
use Rattle.term_changes.proofs.ContentsLemmas.{tree_put}
use Rattle.session_history.specs.Applying.{Meaning, world_in, given_by}
use Rattle.session_history.specs.inside.Giving.{GivesIn}
use Rattle.session_history.specs.History.{History, changed}
use Rattle.session_history.specs.Acts.{Act, apply, Performs, ActResult, ChangesTo, AppliesAt, Located, ComesTo}
use Rattle.session_history.specs.Moving.{KeepsHistory, Changes}
use Rattle.session_history.specs.Unfolded.{Logged, unfolded}
use Rattle.session_modules.specs.declared.refusal.Refusal.{Refusal}
use Rattle.session_modules.specs.declared.refusal.Refusal.TheVariants.{Memory}
use Rattle.session_history.proofs.StepLemmas.{passed, stopped, accepts, refuses}
use Rattle.session_history.proofs.ActLemmas.{the_place}
use Rattle.session_core.specs.inside.Foreseen.{PlansTo, PlansNothing}
use Rattle.session_core.specs.inside.Resolved.{ResolvesTo, IsUnresolved}
use Rattle.session_core.proofs.PlanLemmas.{foreseen_gives}
use Rattle.session_core.proofs.ResolveLemmas.{unresolved_before, resolved_then}

pub same_program : (p q : Program) → Some p ≡ Some q → p ≡ q
same_program p q e = cc

module _ (meaning : Meaning) (ps : List Signature) (t : Logged) (name path text : List ℕ) (steps : ℕ) where
  abbrev now : History
  now = unfolded ps t

  abbrev act : Act
  act = apply meaning name path steps text

  abbrev Comes : ActResult → Type 0
  Comes = ComesTo act now

  apply_unresolved : (refusal : Refusal) → (refusal ≡ Memory) ⊎ IsUnresolved name path text now refusal
      → Performs {X = Unit {0}} act now now (Err refusal)
  apply_unresolved refusal (inl memory) = refuses act now now refusal (inl memory) refl
  apply_unresolved refusal (inr before) = refuses act now now refusal
      (inr (unresolved_before ps t name path text (AppliesAt meaning name path steps now) refusal before)) refl

  module _ (cached : Option Program) (i : ℕ) (whole : Resolved) (r : ResolvesTo ps t name path text cached i whole)
      (lent : Program) (is : Some lent ≡ cached) where
    abbrev here : Located
    here = the_place t name path i r.there

    abbrev ending : Ending
    ending = applied (world_in meaning r.program ps t.limits.max_terms) path whole steps here.tree

    abbrev Ends : Ending
    Ends = applied_in (world_in meaning lent ps t.limits.max_terms) t.store.trees i path whole steps

    -- the outcome in the slot is the outcome at the place
    in_slot : Ends ≡ ending
    in_slot =
        let same : lent ≡ r.program = same_program lent r.program (is ∙ r.cache) in
        ap
        (λ (p : Program). applied_in (world_in meaning p ps t.limits.max_terms) t.store.trees i path whole steps) same
        ∙ ap (λ (o : Option Tree). option_map_or
        (applied (world_in meaning r.program ps t.limits.max_terms) path whole steps) o fails) r.there.is.held

    ends : (outcome : ActResult) → AppliesAt meaning name path steps now here r.program whole outcome → Comes outcome
    ends outcome p =
        resolved_then ps t name path text (AppliesAt meaning name path steps now) cached i whole r outcome p

    apply_fails : (refusal : Refusal) → given_by Ends ≡ Err refusal → Comes (Err refusal)
    apply_fails refusal none = ends (Err refusal) (stopped (given_by ending)
        (λ tree. ChangesTo (with_tree (contents t.store) name tree) now) refusal (sym (ap given_by in_slot) ∙ none))

    apply_done : (n : Logged) → GivesIn Ends i t.store n.store → unfolded ps n ≡ changed (contents n.store) now
        → Comes (Ok (unfolded ps n))
    apply_done n gives done =
        let then : contents n.store ≡ with_tree (contents t.store) name gives.tree = ap contents gives.stands
        ∙ tree_put t.store name i gives.tree r.there.is.named in
        ends (Ok (unfolded ps n))
        (passed (given_by ending) (λ tree. ChangesTo (with_tree (contents t.store) name tree) now) gives.tree
        (Ok (unfolded ps n)) (sym (ap given_by in_slot) ∙ gives.given)
        (ap Ok (done ∙ ap (λ (c : Contents). changed c now) then)))

  -- what it means that nothing is planned, and that what is planned was made
  pub apply_refused : (refusal : Refusal) → (refusal ≡ Memory)
      ⊎ (IsUnresolved name path text now refusal ⊎ PlansNothing meaning ps t name path text steps refusal)
      → Performs {X = Unit {0}} act now now (Err refusal)
  apply_refused refusal (inl memory) = apply_unresolved refusal (inl memory)
  apply_refused refusal (inr (inl before)) = apply_unresolved refusal (inr before)
  apply_refused refusal (inr (inr p)) = refuses act now now refusal
      (inr (apply_fails (Some p.program) p.slot p.whole p.resolves p.program refl refusal p.ends)) refl

  pub apply_performs : (i : ℕ) (entries : List Entry) (taken : ℕ)
      (p : PlansTo meaning ps t name path text steps i entries taken) (result : Result (Unit {0}) Refusal) (n : Logged)
      → OnOk result (n.store ≡ after entries t.store) → OnOk result (Changes t n) → IfErr result
      (λ refusal. refusal ≡ Memory) → OnErr result (KeepsHistory t n) → Performs act now (unfolded ps n) result
  apply_performs i entries taken p (Ok tt) n made done memory same =
      let gives = foreseen_gives (world_in meaning p.program ps t.limits.max_terms) t.store i path p.whole steps entries
      taken p.foresees n.store made in
      accepts act now (unfolded ps n) tt
      (apply_done (Some p.program) i p.whole p.resolves p.program refl n gives (done.made ps))
  apply_performs i entries taken p (Err refusal) n made done memory same =
      refuses act now (unfolded ps n) refusal (inl memory) (same.same ps)
