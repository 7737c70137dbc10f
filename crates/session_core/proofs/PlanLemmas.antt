-- What was planned for a subterm, in the words of a session.
use Rattle.std.proofs.Common.{◌≡◌, ◌⊎◌, ℕ, List, length, Option, Some, None, Result, Ok, Err, IfOk, inl, inr, refl, sym, ap, subst, ◌∙◌}
use Rattle.std.specs.Prelude.{option_and_then}
use Rattle.prim_core.specs.Signature.{Signature}
use Rattle.term_core.specs.Tree.{Tree}
use Rattle.term_core.specs.declared.memory.NoMemory.{NoMemory}
use Rattle.term_paths.specs.Paths.{at, set_at}
use Rattle.term_changes.specs.Slots.{Store, content}
use Rattle.term_changes.specs.Change.{places}
use Rattle.term_changes.specs.Entries.{Entry, after, FitsForward, subterm_in}
use Rattle.term_changes.specs.PatchLaws.{patch_entries}
use Rattle.strategy_syntax.specs.declared.resolved.Resolved.{Resolved}
use Rattle.strategy_check.specs.Programs.{Program}
use Rattle.strategy_meaning.specs.Answer.{Answer, failed, stopped, spent, big}
use Rattle.strategy_meaning.specs.Meaning.{World, run_whole}
use Rattle.strategy_meaning.specs.Applied.{Outcome, placed}
use Rattle.strategy_run.specs.Applies.{applied_in}
use Rattle.strategy_run.specs.Planning.{Plans}
use Rattle.strategy_run.specs.declared.ended.Ended.{Ended}
use Rattle.strategy_run.specs.declared.ended.Ended.TheVariants.{Done, Failed, Spent, Big}
use Rattle.strategy_run.specs.declared.planning.Planned.{Planned}
use Rattle.strategy_run.proofs.ApplyLemmas.{in_tree, applied_there}
use Rattle.strategy_run.proofs.PlanLemmas.{gives_there, makes_there}
use Rattle.session_history.specs.Applying.{Meaning, world_in, given_by}
use Rattle.session_history.specs.inside.Giving.{GivesIn}
use Rattle.session_history.specs.Unfolded.{Logged}
use Rattle.session_modules.specs.declared.refusal.Refusal.{Refusal}
use Rattle.session_modules.specs.declared.refusal.Refusal.TheVariants as refusals
use Rattle.session_core.specs.inside.Foreseen.{Foresees, PlansTo, PlansNothing}
use Rattle.session_core.specs.inside.Resolved.{ResolvesTo, replaced_of}

-- the tree of a slot that has a subterm at the path
pub tree_there : (s : Store) (slot : ℕ) (path : List ℕ) (u : Tree) → subterm_in s.trees slot path ≡ Some u
    → (t : Tree) × (content s.trees slot ≡ Some t) × (at t path ≡ Some u)
tree_there s slot path u e = by (content s.trees slot) e
  where
    by : (o : Option Tree) → option_and_then (λ t. at t path) o ≡ Some u
        → (t : Tree) × (o ≡ Some t) × (at t path ≡ Some u)
    by None e = absurd (cc)
    by (Some t) e = (t, (λ _. Some t), e)

module _ (W : World) (s : Store) (slot : ℕ) (path : List ℕ) (r : Resolved) (b : ℕ) where
  abbrev Ends : Outcome
  Ends = applied_in W s.trees slot path r b

  -- how a run on the subterm there ends
  pub ends_there : (u : Tree) (answer : Answer) → subterm_in s.trees slot path ≡ Some u
      → run_whole W (length path) r b u ≡ answer → (t : Tree) × (Ends ≡ placed t path answer)
  ends_there u answer e is = let t = tree_there s slot path u e in
      (t.0, in_tree W s slot path r b t.0 t.1 ∙ applied_there W path r b t.0 u answer t.2 is)

  -- what was planned, made in the store
  module _ (plan : List Entry) (taken : ℕ) (f : Foresees W s slot path r b plan taken) where
    pub foreseen_fits : FitsForward plan s
    foreseen_fits =
        let t = tree_there s slot path f.part f.there in
        subst (λ x. FitsForward x s) (sym f.plan) (makes_there slot s path b (run_whole W (length path) r b f.part) t.0
        f.part f.places taken t.1 t.2 f.gives).places

    pub foreseen_gives : (n : Store) → n ≡ after plan s → GivesIn Ends slot s n
    foreseen_gives n made =
        let t = tree_there s slot path f.part f.there in
        record {
          tree = set_at t.0 path f.gives.after;
          given = ap given_by
              (in_tree W s slot path r b t.0 t.1 ∙ gives_there W path r b t.0 f.part f.places taken t.2 f.gives);
          stands = made ∙ ap (λ x. after x s) f.plan ∙ (makes_there slot s path b (run_whole W (length path) r b f.part)
              t.0 f.part f.places taken t.1 t.2 f.gives).tree;
        }

-- ---- a run on the subterm there

module _ (meaning : Meaning) (ps : List Signature) (t : Logged) (name path text : List ℕ) (b : ℕ)
    (cached : Option Program) (slot : ℕ) (whole : Resolved)
    (resolves : ResolvesTo ps t name path text cached slot whole) (lent : Program)
    (is : Some lent ≡ cached) (part : Tree) (there : subterm_in t.store.trees slot path ≡ Some part) where
  abbrev W : World
  W = world_in meaning lent ps t.limits.max_terms

  abbrev run : Answer
  run = run_whole W (length path) whole b part

  by_lent : ResolvesTo ps t name path text (Some lent) slot whole
  by_lent = subst (λ (c : Option Program). ResolvesTo ps t name path text c slot whole) (sym is) resolves

  no_tree : (answer : Answer) → run ≡ answer → (refusal : Refusal)
      → ((tree : Tree) → given_by (placed tree path answer) ≡ Err refusal)
      → PlansNothing meaning ps t name path text b refusal
  no_tree answer so refusal e =
      let ends = ends_there W t.store slot path whole b part answer there so in
      record { program = lent; whole = whole; slot = slot; resolves = by_lent; ends = ap given_by ends.1 ∙ e ends.0 }

  pub planned : (ended : Result (Ended Planned) NoMemory) → IfOk ended (Plans part b run) → (p : Planned)
      → replaced_of ended ≡ Ok p → PlansTo meaning ps t name path text b slot (patch_entries slot path p.patch) p.taken
  planned (Ok (Done q)) gives p e =
      let same : q ≡ p = cc in
      subst (λ (x : Planned). PlansTo meaning ps t name path text b slot (patch_entries slot path x.patch) x.taken) same
      (record {
        program = lent;
        whole = whole;
        resolves = by_lent;
        foresees = record { part = part; there = there; places = places q.patch; plan = refl; gives = gives };
      })
  planned (Ok Failed) gives p e = absurd (cc)
  planned (Ok Spent) gives p e = absurd (cc)
  planned (Ok Big) gives p e = absurd (cc)
  planned (Err none) gives p e = absurd (cc)

  pub unplanned : (ended : Result (Ended Planned) NoMemory) → IfOk ended (Plans part b run) → (refusal : Refusal)
      → replaced_of ended ≡ Err refusal
      → (refusal ≡ refusals.Memory) ⊎ PlansNothing meaning ps t name path text b refusal
  unplanned (Ok (Done q)) gives refusal e = absurd (cc)
  unplanned (Ok Failed) so refusal e = let same : refusals.Fails ≡ refusal = cc in
      inr (no_tree (failed so.0) so.1 refusal (λ tree. ap Err same))
  unplanned (Ok Spent) so refusal e = let same : refusals.Spent ≡ refusal = cc in
      inr (no_tree (stopped spent) so refusal (λ tree. ap Err same))
  unplanned (Ok Big) so refusal e = let same : refusals.Big ≡ refusal = cc in
      inr (no_tree (stopped big) so refusal (λ tree. ap Err same))
  unplanned (Err none) gives refusal e = let same : refusals.Memory ≡ refusal = cc in inl (sym same)
