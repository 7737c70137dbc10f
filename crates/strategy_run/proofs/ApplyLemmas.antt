-- Applying strategies in a slot's tree.
use Rattle.std.proofs.Common.{◌≡◌, ◌≤◌, ◌+◌, ℕ, suc, List, [], ◌∷◌, ◌++◌, length, slice_get, Some, None, IsSome, IfSome, refl, sym, ap, subst, ◌∙◌, arith}
use Rattle.std.proofs.lemmas.Option.{slice_get_within, get_or_from_slice_get}
use Rattle.std.specs.Prelude.{option_and_then}
use Rattle.std.specs.Option.{option_map_or}
use Rattle.term_core.specs.Tree.{Tree, children}
use Rattle.term_core.specs.Size.{height}
use Rattle.term_core.specs.declared.TheConstants.{MAX_HEIGHT}
use Rattle.term_core.proofs.TreeLemmas.{child-lower}
use Rattle.term_paths.specs.Paths.{at, set_at}
use Rattle.term_paths.proofs.PathLemmas.{at-child, at-no_child}
use Rattle.term_paths.specs.Edits.{Edits, prefixed, Replaces}
use Rattle.term_paths.proofs.EditLemmas.{edits_of_a_subterm}
use Rattle.term_changes.specs.Slots.{Store, content, with_content}
use Rattle.term_changes.specs.Entries.{Entry, slot_tree, subterm_in, put, before, after, flipped_forward, Fits, FitsForward}
use Rattle.term_changes.proofs.SlotLemmas.{same_content}
use Rattle.term_changes.proofs.EntryLemmas.{store_from_before, flipped_forward_fits}
use Rattle.term_changes.proofs.ContentsLemmas.{subterm_put}
use Rattle.term_changes.specs.Putting.{entries_at, entry_at}
use Rattle.term_changes.specs.Standing.{Standing, unchanged, standing_tree}
use Rattle.term_changes.proofs.StoreLemmas.{content_put, content_twice}
use Rattle.strategy_syntax.specs.declared.resolved.Resolved.{Resolved}
use Rattle.strategy_meaning.specs.Answer.{Answer}
use Rattle.strategy_meaning.specs.Meaning.{World, run_whole}
use Rattle.strategy_meaning.specs.Applied.{Outcome, fails, placed, applied}
use Rattle.strategy_machine.specs.Turns.{State, IsDone}
use Rattle.strategy_run.specs.Applies.{applied_in, Applies, PutsAll, Stay}
use Rattle.strategy_run.specs.inside.Finding.{Makes, FindsAll}
use Rattle.strategy_run.specs.declared.ended.Ended.TheVariants.{Done}
use Rattle.strategy_machine.specs.Trails.{Shows}

-- ---- heights

-- the deeper a subterm lies, the lower it is
pub low_at : (p : List ℕ) (t u : Tree) → at t p ≡ Some u → length p + height u ≤ height t
low_at [] t u e = let same : t ≡ u = cc in omega (arith, ap height same)
low_at (i ∷ p) t u e =
    elim (slice_get (children t) i) as (λ o. slice_get (children t) i ≡ o → suc (length p) + height u ≤ height t) [
      | None ↦ λ no. absurd (let none = sym (at-no_child t i p no) ∙ e in cc)
      | Some kid ↦ λ some.
          let lower = child-lower t i kid (slice_get_within (children t) i kid some) in
          let is = ap height (get_or_from_slice_get (children t) i kid kid some) in
          omega (arith, lower, is, low_at p kid u (sym (at-child t kid i p some) ∙ e))
    ] refl

-- ---- edits one after the other, in a slot's tree

pub edits_make : (e : Edits) (t u : Tree) (slot : ℕ) (s : Store) → content s.trees slot ≡ Some t → Replaces e t u
    → Makes slot e u s
edits_make [] t u slot s h r =
    let there : content s.trees slot ≡ Some u = h ∙ ap (λ x. Some x) r in
    let stays : with_content s.trees slot (Some u) ≡ s.trees = ap (with_content s.trees slot) (sym there)
    ∙ same_content s.trees slot in
    record { tree = sym (λ i. record s { trees = stays i }); places = tt }
edits_make (x ∷ e) t u slot s h r =
    let next = set_at t x.path x.new in
    let s1 = put (slot_tree slot (Some next)) s in
    let once : put (entry_at slot x) s ≡ s1 = subterm_put s slot x.path t x.new h in
    let rest = edits_make e next u slot s1 (content_put s.trees slot t next h) r.1 in
    record {
      tree = ap (after (entries_at slot e)) once
          ∙ rest.tree ∙ (λ i. record s { trees = content_twice s.trees slot (Some next) (Some u) i });
      places = (
        subst (λ o. IsSome (option_and_then (λ y. at y x.path) o)) (sym h) r.0,
        subst (FitsForward (entries_at slot e)) (sym once) rest.places,
      );
    }

-- ---- the outcome of a run

at_place : (s : Store) (slot : ℕ) (t u : Tree) (p : List ℕ) → content s.trees slot ≡ Some t → at t p ≡ Some u
    → subterm_in s.trees slot p ≡ Some u
at_place s slot t u p h k = ap (option_and_then (λ y. at y p)) h ∙ k

pub applied_there : (W : World) (p : List ℕ) (r : Resolved) (b : ℕ) (t u : Tree) (a : Answer) → at t p ≡ Some u
    → run_whole W (length p) r b u ≡ a → applied W p r b t ≡ placed t p a
applied_there W p r b t u a k is = ap (λ o. option_map_or (λ x. placed t p (run_whole W (length p) r b x)) o fails) k
    ∙ ap (placed t p) is

pub applied_nowhere : (W : World) (p : List ℕ) (r : Resolved) (b : ℕ) (t : Tree)
    → at t p ≡ None → applied W p r b t ≡ fails
applied_nowhere W p r b t k = ap (λ o. option_map_or (λ x. placed t p (run_whole W (length p) r b x)) o fails) k

pub low_part : (p : List ℕ) (t u : Tree) → at t p ≡ Some u
    → IfSome (at t p) (λ x. length p + height x ≤ MAX_HEIGHT) → length p + height u ≤ MAX_HEIGHT
low_part p t u k low = subst (λ o. IfSome o (λ x. length p + height x ≤ MAX_HEIGHT)) k low

pub finds : (W : World) (p : Standing) (path : List ℕ) (es : List Entry) (t u : Tree) (r : Resolved) (b : ℕ) (S : State)
    (s : Store) (slot : ℕ)
    → at t path ≡ Some u → IsDone (unchanged u) (run_whole W (length path) r b u) S p
    → ((e : Edits) → Shows S.trail e → es ≡ entries_at slot (prefixed path e))
    → content s.trees slot ≡ Some t → FindsAll s slot (applied W path r b t) es
finds W p path es t u r b S s slot k d l h =
    let v = standing_tree p in (
      set_at t path v,
      prefixed path d.edits,
      applied_there W path r b t u _ k d.is,
      l d.edits d.shows,
      edits_make (prefixed path d.edits) t (set_at t path v) slot s h
          (edits_of_a_subterm d.edits t u v path k d.leads.made),
    )

-- ---- the outcome is put in place

pub puts : (whole : Outcome) (es : List Entry) (slot : ℕ) (s t : Store) (log longer : List Entry)
    → FindsAll s slot whole es → t ≡ after es s → longer ≡ log ++ flipped_forward es s
    → before longer t ≡ before log s → (Fits log s → FitsForward es s → Fits longer t)
    → Applies (λ e u. PutsAll slot e u s log t longer) (Stay s log t longer) whole (Done tt)
puts whole es slot s t log longer f te le back fit =
    let e = f.1 in
    let is : es ≡ entries_at slot e = f.3 in
    let store : t ≡ after (entries_at slot e) s = te ∙ ap (λ x. after x s) is in (
      f.0,
      e,
      f.2,
      record {
        tree = store ∙ f.4.tree;
        after = le ∙ ap (λ x. log ++ flipped_forward x s) is;
        back = ap (before (flipped_forward (entries_at slot e) s)) store ∙ store_from_before (entries_at slot e) s;
        fits = subst (Fits (flipped_forward (entries_at slot e) s)) (sym store)
            (flipped_forward_fits (entries_at slot e) s f.4.places);
        log_back = back;
        log_fits = λ h. fit h (subst (λ x. FitsForward x s) (sym is) f.4.places);
      },
    )

-- the condition, for the tree that is in the slot
pub low_there : (s : Store) (slot : ℕ) (p : List ℕ) (t : Tree) → content s.trees slot ≡ Some t
    → IfSome (subterm_in s.trees slot p) (λ u. length p + height u ≤ MAX_HEIGHT) → IfSome (at t p)
    (λ u. length p + height u ≤ MAX_HEIGHT)
low_there s slot p t h low =
    subst (λ o. IfSome (option_and_then (λ y. at y p) o) (λ u. length p + height u ≤ MAX_HEIGHT)) h low

-- the outcome if the slot has a tree, and if it has none
pub in_tree : (W : World) (s : Store) (slot : ℕ) (p : List ℕ) (r : Resolved) (b : ℕ) (t : Tree)
    → content s.trees slot ≡ Some t → applied_in W s.trees slot p r b ≡ applied W p r b t
in_tree W s slot p r b t h = ap (λ o. option_map_or (applied W p r b) o fails) h

pub in_none : (W : World) (s : Store) (slot : ℕ) (p : List ℕ) (r : Resolved) (b : ℕ)
    → content s.trees slot ≡ None → applied_in W s.trees slot p r b ≡ fails
in_none W s slot p r b h = ap (λ o. option_map_or (applied W p r b) o fails) h
