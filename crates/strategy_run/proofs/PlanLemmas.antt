-- What a run would replace.
use Rattle.std.proofs.Common.{◌≡◌, ◌-◌, ℕ, List, [], ◌∷◌, length, Some, refl, ap, subst, ◌∙◌}
use Rattle.term_core.specs.Tree.{Tree, children}
use Rattle.term_paths.specs.Paths.{at, set_at}
use Rattle.term_paths.specs.Edits.{Edits, Replaces, prefixed, edited}
use Rattle.term_paths.proofs.EditLemmas.{edits_of_a_subterm}
use Rattle.term_changes.specs.Slots.{Store, content}
use Rattle.term_changes.specs.Entries.{after}
use Rattle.term_changes.specs.Change.{places}
use Rattle.term_changes.specs.Putting.{HasPlaces, HaveAllPlaces}
use Rattle.term_changes.specs.Standing.{Standing, unchanged, altered, fresh, Suits, standing_tree, standing_change}
use Rattle.term_changes.proofs.FollowLemmas.{followers_are_the_change}
use Rattle.term_changes.proofs.PlacesMade.{places_make_the_change}
use Rattle.term_changes.proofs.PlacesThere.{AllThere, all_there}
use Rattle.strategy_syntax.specs.declared.resolved.Resolved.{Resolved}
use Rattle.strategy_meaning.specs.Answer.{Answer}
use Rattle.strategy_meaning.specs.Meaning.{World, run_whole}
use Rattle.strategy_meaning.specs.Applied.{gives, applied}
use Rattle.strategy_meaning.specs.Outermost.{AreOutermost}
use Rattle.strategy_machine.specs.Leading.{Has}
use Rattle.strategy_machine.specs.Turns.{State, IsDone}
use Rattle.strategy_machine.proofs.PlaceLemmas.{outermost}
use Rattle.strategy_run.specs.Planning.{Gives}
use Rattle.strategy_run.specs.inside.Finding.{Makes}
use Rattle.strategy_run.proofs.ApplyLemmas.{applied_there, edits_make}

-- ---- what a run that succeeded leaves

replaces : (ps : Edits) (t u : Tree) → AllThere ps t → edited t ps ≡ u → Replaces ps t u
replaces [] t u h e = e
replaces (p ∷ ps) t u h e = (h.0, replaces ps (set_at t p.path p.new) u h.1 e)

has_places : (t : Tree) (p : Standing) → Suits t p → Has p → HasPlaces t (standing_change p)
has_places t (unchanged u) s h = tt
has_places t (altered a) s h = subst (λ x. HaveAllPlaces (children x) a.changes) s h
has_places t (fresh u) s h = tt

prefixed_root : (e : Edits) → prefixed [] e ≡ e
prefixed_root [] = refl
prefixed_root (x ∷ e) = ap (λ l. x ∷ l) (prefixed_root e)

pub part_gives : (t : Tree) (b : ℕ) (whole : Answer) (S : State) (p : Standing) (taken : ℕ)
    → IsDone (unchanged t) whole S p → taken ≡ b - S.steps
    → Gives t b whole (places (standing_change p)) taken
part_gives t b whole S p taken d took =
    let c = standing_change p in
    let ps = places c in
    record {
      after = standing_tree p;
      bindings = d.bindings;
      left = S.steps;
      edits = d.edits;
      is = d.is;
      outermost =
          subst (λ x. AreOutermost ps x) (prefixed_root d.edits)
          (subst (λ x. AreOutermost x (prefixed [] d.edits)) (prefixed_root ps) (outermost [] t d.edits p d.leads));
      made =
          replaces ps t (standing_tree p) (all_there c t (has_places t p d.leads.follows d.leads.has))
          (places_make_the_change c t ∙ followers_are_the_change t p d.leads.follows);
      took = took;
    }

-- ---- in the tree of a slot

-- There, the outcome is the tree with the resulting term at the path.
pub gives_there : (W : World) (path : List ℕ) (r : Resolved) (b : ℕ) (t u : Tree) (ps : Edits) (taken : ℕ)
    → at t path ≡ Some u
    → (g : Gives u b (run_whole W (length path) r b u) ps taken)
    → applied W path r b t ≡ gives (set_at t path g.after) (prefixed path g.edits)
gives_there W path r b t u ps taken k g = applied_there W path r b t u _ k g.is

-- Setting the places there makes it.
pub makes_there : (slot : ℕ) (s : Store) (path : List ℕ) (b : ℕ) (whole : Answer) (t u : Tree) (ps : Edits) (taken : ℕ)
    → content s.trees slot ≡ Some t → at t path ≡ Some u
    → (g : Gives u b whole ps taken) → Makes slot (prefixed path ps) (set_at t path g.after) s
makes_there slot s path b whole t u ps taken h k g =
    edits_make (prefixed path ps) t (set_at t path g.after) slot s h (edits_of_a_subterm ps t u g.after path k g.made)
