-- A strategy on each child, alone and before another strategy.
use Rattle.std.proofs.Common.{◌≡◌, ℕ, suc, ◌+◌, ◌-◌, [], ◌∷◌, length, replicate, refl, ap, ◌∙◌, subst, arith, Bor, Vec, Global}
use Rattle.term_core.specs.Tree.{Tree, children}
use Rattle.term_changes.specs.Standing.{Standing, standing_tree}
use Rattle.strategy_syntax.specs.Resolved.{ResolvedStrategy, seq, all}
use Rattle.strategy_meaning.specs.Scopes.{Scope}
use Rattle.strategy_meaning.specs.Matching.{Bindings}
use Rattle.strategy_meaning.specs.Answer.{Answer, Act, done, stopped, spent, and_then}
use Rattle.strategy_meaning.specs.Meaning.{World, run, form, each}
use Rattle.strategy_machine.specs.Table.{scope_at}
use Rattle.term_match.specs.Marks.{mark_of}
use Rattle.strategy_machine.specs.Frames.{Meets, acts_list}
use Rattle.strategy_machine.specs.Turns.{State, HoldsIn}
use Rattle.strategy_machine.specs.inside.Taking.{FormIn}
use Rattle.strategy_machine.specs.declared.frames.Acts.TheVariants.{Same}
use Rattle.strategy_machine.specs.declared.frames.Frame.TheVariants.{Then}
use Rattle.strategy_machine.specs.Hands.{Begin, Done, Each}
use Rattle.strategy_machine.proofs.OpenLemmas.{with_edits-none, with_edits-and_then, opens_along, opens_through}
use Rattle.strategy_machine.proofs.TakeLemmas.{run_step, no_steps, take_same, take_stops, all_is, over_none, paid, framed}

-- the strategies for the children, if there are any
pub same_first : (s : Bor ResolvedStrategy) (k count : ℕ)
    → count ≡ k → (count ≡ 0 → ⊥) → acts_list (Same s) (k - 0) ≡ s.now ∷ acts_list (Same s) (k - 0 - 1)
same_first s k count e some =
    let more : k - 0 ≡ suc (k - 0 - 1) = omega (arith, e, some) in
    ap (λ (j : ℕ). replicate j s.now) more

-- without children
none : (W : World) (E : Scope) (l b : ℕ) (s : ResolvedStrategy) (B : Bindings) (t : Tree)
    → length (children t) ≡ 0 → form W (run W) E l (all s) b B t ≡ done t B b []
none W E l b s B t e = ap (λ (k : ℕ). each (run W E (l + 1)) (replicate k s) 0 b B t) e

pub all_none : (W : World) (sub : Standing) (whole : Answer) (S : State) (s : Bor ResolvedStrategy) (n : ℕ)
    (p : Standing) → length (children (standing_tree p)) ≡ 0
    → FormIn W sub whole S (all s.now) n p → HoldsIn W sub whole S (Done p)
all_none W sub whole S s n p e h =
    take_same W sub whole S (all s.now) n p
    (none W (scope_at S.scopes n) S.level S.steps s.now S.cells.bindings (standing_tree p) e) h

module _ (W : World) (sub : Standing) (whole : Answer) (S : State) (s s2 : Bor ResolvedStrategy) (n : ℕ)
    (p : Standing) where
  abbrev both : ResolvedStrategy
  both = seq (all s.now) s2.now

  abbrev then : Act
  then = run W (scope_at S.scopes n) S.level s2.now

  pub all_spent : S.steps ≡ 0 → FormIn W sub whole S both n p → whole ≡ stopped spent
  all_spent e h =
      take_stops W sub whole S both n p spent (ap (λ (a : Answer). and_then a then)
      (no_steps W (scope_at S.scopes n) S.level (all s.now) S.steps S.cells.bindings (standing_tree p) e)) h

  pub all_passed : (c : ℕ) → S.steps ≡ c + 1 → length (children (standing_tree p)) ≡ 0 → FormIn W sub whole S both n p
      → HoldsIn W sub whole (paid S c) (Begin s2 n p)
  all_passed c e z h =
      let B = S.cells.bindings in
      let t = standing_tree p in
      record {
        now = p;
        edits = h.edits;
        shows = h.shows;
        in_hand = (h.there, refl);
        opens = opens_along _ _
            (ap (λ (a : Answer). and_then a then) (run_step W (scope_at S.scopes n) S.level (all s.now) S.steps c B t e
            ∙ none W (scope_at S.scopes n) S.level c s.now B t z)
            ∙ with_edits-none (then c B t)) h.opens;
      }

  pub all_starts : (c : ℕ) (parts : Vec Standing Global)
      → S.steps ≡ c + 1 → parts.items ≡ [] → FormIn W sub whole S both n p
      → HoldsIn W sub whole (framed (paid S c) (Then s2 n ∷ S.frames)) (Each (Same s) n p 0 parts)
  all_starts c parts e z h =
      let none = over_none p parts.items z h.opens.leads.has in
      let E = scope_at S.scopes n in
      let B = S.cells.bindings in
      let t = standing_tree p in
      let first = form W (run W) E S.level (all s.now) c B t in
      record {
        now = p;
        edits = h.edits;
        shows = h.shows;
        in_hand = (h.there, h.opens.leads.has, none.0, none.1);
        opens = opens_along _ _ (all_is W (paid S c) s n p ∙ ap (λ x.
            each (run W E (S.level + 1)) (acts_list (Same s) (length (children t) - 0)) 0 c B (standing_tree x)) none.1)
            (opens_through (and_then first then) first (λ start base y r. (
              h.there,
              subst (Meets W sub whole S.cells (mark_of S.cells) S.scopes S.level S.frames start base)
                  (with_edits-and_then y first then) r,
            ))
            (opens_along _ _ (ap (λ (a : Answer). and_then a then) (run_step W E S.level (all s.now) S.steps c B t e))
            h.opens));
      }
