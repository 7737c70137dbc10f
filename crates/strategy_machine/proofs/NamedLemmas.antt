-- A name followed by a strategy: what the name stands for, done at once or started.
use Rattle.std.proofs.Common.{◌≡◌, ℕ, ◌+◌, ◌∷◌, [], ap, ◌∙◌, refl, arith, subst, Some, None, Bor}
use Rattle.term_core.specs.Tree.{Tree}
use Rattle.term_changes.specs.Standing.{Standing, standing_tree}
use Rattle.strategy_syntax.specs.Resolved.{ResolvedStrategy, id, seq, param}
use Rattle.strategy_meaning.specs.Scopes.{Scope, Closure, stands_for}
use Rattle.strategy_meaning.specs.Matching.{Bindings}
use Rattle.strategy_meaning.specs.Answer.{Answer, Act, done, failed, stopped, spent, and_then}
use Rattle.strategy_meaning.specs.Meaning.{World, run, form}
use Rattle.strategy_machine.specs.Table.{scope_at, NameStands, closure_of}
use Rattle.strategy_machine.specs.declared.scopes.Closure.{Closure as TableClosure}
use Rattle.term_match.specs.Marks.{mark_of}
use Rattle.strategy_machine.specs.Frames.{Meets}
use Rattle.strategy_machine.specs.Turns.{State, HoldsIn}
use Rattle.strategy_machine.specs.inside.Taking.{FormIn}
use Rattle.strategy_machine.specs.declared.frames.Frame.TheVariants.{Then}
use Rattle.strategy_machine.specs.Hands.{Begin, Done, Failed}
use Rattle.strategy_machine.proofs.OpenLemmas.{with_edits-none, with_edits-and_then, opens_along, opens_through}
use Rattle.strategy_machine.proofs.TakeLemmas.{run_step, no_steps, some_is, none_is, take_stops, paid, framed}

module _ (W : World) (E : Scope) (l x : ℕ) (B : Bindings) (t : Tree) where
  -- the name's step is charged
  known_runs : (z : Closure) (b c : ℕ) → b ≡ c + 1 → stands_for E x ≡ Some z
      → run W E l (param x) b B t ≡ run W z.written_in l z.strategy c B t
  known_runs z b c e k =
      run_step W E l (param x) b c B t e ∙ some_is (stands_for E x) z c (λ y. run W y.written_in l y.strategy c B t) k

  unknown_fails : (b c : ℕ) → b ≡ c + 1 → stands_for E x ≡ None → run W E l (param x) b B t ≡ failed c
  unknown_fails b c e k =
      run_step W E l (param x) b c B t e ∙ none_is (stands_for E x) c (λ y. run W y.written_in l y.strategy c B t) k

-- `id` succeeds with the term itself
id_runs : (W : World) (F : Scope) (l b c : ℕ) (s : ResolvedStrategy) (B : Bindings) (t : Tree)
    → s ≡ id → b ≡ c + 1 → run W F l s b B t ≡ done t B c []
id_runs W F l b c s B t is e = ap (λ (r : ResolvedStrategy). run W F l r b B t) is ∙ run_step W F l id b c B t e

pub id_done : (W : World) (sub : Standing) (whole : Answer) (S : State) (s : Bor ResolvedStrategy) (n : ℕ)
    (p : Standing) (c : ℕ) → S.steps ≡ c + 1 → s.now ≡ id
    → HoldsIn W sub whole S (Begin s n p) → HoldsIn W sub whole (paid S c) (Done p)
id_done W sub whole S s n p c e is h = record {
  now = h.now;
  edits = h.edits;
  shows = h.shows;
  in_hand = h.in_hand.1;
  opens = opens_along _ _
      (id_runs W (scope_at S.scopes n) S.level S.steps c s.now S.cells.bindings (standing_tree p) is e) h.opens;
}

module _ (W : World) (sub : Standing) (whole : Answer) (S : State) (x : ℕ) (s : Bor ResolvedStrategy) (n : ℕ)
    (p : Standing) where
  abbrev both : ResolvedStrategy
  both = seq (param x) s.now

  abbrev then : Act
  then = run W (scope_at S.scopes n) S.level s.now

  along : (a : Answer) → run W (scope_at S.scopes n) S.level (param x) S.steps S.cells.bindings (standing_tree p) ≡ a
      → form W (run W) (scope_at S.scopes n) S.level both S.steps S.cells.bindings (standing_tree p) ≡ and_then a then
  along a e = ap (λ (y : Answer). and_then y then) e

  pub named_spent : S.steps ≡ 0 → FormIn W sub whole S both n p → whole ≡ stopped spent
  named_spent e h = take_stops W sub whole S both n p spent (along (stopped spent)
      (no_steps W (scope_at S.scopes n) S.level (param x) S.steps S.cells.bindings (standing_tree p) e)) h

  pub named_unknown : (c : ℕ) → S.steps ≡ c + 1 → stands_for (scope_at S.scopes n) x
      ≡ None → FormIn W sub whole S both n p → HoldsIn W sub whole (paid S c) Failed
  named_unknown c e k h = record {
    now = p;
    edits = h.edits;
    shows = h.shows;
    in_hand = tt;
    opens = opens_along _ _ (along (failed c)
        (unknown_fails W (scope_at S.scopes n) S.level x S.cells.bindings (standing_tree p) S.steps c e k)) h.opens;
  }

  module _ (known : TableClosure) (k : NameStands S.scopes n x known) where
    pub named_id_spent : S.steps ≡ 1 → known.strategy.now ≡ id → FormIn W sub whole S both n p → whole ≡ stopped spent
    named_id_spent e is h =
        take_stops W sub whole S both n p spent
        (along (stopped spent) (known_runs W (scope_at S.scopes n) S.level x S.cells.bindings (standing_tree p)
        (closure_of S.scopes known) S.steps 0 e k.1)) h

    pub named_id : (c : ℕ) → S.steps ≡ c + 2 → known.strategy.now ≡ id → FormIn W sub whole S both n p
        → HoldsIn W sub whole (paid S c) (Begin s n p)
    named_id c e is h =
        let B = S.cells.bindings in
        let t = standing_tree p in
        record {
          now = p;
          edits = h.edits;
          shows = h.shows;
          in_hand = (h.there, refl);
          opens = opens_along _ _ (along (done t B c []) (known_runs W (scope_at S.scopes n) S.level x B t
              (closure_of S.scopes known) S.steps (c + 1) (omega (arith, e)) k.1
              ∙ id_runs W (scope_at S.scopes known.written_in) S.level (c + 1) c known.strategy.now B t is refl)
              ∙ with_edits-none (then c B t)) h.opens;
        }

    -- the strategy that the name stands for starts
    pub named_begins : (c : ℕ) → S.steps ≡ c + 1 → FormIn W sub whole S both n p
        → HoldsIn W sub whole (framed (paid S c) (Then s n ∷ S.frames)) (Begin known.strategy known.written_in p)
    named_begins c e h =
        let B = S.cells.bindings in
        let t = standing_tree p in
        let first = run W (scope_at S.scopes known.written_in) S.level known.strategy.now c B t in
        record {
          now = p;
          edits = h.edits;
          shows = h.shows;
          in_hand = (k.0, refl);
          opens = opens_through _ _ (λ start base y r. (
            h.there,
            subst (Meets W sub whole S.cells (mark_of S.cells) S.scopes S.level S.frames start base)
                (with_edits-and_then y first then) r,
          ))
              (opens_along _ _ (along first
              (known_runs W (scope_at S.scopes n) S.level x B t (closure_of S.scopes known) S.steps c e k.1)) h.opens);
        }
