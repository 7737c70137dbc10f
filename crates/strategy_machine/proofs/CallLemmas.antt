-- Calls of definitions and primitives.
use Rattle.std.proofs.lemmas.Option.{slice_get-get_or}
use Rattle.std.proofs.Common.{◌≡◌, ◌<◌, get_or, ℕ, ◌+◌, List, ◌++◌, length, map, replicate, reverse, sym, ap, ◌∙◌, subst, Some, None, Bor, slice_get}
use Rattle.std.proofs.lemmas.List.{append_assoc}
use Rattle.term_core.specs.Tree.{Tree}
use Rattle.term_changes.specs.Standing.{Standing, standing_tree}
use Rattle.strategy_syntax.specs.Resolved.{ResolvedPatterns, ResolvedStrategy, ResolvedStrategies, call}
use Rattle.strategy_syntax.specs.declared.resolved.Resolved.{Resolved}
use Rattle.strategy_meaning.specs.Scopes.{cells_in, inside, numbers_from, arguments}
use Rattle.strategy_meaning.specs.Answer.{Answer, failed}
use Rattle.strategy_meaning.specs.Meaning.{World, run, form, enter, opened}
use Rattle.strategy_machine.specs.Table.{scopes, scope_at}
use Rattle.term_match.specs.CellContents.{CellContents}
use Rattle.strategy_machine.specs.inside.Arguments.{AreBuilt}
use Rattle.strategy_machine.specs.Turns.{State, state_of, HoldsIn}
use Rattle.strategy_machine.specs.inside.Taking.{FormIn}
use Rattle.strategy_machine.specs.inside.Endings.{Enters}
use Rattle.strategy_machine.specs.declared.machine.Machine.{Machine}
use Rattle.strategy_machine.specs.declared.arguments.BuiltAll.TheVariants.{All}
use Rattle.strategy_machine.specs.Hands.{Begin}
use Rattle.strategy_machine.proofs.TakeLemmas.{celled, some_is, none_is, take_opened}

pub form_cells : (W : World) (sub : Standing) (whole : Answer) (S : State) (r : ResolvedStrategy) (n : ℕ) (p : Standing)
    (D : CellContents) → D ≡ S.cells → FormIn W sub whole S r n p → FormIn W sub whole (celled S D) r n p
form_cells W sub whole S r n p D e h = subst (λ (x : CellContents). FormIn W sub whole (celled S x) r n p) (sym e) h

pub undefined_is : (W : World) (S : State) (f : ℕ) (ss : ResolvedStrategies) (ps : ResolvedPatterns) (n : ℕ)
    (p : Standing) (us : List Tree)
    → AreBuilt W.room ps (cells_in (scope_at S.scopes n)) S.cells.bindings S.level us All → slice_get W.bodies f ≡ None
    → form W (run W) (scope_at S.scopes n) S.level (call f ss ps) S.steps S.cells.bindings (standing_tree p)
    ≡ failed S.steps
undefined_is W S f ss ps n p us k e =
    k S.steps _ ∙ none_is (slice_get W.bodies f) S.steps
    (λ d. enter (run W) ss (scope_at S.scopes n) us d S.level S.steps S.cells.bindings (standing_tree p)) e

pub entered : (W : World) (sub : Standing) (whole : Answer) (m new : Machine) (f : ℕ) (ss : ResolvedStrategies)
    (ps : ResolvedPatterns) (d : Resolved) (s : Bor ResolvedStrategy) (n inner : ℕ)
    → AreBuilt W.room ps (cells_in (scope_at (scopes m.scopes) n)) m.cells.bindings m.level m.arguments.items All
    → slice_get W.bodies f ≡ Some d → s.now ≡ d.strategy
    → Enters m ss d n new inner
    → FormIn W sub whole (state_of m) (call f ss ps) n m.part
    → HoldsIn W sub whole (state_of new) (Begin s inner new.part)
entered W sub whole m new f ss ps d s n inner k e se en h =
    let p = m.part in
    let E = scope_at (scopes m.scopes) n in
    let us = m.arguments.items in
    subst (λ (q : Standing). HoldsIn W sub whole (state_of new) (Begin s inner q)) (sym en.part) (
    subst (λ (S : State). HoldsIn W sub whole S (Begin s inner p))
    (λ i. record {
      cells = new.cells;
      scopes = scopes new.scopes;
      trail = sym en.rest.0 i;
      level = sym en.rest.1 i;
      frames = reverse new.frames;
      steps = sym en.rest.2 i;
    })
    (take_opened W sub whole (state_of m) (call f ss ps) s n inner p
    (inside (numbers_from (length m.cells.bindings) (length us + d.variables)) (arguments E ss))
    (map Some us ++ replicate d.variables None) new.cells (scopes new.scopes) (reverse new.frames)
    (k m.steps _ ∙ some_is (slice_get W.bodies f) d m.steps
    (λ x. enter (run W) ss E us x m.level m.steps m.cells.bindings (standing_tree p)) e
    ∙ ap (λ (r : ResolvedStrategy).
    opened (run W) (inside (numbers_from (length m.cells.bindings) (length us + d.variables)) (arguments E ss))
    (map Some us ++ replicate d.variables None) m.level r m.steps m.cells.bindings (standing_tree p)) (sym se))
    en.there en.scope (en.cells ∙ append_assoc m.cells.bindings (map Some us) (replicate d.variables None))
    (en.room W sub whole p) h))

pub slice_there : {A : Type 0} (xs : List A) (i : ℕ) (x : A) → i < length xs → x ≡ get_or xs i x
    → slice_get xs i ≡ Some x
slice_there xs i x lt e = slice_get-get_or xs i x lt ∙ ap Some (sym e)
