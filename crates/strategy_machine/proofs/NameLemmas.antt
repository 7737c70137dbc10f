-- What names stand for, and calls that open nothing.
use Rattle.std.proofs.Common.{◌≡◌, ◌<◌, ℕ, ◌+◌, List, [], ◌++◌, length, map, replicate, sym, ap, ◌∙◌, subst, Some, None, MatchOption, Bor, slice_get}
use Rattle.std.specs.Prelude.{IfSome}
use Rattle.std.proofs.lemmas.List.{append-nil}
use Rattle.std.specs.declared.option.Option.{Option}
use Rattle.term_core.specs.Tree.{Tree}
use Rattle.term_changes.specs.Standing.{Standing, standing_tree}
use Rattle.strategy_syntax.specs.Resolved.{ResolvedPatterns, no_resolved_patterns, ResolvedStrategy, ResolvedStrategies, param, call}
use Rattle.strategy_syntax.specs.declared.resolved.Resolved.{Resolved}
use Rattle.strategy_meaning.specs.Scopes.{Scope, inside, stands_for, numbers_from, arguments}
use Rattle.strategy_meaning.specs.Matching.{Bindings}
use Rattle.strategy_meaning.specs.Answer.{Answer, stopped, spent}
use Rattle.strategy_meaning.specs.Meaning.{World, run, form, cut, enter}
use Rattle.strategy_machine.specs.Table.{scope_at, NameStands, closure_of}
use Rattle.strategy_machine.specs.declared.scopes.Closure.{Closure as TableClosure}
use Rattle.term_match.specs.Marks.{mark_of}
use Rattle.strategy_machine.specs.Trails.{path_of}
use Rattle.strategy_machine.specs.Frames.{Opens, Meets}
use Rattle.strategy_machine.specs.Turns.{State, HoldsIn}
use Rattle.strategy_machine.specs.Hands.{Begin}
use Rattle.strategy_machine.specs.inside.Taking.{FormIn}
use Rattle.strategy_machine.specs.inside.Names.{Runs, ComesTo, IsSpent}
use Rattle.strategy_machine.proofs.LengthLemmas.{run_has, cut_none}
use Rattle.strategy_machine.proofs.OpenLemmas.{opens_along, meets_stopped}
use Rattle.strategy_machine.proofs.TakeLemmas.{some_is, paid}

pub some_map : {A : Type 0} {Q R : A → Type 0} (P : Type 0) (o : Option A) → ((x : A) → Q x → R x) → MatchOption o P Q
    → IfSome o R
some_map P (Some x) f h = f x h
some_map P None f h = tt

pub if_map : {A : Type 0} {Q R : A → Type 0} (o : Option A) → ((x : A) → Q x → R x) → IfSome o Q → IfSome o R
if_map (Some x) f h = f x h
if_map None f h = tt

-- the same of an equal form
pub runs_as : (W : World) (es : List Scope) (r q : ResolvedStrategy) (n : ℕ) (s : ResolvedStrategy) (k : ℕ)
    → r ≡ q → Runs W es q n s k → Runs W es r n s k
runs_as W es r q n s k e h = subst (λ (x : ResolvedStrategy). Runs W es x n s k) (sym e) h

pub name_runs : (W : World) (es : List Scope) (x n : ℕ) (known : TableClosure) → NameStands es n x known
    → Runs W es (param x) n known.strategy.now known.written_in
name_runs W es x n known k = record {
  there = k.0;
  is = λ l c B t.
      some_is (stands_for (scope_at es n) x) (closure_of es known) c (λ z. run W z.written_in l z.strategy c B t) k.1;
}

pub body_runs : (W : World) (es : List Scope) (f : ℕ) (ss : ResolvedStrategies) (ps : ResolvedPatterns)
    (d : Resolved) (n k : ℕ)
    → ps ≡ no_resolved_patterns → slice_get W.bodies f ≡ Some d → d.variables ≡ 0 → k < length es
    → scope_at es k ≡ inside [] (arguments (scope_at es n) ss) → Runs W es (call f ss ps) n d.strategy k
body_runs W es f ss ps d n k none there v lt is = record {
  there = lt;
  is = λ l c B t.
      let E = arguments (scope_at es n) ss in
      let us : List Tree = [] in
      ap (λ (qs : ResolvedPatterns). form W (run W) (scope_at es n) l (call f ss qs) c B t) none
      ∙ some_is (slice_get W.bodies f) d c (λ x. enter (run W) ss (scope_at es n) us x l c B t) there
      ∙ ap (λ (j : ℕ). cut (length B) (run W (inside (numbers_from (length B) (length us + j)) E) l d.strategy c
      (B ++ (map Some us ++ replicate j None)) t)) v
      ∙ ap (λ (C : Bindings). cut (length B) (run W (inside [] E) l d.strategy c C t)) (append-nil B)
      ∙ ap (λ (F : Scope). cut (length B) (run W F l d.strategy c B t)) (sym is)
      ∙ cut_none (length B) _ (run_has W (scope_at es k) l d.strategy c B t);
}

-- ---- where a strategy starts

pub starts_form : (W : World) (sub : Standing) (whole : Answer) (S : State) (s q : Bor ResolvedStrategy) (n k : ℕ)
    (p : Standing) (c : ℕ)
    → ComesTo W S.scopes s.now n S.steps q.now k c → HoldsIn W sub whole S (Begin s n p)
    → FormIn W sub whole (paid S c) q.now k p
starts_form W sub whole S s q n k p c e h = record {
  edits = h.edits;
  shows = h.shows;
  there = e.there;
  opens = subst (λ x. Opens (Meets W sub whole S.cells (mark_of S.cells) S.scopes S.level S.frames) (path_of S.frames) x
      h.edits (form W (run W) (scope_at S.scopes k) S.level q.now c S.cells.bindings (standing_tree p))) h.in_hand.1
      (opens_along _ _ (e.is S.level S.cells.bindings (standing_tree p)) h.opens);
}

pub starts_spent : (W : World) (sub : Standing) (whole : Answer) (S : State) (s : Bor ResolvedStrategy) (n : ℕ)
    (p : Standing)
    → IsSpent W S.scopes s.now n S.steps → HoldsIn W sub whole S (Begin s n p) → whole ≡ stopped spent
starts_spent W sub whole S s n p e h =
    let o = opens_along _ _ (e S.level S.cells.bindings (standing_tree p)) h.opens in
    meets_stopped W sub whole S.cells (mark_of S.cells) S.scopes S.level S.frames o.start o.base spent o.is
