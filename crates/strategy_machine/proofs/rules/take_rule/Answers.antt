use Rattle.std.proofs.Common.{sym, ap, ◌∙◌, ◌-◌, List, arith, subst, Bool, cond, reverse, take, Some, None}
use Rattle.term_changes.specs.Standing.{standing_tree}
use Rattle.term_match.specs.Building.{Builds}
use Rattle.term_match.specs.CellContents.{CellContents}
use Rattle.term_match.specs.Marks.{mark_of, Before, Stays}
use Rattle.term_match.specs.declared.building.Built.{Built}
use Rattle.strategy_meaning.specs.Matching.{match_pattern, build_pattern}
use Rattle.strategy_meaning.specs.Scopes.{Scope, cells_in, with_variables}
use Rattle.strategy_meaning.specs.Laws.{in_room}
use Rattle.strategy_machine.specs.Table.{scopes, scope_at}
use Rattle.strategy_machine.specs.Turns.{State, state_of, HoldsIn}
use Rattle.strategy_machine.specs.Hands.{Done, Failed}
use Rattle.strategy_machine.proofs.ScopeLemmas.{one_more_is}
use Rattle.strategy_machine.proofs.RuleLemmas.{rule_few, rule_unmatched, rule_matched_few, rule_unbuilt, rule_big, rule_built, cells_end, scopes_end}
use Rattle.strategy_machine.proofs.rules.take_rule.Goals as goal

pub returns-then-m-lt2-clause-ok : goal.returns-then-m-lt2-clause-ok
returns-then-m-lt2-clause-ok c = λ V. let W = in_room c.args.room V in record {
  keeps = λ sub whole h. rule_few W sub whole (state_of c.args.m.now) c.args.count c.args.left.now c.args.right.now
      c.args.scope c.args.m.now.part (omega (arith, c.if-m-lt2.true)) h;
}

pub returns-then-not-matched-clause-ok : goal.returns-then-not-matched-clause-ok
returns-then-not-matched-clause-ok c =
    let there = one_more_is _ _ _ c.in_ok-inner.ensures.number c.in_ok-inner.ensures.ok
    ∙ ap (λ k. with_variables (scope_at (scopes c.args.m.now.scopes) c.args.scope) k c.args.count)
    c.count-first.ensures in
    let found =
    (λ i. match_pattern c.args.left.now (standing_tree c.args.m.now.part) (cells_in (sym there i))
    (sym c.in_ok-open_cells.ensures.ok i)) ∙ c.in_ok-matched.ensures.ok
    ∙ ap (λ (b : Bool). cond b (Some c.matches_shown-found.new.cells.bindings) None) c.if-not-matched.true in
    let ended = cells_end c.args.m.now.cells c.open_cells.new.self c.matches_shown-found.new.cells c.close_to.new.self
    c.count-first.result c.count-first.ensures c.open_cells.ensures.later c.open_cells.ensures.stays
    c.matches_shown-found.ensures.later c.matches_shown-found.ensures.stays c.close_to.ensures.later
    c.close_to.ensures.stays in
    let cut = scopes_end (scopes c.args.m.now.scopes) (scopes c.add_variables.new.self) (scopes c.cut.new.self) _
    c.count-scopes.result c.in_ok-inner.ensures.ok c.count-scopes.ensures c.cut.ensures in
    λ V. let W = in_room c.args.room V in record {
      keeps =
          λ sub whole h. c.fails.ensures.keeps W sub whole (subst (λ (es : List Scope). HoldsIn W sub whole (record {
            cells = c.close_to.new.self;
            scopes = es;
            trail = c.args.m.now.trail;
            level = c.args.m.now.level;
            frames = reverse c.args.m.now.frames;
            steps = c.args.m.now.steps - 2;
          }) Failed) (sym cut)
          (rule_unmatched W sub whole (state_of c.args.m.now) c.args.count c.args.left.now c.args.right.now c.args.scope
          c.args.m.now.part c.close_to.new.self (c.args.m.now.steps - 2) ended.0 ended.1
          (omega (arith, c.if-m-lt2.false)) found h));
    }

pub returns-then-m-eq0-clause-ok : goal.returns-then-m-eq0-clause-ok
returns-then-m-eq0-clause-ok c =
    let there = one_more_is _ _ _ c.in_ok-inner.ensures.number c.in_ok-inner.ensures.ok
    ∙ ap (λ k. with_variables (scope_at (scopes c.args.m.now.scopes) c.args.scope) k c.args.count)
    c.count-first.ensures in
    let found =
    (λ i. match_pattern c.args.left.now (standing_tree c.args.m.now.part) (cells_in (sym there i))
    (sym c.in_ok-open_cells.ensures.ok i)) ∙ c.in_ok-matched.ensures.ok
    ∙ ap (λ (b : Bool). cond b (Some c.matches_shown-found.new.cells.bindings) None) c.if-not-matched.false in
    λ V. let W = in_room c.args.room V in record {
      keeps = λ sub whole h. rule_matched_few W sub whole (state_of c.args.m.now) c.args.count c.args.left.now
          c.args.right.now c.args.scope c.args.m.now.part c.matches_shown-found.new.cells.bindings found
          (omega (arith, c.if-m-lt2.false, c.if-m-eq0.true)) h;
    }

pub returns-in-Nothing-clause-ok : goal.returns-in-Nothing-clause-ok
returns-in-Nothing-clause-ok c =
    let there = one_more_is _ _ _ c.in_ok-inner.ensures.number c.in_ok-inner.ensures.ok
    ∙ ap (λ k. with_variables (scope_at (scopes c.args.m.now.scopes) c.args.scope) k c.args.count)
    c.count-first.ensures in
    let found =
    (λ i. match_pattern c.args.left.now (standing_tree c.args.m.now.part) (cells_in (sym there i))
    (sym c.in_ok-open_cells.ensures.ok i)) ∙ c.in_ok-matched.ensures.ok
    ∙ ap (λ (b : Bool). cond b (Some c.matches_shown-found.new.cells.bindings) None) c.if-not-matched.false in
    let same = c.build.ensures.same in
    let is = subst (λ (o : Built). Builds
    (build_pattern c.args.right.now (cells_in (scope_at (scopes c.add_variables.new.self) c.in_ok-inner.inner))
    c.matches_shown-found.new.cells.bindings) c.args.room c.args.m.now.level o) c.in-Nothing.is
    c.in_ok-built.ensures.ok in
    let other = ap (λ (E : Scope). build_pattern c.args.right.now (cells_in E) c.matches_shown-found.new.cells.bindings)
    (sym there) in
    let ended = cells_end c.args.m.now.cells c.open_cells.new.self c.build.new.self c.close_to-2.new.self
    c.count-first.result c.count-first.ensures c.open_cells.ensures.later c.open_cells.ensures.stays
    (subst (λ (C : CellContents). Before (mark_of c.open_cells.new.self) (mark_of C)) (sym same)
    c.matches_shown-found.ensures.later)
    (subst (λ (C : CellContents). Stays (mark_of c.open_cells.new.self) c.open_cells.new.self C) (sym same)
    c.matches_shown-found.ensures.stays) c.close_to-2.ensures.later c.close_to-2.ensures.stays in
    let cut = scopes_end (scopes c.args.m.now.scopes) (scopes c.add_variables.new.self) (scopes c.cut-2.new.self) _
    c.count-scopes.result c.in_ok-inner.ensures.ok c.count-scopes.ensures c.cut-2.ensures in
    λ V. let W = in_room c.args.room V in record {
      keeps = λ sub whole h.
          c.fails-in-Nothing.ensures.keeps W sub whole (subst (λ (es : List Scope). HoldsIn W sub whole (record {
            cells = c.close_to-2.new.self;
            scopes = es;
            trail = c.args.m.now.trail;
            level = c.args.m.now.level;
            frames = reverse c.args.m.now.frames;
            steps = c.args.m.now.steps - 2 - 1;
          }) Failed) (sym cut)
          (rule_unbuilt W sub whole (state_of c.args.m.now) c.args.count c.args.left.now c.args.right.now c.args.scope
          c.args.m.now.part c.matches_shown-found.new.cells.bindings found c.close_to-2.new.self (c.args.m.now.steps - 2
          - 1) ended.0 ended.1 (omega (arith, c.if-m-lt2.false, c.if-m-eq0.false)) (other ∙ is) h));
    }

pub returns-in-Big-clause-ok : goal.returns-in-Big-clause-ok
returns-in-Big-clause-ok c =
    let there = one_more_is _ _ _ c.in_ok-inner.ensures.number c.in_ok-inner.ensures.ok
    ∙ ap (λ k. with_variables (scope_at (scopes c.args.m.now.scopes) c.args.scope) k c.args.count)
    c.count-first.ensures in
    let found =
    (λ i. match_pattern c.args.left.now (standing_tree c.args.m.now.part) (cells_in (sym there i))
    (sym c.in_ok-open_cells.ensures.ok i)) ∙ c.in_ok-matched.ensures.ok
    ∙ ap (λ (b : Bool). cond b (Some c.matches_shown-found.new.cells.bindings) None) c.if-not-matched.false in
    let same = c.build.ensures.same in
    let is = subst (λ (o : Built). Builds
    (build_pattern c.args.right.now (cells_in (scope_at (scopes c.add_variables.new.self) c.in_ok-inner.inner))
    c.matches_shown-found.new.cells.bindings) c.args.room c.args.m.now.level o) c.in-Big.is c.in_ok-built.ensures.ok in
    let other = ap (λ (E : Scope). build_pattern c.args.right.now (cells_in E) c.matches_shown-found.new.cells.bindings)
    (sym there) in
    λ V. let W = in_room c.args.room V in record {
      keeps = λ sub whole h. rule_big W sub whole (state_of c.args.m.now) c.args.count c.args.left.now c.args.right.now
          c.args.scope c.args.m.now.part c.matches_shown-found.new.cells.bindings found
          (c.args.m.now.steps - 2 - 1) is.0 (omega (arith, c.if-m-lt2.false, c.if-m-eq0.false)) (other ∙ is.1) is.2 h;
    }

pub returns-in_ok-replace-in-Value-clause-ok : goal.returns-in_ok-replace-in-Value-clause-ok
returns-in_ok-replace-in-Value-clause-ok c =
    let there = one_more_is _ _ _ c.in_ok-inner.ensures.number c.in_ok-inner.ensures.ok
    ∙ ap (λ k. with_variables (scope_at (scopes c.args.m.now.scopes) c.args.scope) k c.args.count)
    c.count-first.ensures in
    let found =
    (λ i. match_pattern c.args.left.now (standing_tree c.args.m.now.part) (cells_in (sym there i))
    (sym c.in_ok-open_cells.ensures.ok i)) ∙ c.in_ok-matched.ensures.ok
    ∙ ap (λ (b : Bool). cond b (Some c.matches_shown-found.new.cells.bindings) None) c.if-not-matched.false in
    let same = c.build.ensures.same in
    let is = subst (λ (o : Built). Builds
    (build_pattern c.args.right.now (cells_in (scope_at (scopes c.add_variables.new.self) c.in_ok-inner.inner))
    c.matches_shown-found.new.cells.bindings) c.args.room c.args.m.now.level o) c.in-Value.is
    c.in_ok-built.ensures.ok in
    let other = ap (λ (E : Scope). build_pattern c.args.right.now (cells_in E) c.matches_shown-found.new.cells.bindings)
    (sym there) in
    let ended = cells_end c.args.m.now.cells c.open_cells.new.self c.build.new.self c.close_to-2.new.self
    c.count-first.result c.count-first.ensures c.open_cells.ensures.later c.open_cells.ensures.stays
    (subst (λ (C : CellContents). Before (mark_of c.open_cells.new.self) (mark_of C)) (sym same)
    c.matches_shown-found.ensures.later)
    (subst (λ (C : CellContents). Stays (mark_of c.open_cells.new.self) c.open_cells.new.self C) (sym same)
    c.matches_shown-found.ensures.stays) c.close_to-2.ensures.later c.close_to-2.ensures.stays in
    let cut = scopes_end (scopes c.args.m.now.scopes) (scopes c.add_variables.new.self) (scopes c.cut-2.new.self) _
    c.count-scopes.result c.in_ok-inner.ensures.ok c.count-scopes.ensures c.cut-2.ensures in
    let k = c.in_ok-replace-in-Value.ensures in
    λ V. let W = in_room c.args.room V in record {
      keeps = λ sub whole h.
          c.gives.ensures.keeps W sub whole (subst (λ (S : State). HoldsIn W sub whole S (Done c.replace.new.m.part))
          (λ i. record {
            cells = sym k.rest.1 i;
            scopes = (sym cut ∙ ap scopes (sym k.rest.2)) i;
            trail = c.replace.new.m.trail;
            level = sym k.rest.3 i;
            frames = reverse (sym k.rest.0 i);
            steps = sym k.rest.4 i;
          })
          (rule_built W sub whole (state_of c.args.m.now) c.args.count c.args.left.now c.args.right.now c.args.scope
          c.args.m.now.part c.matches_shown-found.new.cells.bindings found c.close_to-2.new.self
          (c.args.m.now.steps - 2 - 1) c.in-Value.value c.replace.new.m.part c.replace.new.m.trail ended.0 ended.1
          (c.close_to-2.ensures.cells ∙ (λ i. take (c.count-first.ensures i) (same i).bindings))
          (omega (arith, c.if-m-lt2.false, c.if-m-eq0.false)) (other ∙ is.0) is.1 k.part k.shows h));
    }
