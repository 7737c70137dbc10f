use Rattle.std.proofs.Common.{refl, sym, ap, ◌∙◌, ◌-◌, List, arith, subst, Bool, cond, reverse, take, Some, None}
use Rattle.term_changes.specs.Standing.{standing_tree}
use Rattle.term_match.specs.Building.{Builds}
use Rattle.term_match.specs.CellContents.{CellContents}
use Rattle.term_match.specs.Marks.{mark_of, Before, Stays}
use Rattle.term_match.specs.declared.building.Built.{Built}
use Rattle.term_match.specs.declared.cells.Mark.{Mark}
use Rattle.strategy_meaning.specs.Matching.{match_pattern, build_pattern}
use Rattle.strategy_meaning.specs.Scopes.{Scope, cells_in, with_variables}
use Rattle.strategy_meaning.specs.Laws.{in_room}
use Rattle.strategy_machine.specs.Table.{scopes, scope_at, scope_from}
use Rattle.strategy_machine.specs.declared.heads.RootMatch.{RootMatch}
use Rattle.strategy_machine.specs.inside.Missing.{Shows}
use Rattle.strategy_machine.specs.Turns.{State, state_of, HoldsIn}
use Rattle.strategy_machine.specs.Hands.{Begin}
use Rattle.strategy_machine.proofs.ArgumentLemmas.{stays_on}
use Rattle.strategy_machine.proofs.OpenLemmas.{before_self, before_on, stays_self}
use Rattle.strategy_machine.proofs.ScopeLemmas.{one_more_is}
use Rattle.strategy_machine.proofs.HeadLemmas.{take_passed}
use Rattle.strategy_machine.proofs.RuleLemmas.{cells_end, scopes_end}
use Rattle.strategy_machine.proofs.ChoiceLemmas.{goes_back, or_few, or_unmatched, or_matched_few, or_unbuilt, or_big, or_built}
use Rattle.strategy_machine.proofs.choices.rule_or.Goals as goal

pub returns-then-m-rule-clause-ok : goal.returns-then-m-rule-clause-ok
returns-then-m-rule-clause-ok c = λ V s k. let W = in_room c.args.room V in record {
  keeps = λ sub whole h. or_few W sub whole (state_of c.args.m.now) s c.args.second c.args.other c.args.scope
      c.args.m.now.part c.args.rule k (omega (arith, c.if-m-rule.true)) h;
}

pub returns-in-Misses-clause-ok : goal.returns-in-Misses-clause-ok
returns-in-Misses-clause-ok c = λ V s k. let W = in_room c.args.room V in record {
  keeps = λ sub whole h. c.goes_on.ensures.keeps W sub whole
      (take_passed W sub whole (state_of c.args.m.now) c.args.other _ c.args.scope c.args.m.now.part
      (c.args.m.now.steps - c.args.rule.price) _ c.after_rules-passed.ensures.same
      (or_unmatched W sub whole (state_of c.args.m.now) s c.args.second c.args.other c.args.scope c.args.m.now.part
      c.args.rule k c.args.m.now.cells (c.args.m.now.steps - c.args.rule.price)
      (record {
        later = before_self (mark_of c.args.m.now.cells);
        stays = stays_self (mark_of c.args.m.now.cells) c.args.m.now.cells;
        bindings = refl;
      }) (omega (arith, c.if-m-rule.false))
      ((subst (λ (r : RootMatch). Shows r c.args.rule.left.now (standing_tree c.args.m.now.part)) c.in-Misses.is
      c.glance-shown.ensures).never _ _) h));
}

pub returns-then-not-matched-clause-ok : goal.returns-then-not-matched-clause-ok
returns-then-not-matched-clause-ok c =
    let there = one_more_is _ _ _ c.in_ok-inner.ensures.number c.in_ok-inner.ensures.ok
    ∙ ap (λ k. with_variables (scope_from (scopes c.args.m.now.scopes) c.args.rule.outer) k c.args.rule.count)
    c.count-first.ensures in
    let found =
    (λ i. match_pattern c.args.rule.left.now (standing_tree c.args.m.now.part) (cells_in (sym there i))
    (sym c.in_ok-open_cells.ensures.ok i)) ∙ c.in_ok-matched.ensures.ok
    ∙ ap (λ (b : Bool). cond b (Some c.matches_shown-found.new.cells.bindings) None) c.if-not-matched.true in
    let back = goes_back c.args.m.now.cells c.matches_shown-found.new.cells c.back_to.new.self c.mark-mark.result
    c.mark-mark.ensures.result c.mark-mark.ensures.kept
    (stays_on c.args.m.now.cells c.open_cells.new.self c.matches_shown-found.new.cells c.open_cells.ensures.later
    c.open_cells.ensures.stays c.matches_shown-found.ensures.stays) c.back_to.ensures.cells c.back_to.ensures.mark
    c.back_to.ensures.stays in
    let cut = scopes_end (scopes c.args.m.now.scopes) (scopes c.add_variables.new.self) (scopes c.cut.new.self) _
    c.count-scopes.result c.in_ok-inner.ensures.ok c.count-scopes.ensures c.cut.ensures in
    λ V s k. let W = in_room c.args.room V in record {
      keeps = λ sub whole h. c.goes_on-then-not-matched.ensures.keeps W sub whole
          (subst (λ (es : List Scope). HoldsIn W sub whole (record {
            cells = c.back_to.new.self;
            scopes = es;
            trail = c.args.m.now.trail;
            level = c.args.m.now.level;
            frames = reverse c.args.m.now.frames;
            steps = c.args.m.now.steps - c.args.rule.price;
          }) (Begin c.args.other c.args.scope c.args.m.now.part)) (sym cut)
          (or_unmatched W sub whole (state_of c.args.m.now) s c.args.second c.args.other c.args.scope c.args.m.now.part
          c.args.rule k c.back_to.new.self (c.args.m.now.steps - c.args.rule.price) back
          (omega (arith, c.if-m-rule.false)) found h));
    }

pub back_to-requires : goal.back_to-requires
back_to-requires c =
    subst (λ (x : Mark). Before x (mark_of c.matches_shown-found.new.cells)) (sym c.mark-mark.ensures.result)
    (before_on (mark_of c.args.m.now.cells) (mark_of c.open_cells.new.self) (mark_of c.matches_shown-found.new.cells)
    c.open_cells.ensures.later c.matches_shown-found.ensures.later)

pub returns-then-m-eq0-clause-ok : goal.returns-then-m-eq0-clause-ok
returns-then-m-eq0-clause-ok c =
    let there = one_more_is _ _ _ c.in_ok-inner.ensures.number c.in_ok-inner.ensures.ok
    ∙ ap (λ k. with_variables (scope_from (scopes c.args.m.now.scopes) c.args.rule.outer) k c.args.rule.count)
    c.count-first.ensures in
    let found =
    (λ i. match_pattern c.args.rule.left.now (standing_tree c.args.m.now.part) (cells_in (sym there i))
    (sym c.in_ok-open_cells.ensures.ok i)) ∙ c.in_ok-matched.ensures.ok
    ∙ ap (λ (b : Bool). cond b (Some c.matches_shown-found.new.cells.bindings) None) c.if-not-matched.false in
    λ V s k. let W = in_room c.args.room V in record {
      keeps = λ sub whole h. or_matched_few W sub whole (state_of c.args.m.now) s c.args.second c.args.other
          c.args.scope c.args.m.now.part c.args.rule k c.matches_shown-found.new.cells.bindings found
          (omega (arith, c.if-m-rule.false, c.if-m-eq0.true)) h;
    }

pub returns-in-Nothing-clause-ok : goal.returns-in-Nothing-clause-ok
returns-in-Nothing-clause-ok c =
    let there = one_more_is _ _ _ c.in_ok-inner.ensures.number c.in_ok-inner.ensures.ok
    ∙ ap (λ k. with_variables (scope_from (scopes c.args.m.now.scopes) c.args.rule.outer) k c.args.rule.count)
    c.count-first.ensures in
    let found =
    (λ i. match_pattern c.args.rule.left.now (standing_tree c.args.m.now.part) (cells_in (sym there i))
    (sym c.in_ok-open_cells.ensures.ok i)) ∙ c.in_ok-matched.ensures.ok
    ∙ ap (λ (b : Bool). cond b (Some c.matches_shown-found.new.cells.bindings) None) c.if-not-matched.false in
    let same = c.build.ensures.same in
    let is = subst (λ (o : Built). Builds
    (build_pattern c.args.rule.right.now (cells_in (scope_at (scopes c.add_variables.new.self) c.in_ok-inner.inner))
    c.matches_shown-found.new.cells.bindings) c.args.room c.args.m.now.level o) c.in-Nothing.is
    c.in_ok-built.ensures.ok in
    let other =
    ap (λ (E : Scope). build_pattern c.args.rule.right.now (cells_in E) c.matches_shown-found.new.cells.bindings)
    (sym there) in
    let back = goes_back c.args.m.now.cells c.build.new.self c.back_to-in-Nothing.new.self c.mark-mark.result
    c.mark-mark.ensures.result c.mark-mark.ensures.kept
    (subst (λ (C : CellContents). Stays (mark_of c.args.m.now.cells) c.args.m.now.cells C) (sym same)
    (stays_on c.args.m.now.cells c.open_cells.new.self c.matches_shown-found.new.cells c.open_cells.ensures.later
    c.open_cells.ensures.stays c.matches_shown-found.ensures.stays)) c.back_to-in-Nothing.ensures.cells
    c.back_to-in-Nothing.ensures.mark c.back_to-in-Nothing.ensures.stays in
    let cut = scopes_end (scopes c.args.m.now.scopes) (scopes c.add_variables.new.self) (scopes c.cut-2.new.self) _
    c.count-scopes.result c.in_ok-inner.ensures.ok c.count-scopes.ensures c.cut-2.ensures in
    λ V s k. let W = in_room c.args.room V in record {
      keeps = λ sub whole h.
          c.goes_on-in-Nothing.ensures.keeps W sub whole (subst (λ (es : List Scope). HoldsIn W sub whole (record {
            cells = c.back_to-in-Nothing.new.self;
            scopes = es;
            trail = c.args.m.now.trail;
            level = c.args.m.now.level;
            frames = reverse c.args.m.now.frames;
            steps = c.args.m.now.steps - c.args.rule.price - 1;
          }) (Begin c.args.other c.args.scope c.args.m.now.part)) (sym cut)
          (or_unbuilt W sub whole (state_of c.args.m.now) s c.args.second c.args.other c.args.scope c.args.m.now.part
          c.args.rule k c.matches_shown-found.new.cells.bindings found c.back_to-in-Nothing.new.self (c.args.m.now.steps
          - c.args.rule.price - 1) back (omega (arith, c.if-m-rule.false, c.if-m-eq0.false)) (other ∙ is) h));
    }

pub back_to-requires-in-Nothing : goal.back_to-requires-in-Nothing
back_to-requires-in-Nothing c =
    subst (λ (C : CellContents). Before c.mark-mark.result (mark_of C)) (sym c.build.ensures.same)
    (subst (λ (x : Mark). Before x (mark_of c.matches_shown-found.new.cells)) (sym c.mark-mark.ensures.result)
    (before_on (mark_of c.args.m.now.cells) (mark_of c.open_cells.new.self) (mark_of c.matches_shown-found.new.cells)
    c.open_cells.ensures.later c.matches_shown-found.ensures.later))

pub returns-in-Big-clause-ok : goal.returns-in-Big-clause-ok
returns-in-Big-clause-ok c =
    let there = one_more_is _ _ _ c.in_ok-inner.ensures.number c.in_ok-inner.ensures.ok
    ∙ ap (λ k. with_variables (scope_from (scopes c.args.m.now.scopes) c.args.rule.outer) k c.args.rule.count)
    c.count-first.ensures in
    let found =
    (λ i. match_pattern c.args.rule.left.now (standing_tree c.args.m.now.part) (cells_in (sym there i))
    (sym c.in_ok-open_cells.ensures.ok i)) ∙ c.in_ok-matched.ensures.ok
    ∙ ap (λ (b : Bool). cond b (Some c.matches_shown-found.new.cells.bindings) None) c.if-not-matched.false in
    let same = c.build.ensures.same in
    let is = subst (λ (o : Built). Builds
    (build_pattern c.args.rule.right.now (cells_in (scope_at (scopes c.add_variables.new.self) c.in_ok-inner.inner))
    c.matches_shown-found.new.cells.bindings) c.args.room c.args.m.now.level o) c.in-Big.is c.in_ok-built.ensures.ok in
    let other =
    ap (λ (E : Scope). build_pattern c.args.rule.right.now (cells_in E) c.matches_shown-found.new.cells.bindings)
    (sym there) in
    λ V s k. let W = in_room c.args.room V in record {
      keeps = λ sub whole h.
          or_big W sub whole (state_of c.args.m.now) s c.args.second c.args.other c.args.scope c.args.m.now.part
          c.args.rule k c.matches_shown-found.new.cells.bindings found (c.args.m.now.steps - c.args.rule.price - 1) is.0
          (omega (arith, c.if-m-rule.false, c.if-m-eq0.false)) (other ∙ is.1) is.2 h;
    }

pub returns-in_ok-replace-in-Value-clause-ok : goal.returns-in_ok-replace-in-Value-clause-ok
returns-in_ok-replace-in-Value-clause-ok c =
    let there = one_more_is _ _ _ c.in_ok-inner.ensures.number c.in_ok-inner.ensures.ok
    ∙ ap (λ k. with_variables (scope_from (scopes c.args.m.now.scopes) c.args.rule.outer) k c.args.rule.count)
    c.count-first.ensures in
    let found =
    (λ i. match_pattern c.args.rule.left.now (standing_tree c.args.m.now.part) (cells_in (sym there i))
    (sym c.in_ok-open_cells.ensures.ok i)) ∙ c.in_ok-matched.ensures.ok
    ∙ ap (λ (b : Bool). cond b (Some c.matches_shown-found.new.cells.bindings) None) c.if-not-matched.false in
    let same = c.build.ensures.same in
    let is = subst (λ (o : Built). Builds
    (build_pattern c.args.rule.right.now (cells_in (scope_at (scopes c.add_variables.new.self) c.in_ok-inner.inner))
    c.matches_shown-found.new.cells.bindings) c.args.room c.args.m.now.level o) c.in-Value.is
    c.in_ok-built.ensures.ok in
    let other =
    ap (λ (E : Scope). build_pattern c.args.rule.right.now (cells_in E) c.matches_shown-found.new.cells.bindings)
    (sym there) in
    let ended = cells_end c.args.m.now.cells c.open_cells.new.self c.build.new.self c.close_to.new.self
    c.count-first.result c.count-first.ensures c.open_cells.ensures.later c.open_cells.ensures.stays
    (subst (λ (C : CellContents). Before (mark_of c.open_cells.new.self) (mark_of C)) (sym same)
    c.matches_shown-found.ensures.later)
    (subst (λ (C : CellContents). Stays (mark_of c.open_cells.new.self) c.open_cells.new.self C) (sym same)
    c.matches_shown-found.ensures.stays) c.close_to.ensures.later c.close_to.ensures.stays in
    let cut = scopes_end (scopes c.args.m.now.scopes) (scopes c.add_variables.new.self) (scopes c.cut-2.new.self) _
    c.count-scopes.result c.in_ok-inner.ensures.ok c.count-scopes.ensures c.cut-2.ensures in
    let z = c.in_ok-replace-in-Value.ensures in
    λ V s k. let W = in_room c.args.room V in record {
      keeps = λ sub whole h. c.goes_on-in-Value.ensures.keeps W sub whole
          (subst (λ (S : State). HoldsIn W sub whole S (Begin c.args.second c.args.scope c.replace.new.m.part))
          (λ i. record {
            cells = sym z.rest.1 i;
            scopes = (sym cut ∙ ap scopes (sym z.rest.2)) i;
            trail = c.replace.new.m.trail;
            level = sym z.rest.3 i;
            frames = reverse (sym z.rest.0 i);
            steps = sym z.rest.4 i;
          })
          (or_built W sub whole (state_of c.args.m.now) s c.args.second c.args.other c.args.scope c.args.m.now.part
          c.args.rule k c.matches_shown-found.new.cells.bindings found c.close_to.new.self
          (c.args.m.now.steps - c.args.rule.price - 1) c.in-Value.value c.replace.new.m.part c.replace.new.m.trail
          ended.0 ended.1
          (c.close_to.ensures.cells ∙ (λ i. take (c.count-first.ensures i) (same i).bindings))
          (omega (arith, c.if-m-rule.false, c.if-m-eq0.false)) (other ∙ is.0) is.1 z.part z.shows h));
    }
