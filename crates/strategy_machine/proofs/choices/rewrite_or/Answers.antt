use Rattle.std.proofs.Common.{refl, sym, ap, ◌∙◌, ◌-◌, arith, subst, Bool, cond, reverse, Some, None}
use Rattle.term_match.specs.Building.{Builds}
use Rattle.term_match.specs.CellContents.{CellContents}
use Rattle.term_match.specs.Marks.{mark_of, Stays}
use Rattle.term_match.specs.declared.building.Built.{Built}
use Rattle.strategy_meaning.specs.Matching.{build_pattern}
use Rattle.strategy_meaning.specs.Scopes.{cells_in}
use Rattle.strategy_meaning.specs.Laws.{in_room}
use Rattle.strategy_machine.specs.Table.{scopes, scope_at}
use Rattle.strategy_machine.specs.Turns.{State, state_of, HoldsIn}
use Rattle.strategy_machine.specs.Hands.{Begin}
use Rattle.strategy_machine.proofs.OpenLemmas.{before_self, stays_self}
use Rattle.strategy_machine.proofs.ChoiceLemmas.{GoesBack, goes_back, choice_few, choice_unmatched, choice_matched_few, choice_unbuilt, choice_big, choice_built}
use Rattle.strategy_machine.proofs.choices.rewrite_or.Goals as goal

pub returns-then-m-lt2-clause-ok : goal.returns-then-m-lt2-clause-ok
returns-then-m-lt2-clause-ok c = λ V. let W = in_room c.args.room V in record {
  keeps = λ sub whole h. choice_few W sub whole (state_of c.args.m.now) c.args.left.now c.args.right.now c.args.second
      c.args.other c.args.scope c.args.m.now.part (omega (arith, c.if-m-lt2.true)) h;
}

pub returns-then-not-matched-clause-ok : goal.returns-then-not-matched-clause-ok
returns-then-not-matched-clause-ok c =
    let found = c.in_ok-matched.ensures.ok
    ∙ ap (λ (b : Bool). cond b (Some c.matches_shown-found.new.cells.bindings) None) c.if-not-matched.true in
    let back =
    subst (λ (C : CellContents). GoesBack c.args.m.now.cells C) (sym (c.in_ok-matched.ensures.no c.if-not-matched.true))
    (record {
      later = before_self (mark_of c.args.m.now.cells);
      stays = stays_self (mark_of c.args.m.now.cells) c.args.m.now.cells;
      bindings = refl;
    }) in
    λ V. let W = in_room c.args.room V in record {
      keeps = λ sub whole h. c.goes_on.ensures.keeps W sub whole (choice_unmatched W sub whole (state_of c.args.m.now)
          c.args.left.now c.args.right.now c.args.second c.args.other c.args.scope c.args.m.now.part
          c.matches_shown-found.new.cells (c.args.m.now.steps - 2) back (omega (arith, c.if-m-lt2.false)) found h);
    }

pub returns-then-m-eq0-clause-ok : goal.returns-then-m-eq0-clause-ok
returns-then-m-eq0-clause-ok c =
    let found = c.in_ok-matched.ensures.ok
    ∙ ap (λ (b : Bool). cond b (Some c.matches_shown-found.new.cells.bindings) None) c.if-not-matched.false in
    λ V. let W = in_room c.args.room V in record {
      keeps = λ sub whole h. choice_matched_few W sub whole (state_of c.args.m.now) c.args.left.now c.args.right.now
          c.args.second c.args.other c.args.scope c.args.m.now.part c.matches_shown-found.new.cells.bindings found
          (omega (arith, c.if-m-lt2.false, c.if-m-eq0.true)) h;
    }

pub returns-in-Nothing-clause-ok : goal.returns-in-Nothing-clause-ok
returns-in-Nothing-clause-ok c =
    let found = c.in_ok-matched.ensures.ok
    ∙ ap (λ (b : Bool). cond b (Some c.matches_shown-found.new.cells.bindings) None) c.if-not-matched.false in
    let is = subst (λ (o : Built). Builds (build_pattern c.args.right.now
    (cells_in (scope_at (scopes c.args.m.now.scopes) c.args.scope)) c.matches_shown-found.new.cells.bindings)
    c.args.room c.args.m.now.level o) c.in-Nothing.is c.in_ok-build.ensures.ok in
    let back = goes_back c.args.m.now.cells c.build.new.self c.back_to.new.self c.mark-mark.result
    c.mark-mark.ensures.result c.mark-mark.ensures.kept
    (subst (λ (C : CellContents). Stays (mark_of c.args.m.now.cells) c.args.m.now.cells C) (sym c.build.ensures.same)
    c.matches_shown-found.ensures.stays) c.back_to.ensures.cells c.back_to.ensures.mark c.back_to.ensures.stays in
    λ V. let W = in_room c.args.room V in record {
      keeps = λ sub whole h. c.goes_on-in-Nothing.ensures.keeps W sub whole
          (choice_unbuilt W sub whole (state_of c.args.m.now) c.args.left.now c.args.right.now c.args.second
          c.args.other c.args.scope c.args.m.now.part c.matches_shown-found.new.cells.bindings found c.back_to.new.self
          (c.args.m.now.steps - 2 - 1) back (omega (arith, c.if-m-lt2.false, c.if-m-eq0.false)) is h);
    }

pub returns-in-Big-clause-ok : goal.returns-in-Big-clause-ok
returns-in-Big-clause-ok c =
    let found = c.in_ok-matched.ensures.ok
    ∙ ap (λ (b : Bool). cond b (Some c.matches_shown-found.new.cells.bindings) None) c.if-not-matched.false in
    let is = subst (λ (o : Built). Builds
    (build_pattern c.args.right.now (cells_in (scope_at (scopes c.args.m.now.scopes) c.args.scope))
    c.matches_shown-found.new.cells.bindings) c.args.room c.args.m.now.level o) c.in-Big.is c.in_ok-build.ensures.ok in
    λ V. let W = in_room c.args.room V in record {
      keeps = λ sub whole h. choice_big W sub whole (state_of c.args.m.now) c.args.left.now c.args.right.now
          c.args.second c.args.other c.args.scope c.args.m.now.part c.matches_shown-found.new.cells.bindings found
          (c.args.m.now.steps - 2 - 1) is.0 (omega (arith, c.if-m-lt2.false, c.if-m-eq0.false)) is.1 is.2 h;
    }

pub returns-in_ok-replace-in-Value-clause-ok : goal.returns-in_ok-replace-in-Value-clause-ok
returns-in_ok-replace-in-Value-clause-ok c =
    let found = c.in_ok-matched.ensures.ok
    ∙ ap (λ (b : Bool). cond b (Some c.matches_shown-found.new.cells.bindings) None) c.if-not-matched.false in
    let is = subst (λ (o : Built). Builds (build_pattern c.args.right.now
    (cells_in (scope_at (scopes c.args.m.now.scopes) c.args.scope)) c.matches_shown-found.new.cells.bindings)
    c.args.room c.args.m.now.level o) c.in-Value.is c.in_ok-build.ensures.ok in
    let k = c.in_ok-replace-in-Value.ensures in
    let mid = c.matches_shown-found.new.cells in
    λ V. let W = in_room c.args.room V in record {
      keeps = λ sub whole h. c.goes_on-in-Value.ensures.keeps W sub whole
          (subst (λ (S : State). HoldsIn W sub whole S (Begin c.args.second c.args.scope c.replace.new.m.part))
          (λ i. record {
            cells = sym (k.rest.1 ∙ c.build.ensures.same) i;
            scopes = scopes (sym k.rest.2 i);
            trail = c.replace.new.m.trail;
            level = sym k.rest.3 i;
            frames = reverse (sym k.rest.0 i);
            steps = sym k.rest.4 i;
          })
          (choice_built W sub whole (state_of c.args.m.now) c.args.left.now c.args.right.now c.args.second c.args.other
          c.args.scope c.args.m.now.part mid (c.args.m.now.steps - 2 - 1) c.in-Value.value c.replace.new.m.part
          c.replace.new.m.trail c.matches_shown-found.ensures.later c.matches_shown-found.ensures.stays
          (omega (arith, c.if-m-lt2.false, c.if-m-eq0.false)) found is.0 is.1 k.part k.shows h));
    }
