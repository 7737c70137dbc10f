use Rattle.std.proofs.Common.{ap, subst, ◌∙◌, ◌++◌, ◌+◌, Some, None, map, replicate}
use Rattle.strategy_machine.proofs.ArgumentLemmas.{later_on, stays_on}
use Rattle.strategy_meaning.specs.Scopes.{inside, numbers_from, arguments}
use Rattle.term_match.specs.CellContents.{CellContents}
use Rattle.term_match.specs.Marks.{mark_of, Before, Stays}
use Rattle.strategy_machine.specs.Table.{scopes}
use Rattle.strategy_syntax.specs.Resolved.{resolveds_of}
use Rattle.strategy_machine.proofs.calls.enter.Goals as goal

pub add_call-requires-clause-there : goal.add_call-requires-clause-there
add_call-requires-clause-there c = c.in_ok-end_cells.ensures.there

pub returns : goal.returns
returns c =
    let m = c.args.m.now in
    let r = c.in_ok-end_cells.ensures in
    let mid = c.end_cells.new.m in
    let later = later_on mid.cells c.open_arguments.new.cells c.open_cells.new.self c.open_arguments.ensures.later
    c.open_cells.ensures.later in
    let stays = stays_on mid.cells c.open_arguments.new.cells c.open_cells.new.self c.open_arguments.ensures.later
    c.open_arguments.ensures.stays c.open_cells.ensures.stays in
    record {
      there = c.in_ok-add_call.ensures.number;
      scope = c.in_ok-add_call.ensures.ok ∙ (λ i. inside (numbers_from (c.count-first.ensures i)
          ((c.in-Some.ensures.1 ∙ ap (λ x. x + c.args.body.now.variables) (c.len.ensures ∙ m.arguments.ok.0)) i))
          (arguments (r.same i) (resolveds_of c.args.strategies.now)));
      cells = c.in_ok-open_cells.ensures.ok ∙ ap (λ x. x ++ replicate c.args.body.now.variables None)
          (c.in_ok-open_arguments.ensures.cells ∙ ap (λ us. mid.cells.bindings ++ map Some us) c.deref.ensures.value
          ∙ (λ i. (r.rest.0 i).bindings ++ map Some (r.rest.2 i).items));
      room = λ W sub whole p a k x.
          r.room W sub whole p a x c.open_cells.new.self (scopes c.add_call.new.self) c.in_ok-add_call.ensures.stay
          (subst (λ (C : CellContents). Before (mark_of C) (mark_of c.open_cells.new.self)) r.rest.0 later)
          (subst (λ (C : CellContents). Stays (mark_of C) C c.open_cells.new.self) r.rest.0 stays);
      part = r.part;
      rest = (r.rest.1, r.rest.3, r.rest.4);
      frames = r.frames;
    }
