use Rattle.std.proofs.Common.{ap, ◌∙◌, [], ◌∷◌, ◌++◌, Some}
use Rattle.strategy_machine.proofs.ArgumentLemmas.{opened_none, opened_more, opened_all, later_on, stays_on}
use Rattle.strategy_machine.proofs.arguments.open_arguments.Goals as goal

pub each-init : goal.each-init
each-init c = opened_none c.args.cells.now

pub each-preserved : goal.each-preserved
each-preserved c = opened_more c.args.cells.now c.each.cells c.open_with.new.self c.args.arguments.now c.each.i
    c.index-arguments-i.result c.each-test.true c.index-arguments-i.is
    (c.in_ok-open_with.ensures.ok ∙ ap (λ x. c.each.cells.bindings ++ Some x ∷ []) c.in_ok-try_clone.ensures)
    c.open_with.ensures.later c.open_with.ensures.stays c.each.invariant

pub returns-clause-cells : goal.returns-clause-cells
returns-clause-cells c =
    opened_all c.args.cells.now c.each.cells c.args.arguments.now c.each.i c.each-test.false c.each.invariant

pub returns-clause-later : goal.returns-clause-later
returns-clause-later c = c.each.invariant.later

pub returns-clause-stays : goal.returns-clause-stays
returns-clause-stays c = c.each.invariant.stays

pub returns-in_err-try_clone-clause-later : goal.returns-in_err-try_clone-clause-later
returns-in_err-try_clone-clause-later c = c.each.invariant.later

pub returns-in_err-try_clone-clause-stays : goal.returns-in_err-try_clone-clause-stays
returns-in_err-try_clone-clause-stays c = c.each.invariant.stays

pub returns-in_err-open_with-clause-later : goal.returns-in_err-open_with-clause-later
returns-in_err-open_with-clause-later c =
    later_on c.args.cells.now c.each.cells c.open_with.new.self c.each.invariant.later c.open_with.ensures.later

pub returns-in_err-open_with-clause-stays : goal.returns-in_err-open_with-clause-stays
returns-in_err-open_with-clause-stays c = stays_on c.args.cells.now c.each.cells c.open_with.new.self
    c.each.invariant.later c.each.invariant.stays c.open_with.ensures.stays
