use Rattle.std.proofs.Common.{◌∙◌, subst}
use Rattle.strategy_machine.specs.Trails.{Keeps}
use Rattle.strategy_machine.proofs.TrailLemmas.{planned_more, planned_whole}
use Rattle.strategy_machine.proofs.trail.Trail.replacements.Goals as goal

pub loop-edit-preserved : goal.loop-edit-preserved
loop-edit-preserved c =
    planned_more c.args.slot c.args.path.now c.deref-edit-items.result.now c.loop-edit.edit-index c.edit-item.result
    c.loop-edit.plan c.add_to.new.plan c.loop-edit-test.true c.edit-item.is c.loop-edit.invariant c.in_ok-add_to.ensures

pub returns : goal.returns
returns c = λ T sh. planned_whole c.args.slot c.args.path.now c.deref-edit-items.result.now T c.loop-edit.edit-index
    c.loop-edit.plan c.loop-edit-test.false c.loop-edit.invariant
    (c.deref-edit-items.ensures.value ∙ subst (λ o. Keeps o T) c.in-Some.is sh.made)
