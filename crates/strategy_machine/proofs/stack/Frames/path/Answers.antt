use Rattle.std.proofs.Common.{map, reverse, sym, ap, ◌∙◌}
use Rattle.strategy_machine.specs.Trails.{path_of}
use Rattle.strategy_machine.proofs.TrailLemmas.{path_walks, path_more, path_whole}
use Rattle.strategy_machine.proofs.stack.Frames.path.Goals as goal

pub loop-walk-init : goal.loop-walk-init
loop-walk-init c = c.in_ok-path.ensures.items

pub loop-walk-preserved : goal.loop-walk-preserved
loop-walk-preserved c =
    path_more c.deref-walk-items.result.now c.loop-walk.walk-index c.walk-item.result c.loop-walk.path.items
    c.push.new.self.items c.loop-walk-test.true c.walk-item.is c.loop-walk.invariant c.in_ok-push.ensures.items

pub returns : goal.returns
returns c =
    let i = c.self.inside in
    path_whole c.deref-walk-items.result.now c.loop-walk.walk-index c.loop-walk.path.items c.loop-walk-test.false
    c.loop-walk.invariant
    ∙ ap (map (λ w. w.index)) c.deref-walk-items.ensures.value
    ∙ sym (path_walks i.slots.items i.walks.items i.starts.items i.fronts.items i.firsts.items c.self.invariant)
    ∙ ap (λ gs. path_of (reverse gs)) c.self.view_is
