use Rattle.std.proofs.Common.{refl, ap, ◌∙◌, reverse, Some, None, cond, not, ◌==◌}
use Rattle.strategy_machine.proofs.FirstLemmas.{give_head}
use Rattle.strategy_machine.proofs.TakeLemmas.{with_frames}
use Rattle.strategy_machine.proofs.OpenLemmas.{pushed}
use Rattle.strategy_machine.proofs.GiveLemmas.{st}
use Rattle.strategy_machine.specs.Table.{scopes}
use Rattle.term_changes.specs.Standing.{fresh}
use Rattle.strategy_machine.proofs.WalkLemmas.{popped}
use Rattle.strategy_machine.specs.Hands.{Done}
use Rattle.strategy_machine.specs.declared.frames.Frame.TheVariants as frames
use Rattle.strategy_machine.specs.declared.stack.Slot.TheVariants as slots
use Rattle.strategy_machine.proofs.lists.give_head.Goals as goal

pub returns-clause-ok : goal.returns-clause-ok
returns-clause-ok c = λ W. record {
  keeps = λ sub whole h. c.begins.ensures.keeps W sub whole (with_frames W sub whole
      (st c.args.m.now.cells (scopes c.args.m.now.scopes) c.args.m.now.trail c.pop_walk-node.result.level
      c.args.m.now.steps (reverse c.pop_walk-node.new.self)) _ _ _ (pushed _ _ _ c.in_ok-wait_with_first.ensures.items)
      (give_head W sub whole _ _ _ _ _ _ c.args.tail c.args.scope c.pop_walk-node.result c.where_changed-first.result
      c.args.m.now.part c.replace-child.new.dest
      (c.where_changed-first.ensures ∙ ap (λ q. cond
      (not (c.args.m.now.trail.count == c.pop_walk-node.result.edits)) (Some q) None) c.replace-child.ensures.value)
      (c.replace-child.ensures.after ∙ c.new.ensures ∙ ap fresh c.in-Ok.ensures) (popped W sub whole c.args.m.now
      (Done c.args.m.now.part) c.pop_walk-node.new.self (frames.Head c.args.tail c.args.scope c.pop_walk-node.result)
      (c.pop_walk-node.ensures.items (slots.Head c.args.tail c.args.scope) c.requires) h)));
}

pub pop_walk-node-requires : goal.pop_walk-node-requires
pop_walk-node-requires c = (slots.Head c.args.tail c.args.scope, c.requires, refl)
