use Rattle.std.proofs.Common.{ap, ◌∙◌, ◌++◌, Some, None, Bool, cond, map, take}
use Rattle.strategy_machine.specs.Leading.{parts_now, all_parts}
use Rattle.term_changes.specs.Standing.{standing_tree}
use Rattle.term_core.specs.Tree.{children, with_children}
use Rattle.strategy_machine.proofs.lists.with_values.Goals as goal

pub returns-then-not-is_list : goal.returns-then-not-is_list
returns-then-not-is_list c = c.is_list.ensures
    ∙ ap (λ (b : Bool). cond b (Some (children c.args.rest.now)) None) c.if-not-is_list.true

pub returns : goal.returns
returns c = (
  c.is_list.ensures ∙ ap (λ (b : Bool). cond b (Some (children c.args.rest.now)) None) c.if-not-is_list.false,
  c.in_ok-whole.ensures ∙ ap (λ t. with_children t
      (take c.args.count (map standing_tree (parts_now c.args.node.now (all_parts c.args.node.now c.args.parts.now)))
      ++ children c.args.rest.now)) c.in_ok-list.ensures,
)
