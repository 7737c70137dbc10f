use Rattle.std.proofs.Common.{refl, ◌≡◌, sym, ap, ◌∙◌, ◌++◌, Some, None, Bool, cond, map, subst, take}
use Rattle.strategy_machine.proofs.FirstLemmas.{give_after, after_fails, after_stands, after_list}
use Rattle.strategy_machine.proofs.PartsLemmas.{rest_put}
use Rattle.strategy_machine.specs.Leading.{parts_now, all_parts}
use Rattle.strategy_machine.specs.Frames.{first_part}
use Rattle.term_changes.specs.Standing.{Standing, standing_tree}
use Rattle.strategy_machine.proofs.WalkLemmas.{was_put, popped}
use Rattle.strategy_meaning.specs.Matching.{elements}
use Rattle.term_core.specs.Tree.{children, with_children}
use Rattle.strategy_machine.specs.Hands.{Done}
use Rattle.strategy_machine.specs.declared.frames.Frame.TheVariants as frames
use Rattle.strategy_machine.specs.declared.stack.Slot.TheVariants as slots
use Rattle.strategy_machine.proofs.lists.give_after.Goals as goal

pub returns-then-not-is_list-clause-ok : goal.returns-then-not-is_list-clause-ok
returns-then-not-is_list-clause-ok c = λ W. record {
  keeps = λ sub whole h. c.fails.ensures.keeps W sub whole (after_fails W sub whole _ _ _ _ _ _ _
      c.pop_first-node.result.node c.pop_first-node.result.part c.args.edits c.args.m.now.part c.cut.ensures
      (ap (λ (q : Standing). elements (standing_tree q)) (sym c.replace-rest.ensures.value) ∙ c.is_list.ensures
      ∙ ap (λ (b : Bool). cond b (Some (children (standing_tree c.replace-rest.result))) None) c.if-not-is_list.true)
      (popped W sub whole c.args.m.now (Done c.args.m.now.part) c.pop_first-node.new.self
      (frames.After c.pop_first-node.result.node c.pop_first-node.result.part c.args.edits)
      (c.pop_first-node.ensures.items (slots.After c.args.edits) c.requires.last) h));
}

pub after_first-requires : goal.after_first-requires
after_first-requires c =
    let r = c.requires.run in
    subst (λ (q : Standing). elements (standing_tree q) ≡ Some (children (standing_tree q)))
    (sym c.replace-rest.ensures.after)
    (after_list r.0 r.1 r.2 _ _ _ _ _ _ c.pop_first-node.result.node c.pop_first-node.result.part c.args.edits
    c.args.m.now.part (popped r.0 r.1 r.2 c.args.m.now (Done c.args.m.now.part) c.pop_first-node.new.self
    (frames.After c.pop_first-node.result.node c.pop_first-node.result.part c.args.edits)
    (c.pop_first-node.ensures.items (slots.After c.args.edits) c.requires.last) r.3))

pub returns-clause-ok : goal.returns-clause-ok
returns-clause-ok c =
    let node = c.replace-rest.ensures.after in
    let part = c.replace-rest.ensures.value in
    let ps = first_part c.pop_first-node.result.part in
    λ W. record {
      keeps = λ sub whole h. c.gives.ensures.keeps W sub whole
          (was_put W sub whole _ c.replace.new.m c.in_ok-whole.whole c.replace.new.m.part c.in_ok-replace.ensures
          (give_after W sub whole _ _ _ _ _ _ _ _ c.pop_first-node.result.node c.pop_first-node.result.part c.args.edits
          c.args.m.now.part c.replace.new.m.part c.in_ok-whole.whole c.cut.ensures c.in_ok-replace.ensures.shows
          (ap (λ (q : Standing). elements (standing_tree q)) (sym part) ∙ c.is_list.ensures
          ∙ ap (λ (b : Bool). cond b (Some (children (standing_tree c.replace-rest.result))) None)
          c.if-not-is_list.false ∙ ap (λ (q : Standing). Some (children (standing_tree q))) part)
          (c.in_ok-whole.ensures ∙ (λ i. with_children (standing_tree (node i)) (take 1
          (map standing_tree (parts_now (node i) (all_parts (node i) ps))) ++ children (standing_tree (part i))))
          ∙ rest_put c.pop_first-node.result.node (all_parts c.pop_first-node.result.node ps) 1
          (children (standing_tree c.args.m.now.part))
          (after_stands W sub whole _ _ _ _ _ _ c.pop_first-node.result.node c.pop_first-node.result.part c.args.edits
          c.args.m.now.part (popped W sub whole c.args.m.now (Done c.args.m.now.part) c.pop_first-node.new.self
          (frames.After c.pop_first-node.result.node c.pop_first-node.result.part c.args.edits)
          (c.pop_first-node.ensures.items (slots.After c.args.edits) c.requires.last) h))) c.in_ok-replace.ensures.part
          (popped W sub whole c.args.m.now (Done c.args.m.now.part) c.pop_first-node.new.self
          (frames.After c.pop_first-node.result.node c.pop_first-node.result.part c.args.edits)
          (c.pop_first-node.ensures.items (slots.After c.args.edits) c.requires.last) h)));
    }

pub pop_first-node-requires : goal.pop_first-node-requires
pop_first-node-requires c = (slots.After c.args.edits, c.requires.last, refl)
