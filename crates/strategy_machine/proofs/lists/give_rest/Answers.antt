use Rattle.std.proofs.Common.{refl, ◌≡◌, ℕ, ap, subst, ◌∙◌, ◌++◌, List, map, take, Some, None}
use Rattle.std.specs.Prelude.{MatchOption}
use Rattle.std.specs.declared.option.Option.{Option}
use Rattle.strategy_machine.proofs.GiveLemmas.{give_rest, rest_fails, rest_stands}
use Rattle.strategy_machine.proofs.PartsLemmas.{rest_put}
use Rattle.strategy_machine.specs.Leading.{parts_now, all_parts}
use Rattle.term_changes.specs.Standing.{Standing, standing_tree}
use Rattle.strategy_machine.proofs.WalkLemmas.{was_put, popped}
use Rattle.strategy_meaning.specs.Matching.{elements}
use Rattle.term_core.specs.Tree.{Tree, children, with_children}
use Rattle.strategy_machine.specs.Hands.{Done}
use Rattle.strategy_machine.specs.declared.frames.Frame.TheVariants as frames
use Rattle.strategy_machine.specs.declared.stack.Slot.TheVariants as slots
use Rattle.strategy_machine.proofs.lists.give_rest.Goals as goal

-- what `after_those` finds
abbrev IsFound : Standing → List Standing → ℕ → Tree → Option Tree → Type 0
IsFound node ps n t found = MatchOption found (elements t ≡ None)
    (λ whole. (elements t ≡ Some (children t)) × (whole ≡ with_children (standing_tree node)
    (take n (map standing_tree (parts_now node (all_parts node ps))) ++ children t)))

pub returns-in-None-clause-ok : goal.returns-in-None-clause-ok
returns-in-None-clause-ok c =
    let found = subst (λ (o : Option Tree). IsFound c.pop_front-node.result.node c.deref.result.now c.args.count
    (standing_tree c.args.m.now.part) o) c.in-None.is c.in_ok-found.ensures in
    λ W. record {
      keeps = λ sub whole h. c.fails.ensures.keeps W sub whole
          (rest_fails W sub whole _ _ _ _ _ _ _ c.pop_front-node.result.node c.pop_front-node.result.parts c.args.count
          c.args.edits c.args.m.now.part c.cut.ensures found
          (popped W sub whole c.args.m.now (Done c.args.m.now.part) c.pop_front-node.new.self
          (frames.Rest c.pop_front-node.result.node c.pop_front-node.result.parts c.args.count c.args.edits)
          (c.pop_front-node.ensures.items (slots.Rest c.args.count c.args.edits) c.requires) h));
    }

pub returns-in_ok-replace-in-Some-clause-ok : goal.returns-in_ok-replace-in-Some-clause-ok
returns-in_ok-replace-in-Some-clause-ok c =
    let found = subst (λ (o : Option Tree). IsFound c.pop_front-node.result.node c.deref.result.now c.args.count
    (standing_tree c.args.m.now.part) o) c.in-Some.is c.in_ok-found.ensures in
    λ W. record {
      keeps = λ sub whole h. c.gives.ensures.keeps W sub whole
          (was_put W sub whole _ c.replace.new.m c.in-Some.whole c.replace.new.m.part c.in_ok-replace-in-Some.ensures
          (give_rest W sub whole _ _ _ _ _ _ _ _ c.pop_front-node.result.node c.pop_front-node.result.parts c.args.count
          c.args.edits c.args.m.now.part c.replace.new.m.part c.in-Some.whole c.cut.ensures
          c.in_ok-replace-in-Some.ensures.shows
          found.0
          (found.1 ∙ ap (λ (ps : List Standing). with_children (standing_tree c.pop_front-node.result.node)
          (take c.args.count
          (map standing_tree (parts_now c.pop_front-node.result.node (all_parts c.pop_front-node.result.node ps)))
          ++ children (standing_tree c.args.m.now.part))) c.deref.ensures.value
          ∙ rest_put c.pop_front-node.result.node (all_parts c.pop_front-node.result.node
          c.pop_front-node.result.parts.items) c.args.count (children (standing_tree c.args.m.now.part)) (rest_stands W
          sub whole _ _ _ _ _ _ c.pop_front-node.result.node c.pop_front-node.result.parts c.args.count c.args.edits
          c.args.m.now.part (popped W sub whole c.args.m.now (Done c.args.m.now.part) c.pop_front-node.new.self
          (frames.Rest c.pop_front-node.result.node c.pop_front-node.result.parts c.args.count c.args.edits)
          (c.pop_front-node.ensures.items (slots.Rest c.args.count c.args.edits) c.requires) h)))
          c.in_ok-replace-in-Some.ensures.part
          (popped W sub whole c.args.m.now (Done c.args.m.now.part) c.pop_front-node.new.self
          (frames.Rest c.pop_front-node.result.node c.pop_front-node.result.parts c.args.count c.args.edits)
          (c.pop_front-node.ensures.items (slots.Rest c.args.count c.args.edits) c.requires) h)));
    }

pub pop_front-node-requires : goal.pop_front-node-requires
pop_front-node-requires c = (slots.Rest c.args.count c.args.edits, c.requires, refl)
