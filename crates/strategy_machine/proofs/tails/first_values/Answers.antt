use Rattle.std.proofs.Common.{sym, ap, ◌∙◌, ◌∷◌, [], ◌++◌, map}
use Rattle.std.specs.Prelude.{option_map}
use Rattle.std.proofs.lemmas.Option.{slice_get-map}
use Rattle.term_changes.specs.Standing.{standing_tree}
use Rattle.strategy_machine.specs.Leading.{parts_now, all_parts}
use Rattle.strategy_machine.proofs.TailLemmas.{first_more, first_all, first_over}
use Rattle.strategy_machine.proofs.tails.first_values.Goals as goal

pub each-init : goal.each-init
each-init c = c.new-all.ensures.items

pub each-preserved : goal.each-preserved
each-preserved c =
    first_more (map standing_tree (parts_now c.args.node.now (all_parts c.args.node.now c.args.parts.now))) c.each.i
    (standing_tree c.in-Some.child) c.each.all.items c.push.new.self.items
    (slice_get-map standing_tree (parts_now c.args.node.now (all_parts c.args.node.now c.args.parts.now)) c.each.i
    ∙ ap (option_map standing_tree) (sym c.in_ok-child.ensures ∙ c.in-Some.is)) c.each.invariant
    (c.in_ok-push.ensures.items ∙ ap (λ u. c.each.all.items ++ u ∷ []) c.into_value.ensures)

pub returns-in_default : goal.returns-in_default
returns-in_default c =
    first_all (map standing_tree (parts_now c.args.node.now (all_parts c.args.node.now c.args.parts.now))) c.each.i
    c.args.count c.each.all.items c.each-test.true
    (slice_get-map standing_tree (parts_now c.args.node.now (all_parts c.args.node.now c.args.parts.now)) c.each.i
    ∙ ap (option_map standing_tree) (sym c.in_ok-child.ensures ∙ c.in_default.is)) c.each.invariant

pub returns : goal.returns
returns c = first_over (map standing_tree (parts_now c.args.node.now (all_parts c.args.node.now c.args.parts.now)))
    c.each.i c.args.count c.each.all.items c.each-test.false c.each.auto.i-end c.each.invariant
