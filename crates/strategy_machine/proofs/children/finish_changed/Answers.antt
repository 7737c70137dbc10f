use Rattle.std.proofs.Common.{◌∙◌, refl, subst, Vec, Global}
use Rattle.term_changes.specs.Standing.{Standing, standing_children}
use Rattle.strategy_machine.specs.inside.Filling.{Fills}
use Rattle.strategy_machine.proofs.PartsLemmas.{finished_parts, finished_can_hold, finished_is}
use Rattle.strategy_machine.proofs.children.finish_changed.Goals as goal

pub over_parts-requires : goal.over_parts-requires
over_parts-requires c = finished_can_hold c.args.node.now c.args.parts.now.items c.fill.new.parts.items c.requires.stand
    (finished_parts c.args.node.now c.args.parts.now.items c.fill.new.parts.items c.child_count.result
    c.child_count.ensures
    (subst (λ (ps : Vec Standing Global). Fills (standing_children c.args.node.now) ps.items c.child_count.result
    c.fill.new.parts.items) c.replace-all.ensures.value c.in_ok-fill.ensures))

pub returns : goal.returns
returns c = c.in_ok-whole.ensures
    ∙ finished_is c.args.node.now c.args.parts.now.items c.fill.new.parts.items _ refl c.requires.some
    (finished_parts c.args.node.now c.args.parts.now.items c.fill.new.parts.items c.child_count.result
    c.child_count.ensures
    (subst (λ (ps : Vec Standing Global). Fills (standing_children c.args.node.now) ps.items c.child_count.result
    c.fill.new.parts.items) c.replace-all.ensures.value c.in_ok-fill.ensures))
