use Rattle.std.proofs.Common.{◌∙◌, ap, sym, arith, slice_get}
use Rattle.term_changes.specs.Standing.{standing_children}
use Rattle.strategy_machine.proofs.PartsLemmas.{filling_none, filling_more, filled_all, filled}
use Rattle.strategy_machine.proofs.children.fill_missing.Goals as goal

pub fill-init : goal.fill-init
fill-init c = filling_none _ _ _

pub fill-preserved : goal.fill-preserved
fill-preserved c = filling_more (standing_children c.args.node.now) c.args.parts.now.items c.args.count
    c.fill.parts.items c.push.new.self.items c.in-Some.child
    (omega (arith, c.fill-test.true, c.len.ensures, c.fill.parts.ok.0))
    (ap (λ k. slice_get (standing_children c.args.node.now) k)
    (sym (c.len-in-fill.ensures ∙ c.fill.parts.ok.0)) ∙ sym c.in_ok-child.ensures ∙ c.in-Some.is)
    c.in_ok-push.ensures.items c.fill.invariant

pub returns-in_default : goal.returns-in_default
returns-in_default c =
    filled_all (standing_children c.args.node.now) c.args.parts.now.items c.args.count c.fill.parts.items
    (ap (λ k. slice_get (standing_children c.args.node.now) k)
    (sym (c.len-in-fill.ensures ∙ c.fill.parts.ok.0)) ∙ sym c.in_ok-child.ensures ∙ c.in_default.is) c.fill.invariant

pub returns : goal.returns
returns c = filled (standing_children c.args.node.now) c.args.parts.now.items c.args.count c.fill.parts.items
    (omega (arith, c.fill-test.false, c.len.ensures, c.fill.parts.ok.0)) c.fill.invariant
