use Rattle.std.proofs.Common.{List, ◌∙◌, arith, refl, subst}
use Rattle.term_changes.specs.Standing.{Standing, standing_children}
use Rattle.strategy_machine.specs.inside.Filling.{Fills}
use Rattle.strategy_machine.proofs.PartsLemmas.{settled_in, settled_next, settled_past, when_changed}
use Rattle.strategy_machine.proofs.children.settle.Goals as goal

pub returns-then-i-len : goal.returns-then-i-len
returns-then-i-len c = settled_in c.args.node.now c.args.parts.now.items c.args.i c.args.part _
    (omega (arith, c.if-i-len.true, c.len.ensures, c.args.parts.now.ok.0)) refl
    ∙ when_changed c.args.changed _ _ c.if-not-changed.false

pub returns-then-len-i : goal.returns-then-len-i
returns-then-len-i c = settled_past c.args.node.now c.args.parts.now.items c.args.i c.args.part c.fill.new.parts.items
    (omega (arith, c.if-i-len.false, c.len.ensures, c.args.parts.now.ok.0))
    (subst (λ (ps : List Standing). Fills (standing_children c.args.node.now) ps c.args.i c.fill.new.parts.items)
    c.use_spare.ensures c.in-Ok.ensures)
    (λ e. absurd (omega (arith, e, c.if-len-i.true, c.len-in-Ok.ensures, c.fill.new.parts.ok.0)))
    ∙ when_changed c.args.changed _ _ c.if-not-changed.false

pub returns-then-i-count : goal.returns-then-i-count
returns-then-i-count c = settled_past c.args.node.now c.args.parts.now.items c.args.i c.args.part c.fill.new.parts.items
    (omega (arith, c.if-i-len.false, c.len.ensures, c.args.parts.now.ok.0))
    (subst (λ (ps : List Standing). Fills (standing_children c.args.node.now) ps c.args.i c.fill.new.parts.items)
    c.use_spare.ensures c.in-Ok.ensures)
    (λ e. omega (arith, c.if-i-count.true, c.requires))
    ∙ when_changed c.args.changed _ _ c.if-not-changed.false

pub returns-in_ok-add-in-Ok : goal.returns-in_ok-add-in-Ok
returns-in_ok-add-in-Ok c =
    let fills =
    subst (λ (ps : List Standing). Fills (standing_children c.args.node.now) ps c.args.i c.fill.new.parts.items)
    c.use_spare.ensures c.in-Ok.ensures in
    settled_next c.args.node.now c.args.parts.now.items c.args.i c.args.part c.fill.new.parts.items _ fills
    (omega (
      arith,
      c.if-len-i.false,
      c.len-in-Ok.ensures,
      c.fill.new.parts.ok.0,
      fills.most (omega (arith, c.if-i-len.false, c.len.ensures, c.args.parts.now.ok.0)),
    ))
    (omega (arith, c.if-i-count.false, c.requires)) c.in_ok-add-in-Ok.ensures
    ∙ when_changed c.args.changed _ _ c.if-not-changed.false
