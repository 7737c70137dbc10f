use Rattle.std.proofs.Common.{sym, ◌∙◌}
use Rattle.std.proofs.lemmas.List.{nil_from_length}
use Rattle.term_core.specs.Tree.{children}
use Rattle.term_changes.specs.Standing.{standing_tree}
use Rattle.strategy_syntax.specs.Heads.{head_of}
use Rattle.strategy_machine.proofs.HeadLemmas.{whole_leaf}
use Rattle.strategy_machine.proofs.heads.glance_at.Goals as goal

pub returns : goal.returns
returns c =
    let t = standing_tree c.args.part.now in
    whole_leaf (head_of c.args.head.now) c.args.parts.now t c.if-parts-ne0.false
    (sym (c.is_headed.ensures t c.kind.ensures)
    ∙ c.if-not-is_headed.false) (nil_from_length (children t) (sym c.child_count.ensures ∙ c.if-child_count-ne0.false))

pub returns-then-parts-ne0 : goal.returns-then-parts-ne0
returns-then-parts-ne0 c = sym (c.is_headed.ensures (standing_tree c.args.part.now) c.kind.ensures)
    ∙ c.if-not-is_headed.false

pub returns-then-child_count-ne0 : goal.returns-then-child_count-ne0
returns-then-child_count-ne0 c = sym (c.is_headed.ensures (standing_tree c.args.part.now) c.kind.ensures)
    ∙ c.if-not-is_headed.false
