use Rattle.std.proofs.Common.{◌+◌, drop, ap, ◌∙◌}
use Rattle.strategy_check.specs.inside.Changing.{with_module, with_all}
use Rattle.strategy_check.proofs.ChangeLemmas.{with_all-next}
use Rattle.strategy_check.proofs.ListLemmas.{turn}
use Rattle.strategy_check.proofs.table.Table.add_all.Goals as goal

pub loop-named-preserved : goal.loop-named-preserved
loop-named-preserved c =
    let ms = c.args.modules.now in
    let i = c.loop-named.named-index in
    ap (λ T. with_all T (drop (i + 1) ms)) (c.in_ok-add.ensures ∙ ap (with_module c.loop-named.self) c.module.ensures)
    ∙ turn with_all (λ T m. with_module T m.1) with_all-next ms i c.loop-named.self c.named-item.result
    (with_all c.args.self.now ms) c.loop-named-test.true c.named-item.is c.loop-named.invariant
