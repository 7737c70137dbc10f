use Rattle.std.proofs.Common.{ap, ◌∙◌}
use Rattle.strategy_check.specs.inside.Changing.{with_all}
use Rattle.strategy_check.proofs.CheckedLemmas.{joined-table}
use Rattle.strategy_check.proofs.table.Table.of_parts.Goals as goal

pub returns : goal.returns
returns c =
    let new = c.args.second.now in
    let after = c.args.third.now in
    c.in_ok-add_all-2.ensures
    ∙ ap (λ T. with_all T after) (c.in_ok-add_all.ensures ∙ ap (λ T. with_all T new) c.in_ok-table.ensures)
    ∙ joined-table c.args.first.now new after
