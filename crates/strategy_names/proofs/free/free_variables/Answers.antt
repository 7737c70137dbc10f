use Rattle.std.proofs.Common.{◌∙◌}
use Rattle.strategy_names.specs.inside.Met.{met_in_strategy}
use Rattle.strategy_names.proofs.FreeLemmas.{met_free}
use Rattle.strategy_names.proofs.free.free_variables.Goals as goal

pub returns : goal.returns
returns c =
    let n = c.args.first in
    let s = c.args.strategy.now in
    c.in_ok-meet_in_strategy.ensures.found
    ∙ (λ i. met_in_strategy (c.in_ok-hidden.ensures i) n (c.new-found.ensures i) s)
    ∙ met_free c.args.parameters.now n s
