use Rattle.std.proofs.Common.{◌≡◌, [], length, ap, ◌∙◌}
use Rattle.strategy_names.specs.Free.{free_variables}
use Rattle.strategy_names.specs.Binders.{bound_from}
use Rattle.strategy_check.specs.Resolving.{resolved_strategy}
use Rattle.strategy_names.proofs.BinderLemmas.{bound_count}
use Rattle.strategy_check.proofs.program.resolve_checked.Goals as goal

pub returns : goal.returns
returns g c =
    let xs = free_variables [] c.args.strategy.now in
    let found : c.in_ok-variables.variables ≡ bound_from 0 xs [] = c.in_ok-variables.ensures in
    let count : c.len-count.result ≡ length xs = c.len-count.ensures ∙ ap length found ∙ bound_count 0 xs in
    λ i. record {
      variables = count i;
      strategy = (c.in_ok-strategy.ensures.resolved
          ∙ (λ j. resolved_strategy c.args.table.now c.args.primitives.now
          ((c.new-scope.ensures ∙ (λ k. record { variables = found k; count = count k; names = c.new.ensures k })) j)
          c.args.strategy.now)) i;
    }
