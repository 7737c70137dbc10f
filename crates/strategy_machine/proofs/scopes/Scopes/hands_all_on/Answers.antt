use Rattle.std.proofs.Common.{sym, ◌∙◌}
use Rattle.strategy_machine.specs.Table.{scopes, scope_at}
use Rattle.strategy_machine.proofs.TableArguments.{all_handed_on_where}
use Rattle.strategy_machine.proofs.scopes.Scopes.hands_all_on.Goals as goal

pub returns-then-counts-strategies : goal.returns-then-counts-strategies
returns-then-counts-strategies c =
    all_handed_on_where c.are_names.result (scope_at (scopes c.args.self.now) c.args.scope) c.args.strategies.now
    (sym c.in-Some.ensures.variables
    ∙ c.if-counts-ne0.false) (sym c.in-Some.ensures.names ∙ c.if-counts-strategies.true) c.are_names.ensures
