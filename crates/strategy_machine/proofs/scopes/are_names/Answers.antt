use Rattle.strategy_machine.proofs.TableArguments.{names_more}
use Rattle.strategy_machine.proofs.scopes.are_names.Goals as goal

pub each-preserved : goal.each-preserved
each-preserved c = names_more c.args.strategies.now c.each.i c.index-strategies-i.result c.each-test.true
    c.index-strategies-i.is c.each.invariant c.if-not-is_name.ensures
