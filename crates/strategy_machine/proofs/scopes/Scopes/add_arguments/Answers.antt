use Rattle.std.proofs.Common.{arith}
use Rattle.strategy_machine.specs.Table.{scopes}
use Rattle.strategy_machine.proofs.TableArguments.{starts-length, added_none, added_one, added_all}
use Rattle.strategy_machine.proofs.scopes.Scopes.add_arguments.Goals as goal

pub each-init : goal.each-init
each-init c = added_none _ _ _

pub argument-known-requires : goal.argument-known-requires
argument-known-requires c =
    omega (arith, c.requires, starts-length (scopes c.args.self.now) (scopes c.each.self) c.each.invariant.stay)

pub add_name-requires-clause-there : goal.add_name-requires-clause-there
add_name-requires-clause-there c = c.each.invariant.there

pub each-preserved : goal.each-preserved
each-preserved c =
    added_one _ _ _ _ _ _ _ _ _ c.argument-known.result c.each.invariant c.requires c.each-test.true c.strategy-item.is
    c.argument-known.ensures.known c.in_ok-add_name.ensures.number c.in_ok-add_name.ensures.ok

pub returns-clause-there : goal.returns-clause-there
returns-clause-there c = c.each.invariant.there

pub returns-clause-ok : goal.returns-clause-ok
returns-clause-ok c = added_all _ _ _ _ _ _ c.each.invariant c.each-test.false c.each.auto.strategy-index-end

pub returns-clause-stay : goal.returns-clause-stay
returns-clause-stay c = c.each.invariant.stay
