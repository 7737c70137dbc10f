use Rattle.std.proofs.Common.{[]}
use Rattle.strategy_machine.proofs.TableLemmas.{sound-take, cut}
use Rattle.strategy_machine.proofs.scopes.Scopes.cut.Goals as goal

pub invariant_of-self : goal.invariant_of-self
invariant_of-self c =
    rw c.truncate.ensures.items (sound-take [] c.args.count c.self.inside.entries.items c.self.invariant)

pub returns : goal.returns
returns c = cut c.self.inside.entries.items _ c.args.self.now c.args.count c.self.view_is c.truncate.ensures.items
