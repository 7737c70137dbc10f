use Rattle.std.proofs.Common.{sym, ◌∙◌}
use Rattle.strategy_machine.proofs.TableLemmas.{length-table}
use Rattle.strategy_machine.proofs.scopes.Scopes.count.Goals as goal

pub returns : goal.returns
returns c = c.len.ensures
    ∙ c.self.inside.entries.ok.0 ∙ sym (length-table c.self.inside.entries.items c.args.self.now c.self.view_is)
