use Rattle.std.proofs.Common.{sym, ◌∙◌}
use Rattle.strategy_machine.proofs.TableLemmas.{length-table, sound_vector, added}
use Rattle.strategy_machine.proofs.scopes.Scopes.add.Goals as goal

pub invariant_of-self-2 : goal.invariant_of-self-2
invariant_of-self-2 c =
    rw c.in_ok-push.ensures.items
    (sound_vector c.self.inside.entries.items c.args.self.now _ c.self.view_is c.self.invariant
    (record {
      outer = c.requires.there;
      variables = c.in-Some.ensures.variables;
      names = c.in-Some.ensures.names;
      adds = c.requires.fit;
    }))

pub returns-clause-number : goal.returns-clause-number
returns-clause-number c = c.len-new.ensures
    ∙ c.self.inside.entries.ok.0 ∙ sym (length-table c.self.inside.entries.items c.args.self.now c.self.view_is)

pub returns-clause-ok : goal.returns-clause-ok
returns-clause-ok c = added c.self.inside.entries.items _ c.args.self.now _ c.self.view_is c.in_ok-push.ensures.items
