use Rattle.std.proofs.Common.{subst}
use Rattle.term_changes.specs.Slots.{HaveDistinctLabels}
use Rattle.change_log.proofs.NameLemmas.{sorted_names, all_taken}
use Rattle.change_log.proofs.slots.Slots.names.Goals as goal

pub returns : goal.returns
returns g c =
    sorted_names c.args.self.now c.loop-name.names.items c.sort_unstable.new.self.items
    (subst HaveDistinctLabels c.self.view_is c.iter-name-items.ensures.unique)
    (all_taken c.self.inside.slots.entries c.args.self.now c.loop-name.name-iterator c.loop-name.names.items
    c.self.view_is c.loop-name.invariant c.in-None.ensures.steps.0)
    c.sort_unstable.ensures.permutation c.sort_unstable.ensures.sorted
