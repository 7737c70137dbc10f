use Rattle.std.proofs.Common.{length, ap, arith}
use Rattle.term_changes.proofs.LogLemmas.{length-entries}
use Rattle.change_log.proofs.log.Log.compact.Goals as goal

pub compact-requires-clause-space : goal.compact-requires-clause-space
compact-requires-clause-space c =
    let count = length-entries c.self.inside.replaced.items c.self.inside.paths.items in
    let all = ap length c.self.view_is in
    let more = c.self.invariant.1 (omega (arith, c.if-count-gt1.true, c.count.ensures, count, all)) in
    omega (arith, more, ap length c.deref_mut.ensures.value)

pub returns-then-count-gt1-clause-count : goal.returns-then-count-gt1-clause-count
returns-then-count-gt1-clause-count c =
    omega (
      arith,
      length-entries c.self.inside.replaced.items c.self.inside.paths.items,
      length-entries c.compact.new.replaced.items c.compact.new.paths.items,
      ap length c.self.view_is,
      c.compact.ensures.count,
    )
