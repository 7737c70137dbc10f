use Rattle.std.proofs.Common.{length, ap, arith}
use Rattle.term_changes.proofs.LogLemmas.{length-entries}
use Rattle.change_log.proofs.log.Log.count.Goals as goal

pub returns : goal.returns
returns c =
    let all = length-entries c.self.inside.replaced.items c.self.inside.paths.items in
    omega (arith, c.len.ensures, c.self.inside.replaced.ok.0, all, ap length c.self.view_is)
