use Rattle.std.proofs.Common.{length, sym, ap, ◌∙◌}
use Rattle.term_changes.proofs.LogLemmas.{length-entries}
use Rattle.session_core.proofs.preview.Places.count.Goals as goal

pub returns : goal.returns
returns c = sym (length-entries c.self.inside.changes.now c.self.inside.paths.now) ∙ ap length c.self.view_is
