use Rattle.term_paths.specs.Edits.{prefixed}
use Rattle.term_changes.specs.Change.{places}
use Rattle.change_log.proofs.PatchLemmas.{no_text}
use Rattle.change_log.proofs.step.PatchedSubterm.has_text.Goals as goal

pub returns : goal.returns
returns c = no_text c.args.self.now.slot (prefixed c.args.self.now.path.items (places c.args.self.now.patch))
