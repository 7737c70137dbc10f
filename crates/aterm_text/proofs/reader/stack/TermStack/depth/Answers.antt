use Rattle.std.proofs.Common.{sym, ap, ◌∙◌}
use Rattle.aterm_text.specs.inside.Depth.{depth}
use Rattle.aterm_text.proofs.StackLemmas.{depth-cut}
use Rattle.aterm_text.proofs.reader.stack.TermStack.depth.Goals as goal

pub returns : goal.returns
returns c = c.count.ensures ∙ sym (depth-cut c.self.inside.brackets c.self.inside.terms.items) ∙ ap depth c.self.view_is
