use Rattle.aterm_text.proofs.LawOneLine.{printed-line}
use Rattle.aterm_text.proofs.laws.printed_text_is_one_line.Goals as goal

pub returns : goal.returns
returns c = printed-line
