use Rattle.aterm_text.proofs.LawPrinted.{printed-spells}
use Rattle.aterm_text.proofs.laws.printed_text_reads_back.Goals as goal

pub returns : goal.returns
returns c = printed-spells
