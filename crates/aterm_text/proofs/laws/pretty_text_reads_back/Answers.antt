use Rattle.aterm_text.proofs.LawLayout.{lines-spell}
use Rattle.aterm_text.proofs.laws.pretty_text_reads_back.Goals as goal

pub returns : goal.returns
returns c = lines-spell
