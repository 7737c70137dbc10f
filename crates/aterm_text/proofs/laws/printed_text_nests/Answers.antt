use Rattle.aterm_text.proofs.LawNesting.{printed-nests}
use Rattle.aterm_text.proofs.laws.printed_text_nests.Goals as goal

pub returns : goal.returns
returns c = printed-nests
