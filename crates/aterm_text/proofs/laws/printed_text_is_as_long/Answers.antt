use Rattle.aterm_text.proofs.LawLength.{printed-length}
use Rattle.aterm_text.proofs.laws.printed_text_is_as_long.Goals as goal

pub returns : goal.returns
returns c = printed-length
