use Rattle.aterm_text.proofs.LawLines.{lines-go-on}
use Rattle.aterm_text.proofs.laws.pretty_text_goes_on.Goals as goal

pub returns : goal.returns
returns c = lines-go-on
