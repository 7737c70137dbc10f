use Rattle.aterm_text.proofs.ScanLemmas.{integer_utf8}
use Rattle.strategy_tokens.proofs.scan.integer.Goals as goal

pub returns-in_default : goal.returns-in_default
returns-in_default c = absurd (c.in_default.ensures.cases.0 (integer_utf8 c.args.text.now c.requires))
