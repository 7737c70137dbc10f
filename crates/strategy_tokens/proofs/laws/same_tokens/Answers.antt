use Rattle.std.proofs.Common.{add-one}
use Rattle.strategy_tokens.proofs.LocalLemmas.{same_tokens}
use Rattle.strategy_tokens.proofs.laws.same_tokens.Goals as goal

pub returns : goal.returns
returns c = λ x y z k p got le. rw add-one (same_tokens x y z k p got le)
