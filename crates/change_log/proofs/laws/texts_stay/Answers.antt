use Rattle.change_log.proofs.FlipLemmas.{before_keeps_texts, after_keeps_texts}
use Rattle.change_log.proofs.laws.texts_stay.Goals as goal

pub returns-clause-back : goal.returns-clause-back
returns-clause-back c = before_keeps_texts

pub returns-clause-forward : goal.returns-clause-forward
returns-clause-forward c = after_keeps_texts
