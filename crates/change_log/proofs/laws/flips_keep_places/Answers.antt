use Rattle.change_log.proofs.FlipLemmas.{flipped_back_is_compact, flipped_forward_is_compact}
use Rattle.change_log.proofs.laws.flips_keep_places.Goals as goal

pub returns-clause-back : goal.returns-clause-back
returns-clause-back c = flipped_back_is_compact

pub returns-clause-forward : goal.returns-clause-forward
returns-clause-forward c = flipped_forward_is_compact
