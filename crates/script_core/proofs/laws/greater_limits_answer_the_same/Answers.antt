use Rattle.script_text.proofs.LimitLemmas.{greater_limits_answer_the_same}
use Rattle.script_core.proofs.laws.greater_limits_answer_the_same.Goals as goal

pub returns : goal.returns
returns c =
    greater_limits_answer_the_same c.more_room_gives_the_same.ensures.run c.more_room_gives_the_same.ensures.applied
