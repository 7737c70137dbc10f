use Rattle.std.proofs.Common.{ap, ◌∙◌}
use Rattle.strategy_check.specs.inside.Mentioned.{mentioned_in_bodies}
use Rattle.strategy_check.proofs.mentions.mentions.Goals as goal

pub returns : goal.returns
returns c =
    c.in_ok-mention_in_bodies.ensures
    ∙ ap (λ M. mentioned_in_bodies M c.definitions.result.now) c.empty-mentioned.ensures
    ∙ ap (mentioned_in_bodies _) c.definitions.ensures
