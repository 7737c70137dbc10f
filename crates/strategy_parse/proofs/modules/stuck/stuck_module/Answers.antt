use Rattle.std.proofs.Common.{◌≡◌, ◌∙◌, subst, IfSome}
use Rattle.strategy_tokens.specs.Tokens.{tokens}
use Rattle.strategy_parse.specs.StuckModules.{GiveNone}
use Rattle.strategy_parse.proofs.modules.stuck.stuck_module.Goals as goal

pub returns-in-Ok-clause-some : goal.returns-in-Ok-clause-some
returns-in-Ok-clause-some c =
    let all : c.deref.result.now ≡ tokens c.args.text.now = c.deref.ensures.value ∙ c.in_ok-tokens.ensures.tokens in
    subst (λ x. IfSome c.in-Ok.found (λ s. GiveNone x)) all c.in-Ok.ensures.some
