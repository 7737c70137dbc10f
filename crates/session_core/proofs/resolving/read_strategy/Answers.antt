use Rattle.std.proofs.Common.{◌≡◌, ◌⊎◌, Err, length, sym, subst}
use Rattle.strategy_tokens.specs.declared.TheConstants.{MAX_TOKENS}
use Rattle.strategy_tokens.specs.Tokens.{tokens}
use Rattle.strategy_parse.specs.Gives.{GivesStrategy}
use Rattle.session_history.specs.Applying.{ReadsAsStrategy}
use Rattle.session_modules.specs.declared.refusal.Refusal.{Refusal}
use Rattle.session_modules.specs.declared.refusal.Refusal.TheVariants.{Memory}
use Rattle.session_modules.proofs.ReadingLemmas.{unread_as}
use Rattle.session_core.proofs.resolving.read_strategy.Goals as goal

pub returns-in-Err-clause-refused : goal.returns-in-Err-clause-refused
returns-in-Err-clause-refused c =
    subst (λ (refusal : Refusal). (refusal ≡ Memory) ⊎ ReadsAsStrategy c.args.text.now (Err refusal))
    (sym c.from.ensures)
    (unread_as (GivesStrategy (tokens c.args.text.now)) (length (tokens c.args.text.now)) MAX_TOKENS
    c.parse_strategy.result c.parse_strategy.ensures.deep c.parse_strategy.ensures.no_strategy c.in-Err.fault
    c.in-Err.is)
