use Rattle.std.proofs.Common.{◌≡◌, ◌⊎◌, Err, length, sym, subst}
use Rattle.strategy_tokens.specs.Items.{module_tokens}
use Rattle.strategy_tokens.specs.Tokens.{tokens}
use Rattle.strategy_parse.specs.Gives.{GivesModule}
use Rattle.session_modules.specs.Modules.{ReadsAsModuleOf}
use Rattle.session_modules.specs.declared.refusal.Refusal.{Refusal}
use Rattle.session_modules.specs.declared.refusal.Refusal.TheVariants.{Memory}
use Rattle.session_modules.proofs.ReadingLemmas.{unread_as}
use Rattle.session_modules.proofs.reading.read_module.Goals as goal

pub returns-in-Err-clause-refused : goal.returns-in-Err-clause-refused
returns-in-Err-clause-refused c =
    subst (λ (refusal : Refusal). (refusal ≡ Memory) ⊎ ReadsAsModuleOf c.args.most c.args.text.now (Err refusal))
    (sym c.from.ensures)
    (unread_as (GivesModule (tokens c.args.text.now)) (length (tokens c.args.text.now))
    (module_tokens c.args.most (tokens c.args.text.now)) c.parse_module.result c.parse_module.ensures.deep
    c.parse_module.ensures.no_module c.in-Err.fault c.in-Err.is)
