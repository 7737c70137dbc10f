use Rattle.std.proofs.Common.{◌≡◌, ◌∙◌, ap, sym, subst, Err}
use Rattle.strategy_parse.specs.Gives.{GivesModule}
use Rattle.strategy_tokens.specs.Tokens.{tokens}
use Rattle.strategy_parse.proofs.FaultLemmas.{syntax_back}
use Rattle.strategy_parse.proofs.modules.parse.parse_module.Goals as goal

pub returns-in_err-sections-clause-no_module : goal.returns-in_err-sections-clause-no_module
returns-in_err-sections-clause-no_module c = λ e r g.
    let h = rw e at c.from_residual-in_err-sections.ensures in
    let all : c.deref.result.now ≡ tokens c.args.text.now = c.deref.ensures.value ∙ c.in_ok-tokens.ensures.tokens in
    c.in_err-sections.ensures.none (ap Err (syntax_back c.in_err-sections.field-0.0 h.1)) r
    (subst (λ x. GivesModule x r) (sym all) g)

pub returns-in_err-module-clause-no_module : goal.returns-in_err-module-clause-no_module
returns-in_err-module-clause-no_module c = λ e r g.
    let h = rw e at c.from_residual-in_err-module.ensures in
    let all : c.deref.result.now ≡ tokens c.args.text.now = c.deref.ensures.value ∙ c.in_ok-tokens.ensures.tokens in
    c.in_err-module.ensures.none (ap Err (syntax_back c.in_err-module.field-0.0 h.1)) r
    (c.in_ok-sections.ensures.forth r (subst (λ x. GivesModule x r) (sym all) g))

pub returns-clause-only : goal.returns-clause-only
returns-clause-only c = λ r g.
    let all : c.deref.result.now ≡ tokens c.args.text.now = c.deref.ensures.value ∙ c.in_ok-tokens.ensures.tokens in
    c.in_ok-module.ensures.only r (c.in_ok-sections.ensures.forth r (subst (λ x. GivesModule x r) (sym all) g))
