use Rattle.std.proofs.Common.{◌∙◌, refl, ap, sym, Err, [], ◌∷◌, ◌++◌}
use Rattle.strategy_parse.specs.inside.Definitions.{DefinitionGives}
use Rattle.strategy_parse.specs.inside.Sections.{built_module}
use Rattle.strategy_parse.proofs.ModuleFrames.{defined_shorter}
use Rattle.strategy_parse.proofs.SectionLemmas.{definition_taken, definition_given, definition_none}
use Rattle.strategy_parse.proofs.modules.sections.add_definition.Goals as goal

pub returns-in_err-definition-clause-none : goal.returns-in_err-definition-clause-none
returns-in_err-definition-clause-none c = λ e m.
    let h = rw e at c.from_residual.ensures in
    definition_none (built_module c.args.built.now) c.args.tokens.now m c.requires
    (c.in_err-definition.ensures.none (ap Err (sym h.1)))

pub returns-clause-forth : goal.returns-clause-forth
returns-clause-forth c = λ m.
    definition_taken (built_module c.args.built.now) _ c.args.tokens.now m c.in_ok-definition.definition
    c.in_ok-definition.rest.now
    (c.in_ok-push.ensures.items ∙ ap (λ d. c.args.built.now.definitions.items ++ d ∷ []) c.at.ensures) refl refl refl
    c.requires c.in_ok-definition.ensures.only

pub returns-clause-back : goal.returns-clause-back
returns-clause-back c = λ m.
    definition_given (built_module c.args.built.now) _ c.args.tokens.now m c.in_ok-definition.definition
    c.in_ok-definition.rest.now
    (c.in_ok-push.ensures.items ∙ ap (λ d. c.args.built.now.definitions.items ++ d ∷ []) c.at.ensures) refl refl refl
    c.in_ok-definition.ensures.given

pub returns-clause-shorter : goal.returns-clause-shorter
returns-clause-shorter c =
    let g : DefinitionGives c.args.tokens.now c.in_ok-definition.definition c.in_ok-definition.rest.now =
    c.in_ok-definition.ensures.given in
    defined_shorter g.written c.args.tokens.now c.in_ok-definition.rest.now g.reads
