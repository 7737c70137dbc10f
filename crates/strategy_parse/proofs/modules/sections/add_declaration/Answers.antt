use Rattle.std.proofs.Common.{ap, sym, Err}
use Rattle.strategy_parse.specs.inside.Sections.{built_module}
use Rattle.strategy_parse.proofs.DeclarationLemmas.{DeclarationFound, declaration_found}
use Rattle.strategy_parse.proofs.ModuleFrames.{declaration_shorter}
use Rattle.strategy_parse.proofs.SectionLemmas.{declaration_none, declaration_taken, declaration_given}
use Rattle.strategy_parse.proofs.modules.sections.add_declaration.Goals as goal

pub returns-in_err-declared-clause-none : goal.returns-in_err-declared-clause-none
returns-in_err-declared-clause-none c = λ e m.
    let h = rw e at c.from_residual.ensures in
    declaration_none (built_module c.args.built.now) c.args.tokens.now m c.requires
    (c.in_err-declared.ensures.none (ap Err (sym h.1)))

pub returns-clause-forth : goal.returns-clause-forth
returns-clause-forth c = λ m.
    declaration_taken (built_module c.args.built.now) _ c.args.tokens.now m c.in_ok-declared.declared
    c.in_ok-declared.rest.now
    c.in_ok-add.ensures c.in_ok-declared.ensures.ok c.requires

pub returns-clause-back : goal.returns-clause-back
returns-clause-back c = λ m.
    declaration_given (built_module c.args.built.now) _ c.args.tokens.now m c.in_ok-declared.declared
    c.in_ok-declared.rest.now
    c.in_ok-add.ensures c.in_ok-declared.ensures.ok

pub returns-clause-shorter : goal.returns-clause-shorter
returns-clause-shorter c =
    let g : DeclarationFound c.args.tokens.now c.in_ok-declared.declared c.in_ok-declared.rest.now = declaration_found
    c.args.tokens.now c.in_ok-declared.declared c.in_ok-declared.rest.now c.in_ok-declared.ensures.ok in
    declaration_shorter g.declaration c.args.tokens.now c.in_ok-declared.rest.now g.reads
