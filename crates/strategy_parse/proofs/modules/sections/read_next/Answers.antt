use Rattle.std.proofs.Common.{ap, sym, Err}
use Rattle.strategy_parse.proofs.SectionLemmas.{word_comes, word_goes, word_forth, word_after, word_none}
use Rattle.strategy_parse.specs.inside.Sections.{built_module}
use Rattle.strategy_parse.proofs.modules.sections.read_next.Goals as goal

pub returns-in-Some-clause-forth : goal.returns-in-Some-clause-forth
returns-in-Some-clause-forth c = λ m s.
    word_forth c.args.context (built_module c.args.built.now) m c.in-Reserved.word c.in-Some.next c.args.rest.now
    (sym c.in-Some.ensures)
    (word_comes c.args.context (built_module c.args.built.now) m c.args.tokens.now c.args.rest.now c.args.token.now
    c.in-Reserved.word c.requires c.in-Reserved.is s)

pub returns-in-Some-clause-back : goal.returns-in-Some-clause-back
returns-in-Some-clause-back c = λ m s.
    word_goes c.args.context (built_module c.args.built.now) m c.args.tokens.now c.args.rest.now c.args.token.now
    c.in-Reserved.word c.requires c.in-Reserved.is
    (word_after c.args.context (built_module c.args.built.now) m c.in-Reserved.word c.in-Some.next c.args.rest.now
    (sym c.in-Some.ensures) s)

pub returns-in-None-clause-none : goal.returns-in-None-clause-none
returns-in-None-clause-none c = λ e m s.
    word_none c.args.context (built_module c.args.built.now) m c.in-Reserved.word c.args.rest.now
    (sym c.in-None.ensures)
    (word_comes c.args.context (built_module c.args.built.now) m c.args.tokens.now c.args.rest.now c.args.token.now
    c.in-Reserved.word c.requires c.in-Reserved.is s)

pub returns-in_err-after-clause-none : goal.returns-in_err-after-clause-none
returns-in_err-after-clause-none c = λ e.
    let h = rw e at c.from_residual.ensures in
    c.in_err-after.ensures.none (ap Err (sym h.1))
