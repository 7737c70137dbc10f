use Rattle.strategy_parse.proofs.TitleLemmas.{untitled, plain_to, title_to, title_back, title_none}
use Rattle.strategy_parse.proofs.modules.parse.after_title.Goals as goal

pub returns-in_default-clause-back : goal.returns-in_default-clause-back
returns-in_default-clause-back c = λ m l. untitled c.args.tokens.now m l

pub returns-in_default-clause-forth : goal.returns-in_default-clause-forth
returns-in_default-clause-forth c = λ m g. plain_to c.args.tokens.now c.in_default.ensures.none m g

pub returns-in-Some-after_ident-clause-back : goal.returns-in-Some-after_ident-clause-back
returns-in-Some-after_ident-clause-back c = λ m l. title_back c.args.tokens.now c.in-Some.rest.now
    c.in-Some-after_ident.left.now c.in-Some.ensures.some c.in-Some-after_ident.ensures.some m l

pub returns-in-Some-after_ident-clause-forth : goal.returns-in-Some-after_ident-clause-forth
returns-in-Some-after_ident-clause-forth c = λ m g. title_to c.args.tokens.now c.in-Some.rest.now
    c.in-Some-after_ident.left.now c.in-Some.ensures.some c.in-Some-after_ident.ensures.some m g

pub returns-in-None-clause-none : goal.returns-in-None-clause-none
returns-in-None-clause-none c =
    λ e m g. title_none c.args.tokens.now c.in-Some.rest.now c.in-Some.ensures.some c.in-None.ensures.none m g
