use Rattle.std.proofs.Common.{ap, sym, Err}
use Rattle.std.proofs.lemmas.Result.{IfOk-weaker}
use Rattle.strategy_parse.specs.inside.ModuleFronts.{make_header}
use Rattle.strategy_parse.proofs.RuleLemmas.{no_header, body_gives, body_only, no_body, no_colon, ruled_gives, ruled_only, no_ruled}
use Rattle.strategy_parse.proofs.modules.definitions.read_definition.Goals as goal

pub returns-in_err-header-clause-none : goal.returns-in_err-header-clause-none
returns-in_err-header-clause-none c = λ e.
    let h = rw e at c.from_residual.ensures in
    no_header c.args.tokens.now (c.in_err-header.ensures.none (ap Err (sym h.1)))

pub returns-in_err-body-clause-none : goal.returns-in_err-body-clause-none
returns-in_err-body-clause-none c = λ e.
    let h = rw e at c.from_residual-in_err-body.ensures in
    let header = make_header c.in_ok-header.header.name c.in_ok-header.header.strategies c.in_ok-header.header.terms in
    no_body c.args.tokens.now header c.in_ok-header.left.now c.in_ok-header.ensures.ok c.in-Some.rest.now
    c.in-Some.ensures.some
    (c.in_err-body.ensures.none (ap Err (sym h.1)))

pub returns-in-Some-clause-given : goal.returns-in-Some-clause-given
returns-in-Some-clause-given c =
    let header = make_header c.in_ok-header.header.name c.in_ok-header.header.strategies c.in_ok-header.header.terms in
    body_gives c.args.tokens.now header c.in_ok-header.left.now c.in_ok-header.ensures.ok c.in-Some.rest.now
    c.in-Some.ensures.some
    c.in_ok-body.body c.in_ok-body.after.now c.make_definition.result c.in_ok-body.ensures.given
    c.make_definition.ensures

pub returns-in-Some-clause-only : goal.returns-in-Some-clause-only
returns-in-Some-clause-only c =
    let header = make_header c.in_ok-header.header.name c.in_ok-header.header.strategies c.in_ok-header.header.terms in
    body_only c.args.tokens.now header c.in_ok-header.left.now c.in_ok-header.ensures.ok c.in-Some.rest.now
    c.in-Some.ensures.some
    c.in_ok-body.body c.in_ok-body.after.now c.make_definition.result c.in_ok-body.ensures.only
    c.make_definition.ensures

pub returns-in_err-rest-clause-none : goal.returns-in_err-rest-clause-none
returns-in_err-rest-clause-none c = λ e.
    let h = rw e at c.from_residual-in_err-rest.ensures in
    let header = make_header c.in_ok-header.header.name c.in_ok-header.header.strategies c.in_ok-header.header.terms in
    no_colon c.args.tokens.now header c.in_ok-header.left.now c.in_ok-header.ensures.ok c.in_default.ensures.none
    (c.in_err-rest.ensures.none (ap Err (sym h.1)))

pub returns-clause-given : goal.returns-clause-given
returns-clause-given c =
    let header = make_header c.in_ok-header.header.name c.in_ok-header.header.strategies c.in_ok-header.header.terms in
    IfOk-weaker c.read_rule.result _ _
    (λ read. ruled_gives c.args.tokens.now header c.in_ok-header.left.now c.in_ok-header.ensures.ok
    c.in_default.ensures.none c.in_ok-rest.rest.now c.in_ok-rest.ensures.ok
    read.0 read.1.now) c.read_rule.ensures.given

pub returns-clause-only : goal.returns-clause-only
returns-clause-only c =
    let header = make_header c.in_ok-header.header.name c.in_ok-header.header.strategies c.in_ok-header.header.terms in
    IfOk-weaker c.read_rule.result _ _
    (λ read. ruled_only c.args.tokens.now header c.in_ok-header.left.now c.in_ok-header.ensures.ok
    c.in_default.ensures.none c.in_ok-rest.rest.now c.in_ok-rest.ensures.ok
    read.0 read.1.now) c.read_rule.ensures.only

pub returns-clause-none : goal.returns-clause-none
returns-clause-none c = λ e.
    let header = make_header c.in_ok-header.header.name c.in_ok-header.header.strategies c.in_ok-header.header.terms in
    no_ruled c.args.tokens.now header c.in_ok-header.left.now c.in_ok-header.ensures.ok c.in_default.ensures.none
    c.in_ok-rest.rest.now c.in_ok-rest.ensures.ok
    (c.read_rule.ensures.none e)
