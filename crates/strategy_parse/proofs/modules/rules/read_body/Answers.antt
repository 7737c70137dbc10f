use Rattle.std.proofs.Common.{ap, sym, ◌∙◌, subst, Err, []}
use Rattle.strategy_syntax.specs.Syntax.{scope}
use Rattle.strategy_parse.specs.Core.{closed, defined}
use Rattle.strategy_parse.specs.Grammar.{ReadsChoice}
use Rattle.strategy_parse.specs.inside.ModuleFronts.{make_header}
use Rattle.strategy_parse.proofs.RuleLemmas.{rule_gives, no_order, where_gives, where_only}
use Rattle.strategy_parse.proofs.modules.rules.read_body.Goals as goal

pub returns-in_default-clause-given : goal.returns-in_default-clause-given
returns-in_default-clause-given c =
    let header = make_header c.args.header.now.name c.args.header.now.strategies c.args.header.now.terms in
    rule_gives c.args.tokens.now c.in_ok-before.before c.in_ok-before.left.now
    (record { given = c.in_ok-before.ensures.given; only = c.in_ok-before.ensures.only })
    c.in_ok-rest.rest.now c.in_ok-rest.ensures.ok c.in_ok-after.after c.in_ok-after.left.now
    (record { given = c.in_ok-after.ensures.given; only = c.in_ok-after.ensures.only })
    header (defined header c.in_ok-body.body)
    (ap (defined header) (c.in_ok-body.ensures ∙ ap (λ s. closed header.terms (λ o. s)) c.in_ok-action.ensures))

pub returns-clause-given : goal.returns-clause-given
returns-clause-given c =
    let header = make_header c.args.header.now.name c.args.header.now.strategies c.args.header.now.terms in
    where_gives c.args.tokens.now c.in_ok-before.before c.in_ok-before.left.now
    (record { given = c.in_ok-before.ensures.given; only = c.in_ok-before.ensures.only })
    c.in_ok-rest.rest.now c.in_ok-rest.ensures.ok c.in_ok-after.after c.in_ok-after.left.now
    (record { given = c.in_ok-after.ensures.given; only = c.in_ok-after.ensures.only })
    c.in-Some.rest.now c.in-Some.ensures.some c.in_ok-condition.condition c.in_ok-condition.later.now
    (record { given = c.in_ok-condition.ensures.given; only = c.in_ok-condition.ensures.only })
    header c.in_ok-names.names.items
    (λ u r. c.in_ok-names.ensures.only u (subst (λ l. ReadsChoice u l []) (sym c.before_rest.ensures) r))
    (defined header c.in_ok-body-2.body)
    (ap (defined header) (c.in_ok-body-2.ensures ∙ (λ i. scope (c.from_vec.ensures i) (c.in_ok-action-2.ensures i))))

pub returns-clause-only : goal.returns-clause-only
returns-clause-only c =
    let header = make_header c.args.header.now.name c.args.header.now.strategies c.args.header.now.terms in
    where_only c.args.tokens.now c.in_ok-before.before c.in_ok-before.left.now
    (record { given = c.in_ok-before.ensures.given; only = c.in_ok-before.ensures.only })
    c.in_ok-rest.rest.now c.in_ok-rest.ensures.ok c.in_ok-after.after c.in_ok-after.left.now
    (record { given = c.in_ok-after.ensures.given; only = c.in_ok-after.ensures.only })
    c.in-Some.rest.now c.in-Some.ensures.some c.in_ok-condition.condition c.in_ok-condition.later.now
    (record { given = c.in_ok-condition.ensures.given; only = c.in_ok-condition.ensures.only })
    header c.in_ok-names.names.items
    (λ u r. c.in_ok-names.ensures.only u (subst (λ l. ReadsChoice u l []) (sym c.before_rest.ensures) r))
    (defined header c.in_ok-body-2.body)
    (ap (defined header) (c.in_ok-body-2.ensures ∙ (λ i. scope (c.from_vec.ensures i) (c.in_ok-action-2.ensures i))))

-- the tokens that gave the condition give it in the order of the text, too
pub returns-in_err-names-clause-none : goal.returns-in_err-names-clause-none
returns-in_err-names-clause-none c = λ e w y r ends.
    let h = rw e at c.from_residual-in_err-names.ensures in
    no_order c.args.tokens.now c.in_ok-before.before c.in_ok-before.left.now
    (record { given = c.in_ok-before.ensures.given; only = c.in_ok-before.ensures.only })
    c.in_ok-rest.rest.now c.in_ok-rest.ensures.ok c.in_ok-after.after c.in_ok-after.left.now
    (record { given = c.in_ok-after.ensures.given; only = c.in_ok-after.ensures.only })
    c.in-Some.rest.now c.in-Some.ensures.some c.in_ok-condition.condition c.in_ok-condition.later.now
    (record { given = c.in_ok-condition.ensures.given; only = c.in_ok-condition.ensures.only })
    (λ u k.
    c.in_err-names.ensures.none (ap Err (sym h.1)) u (subst (λ l. ReadsChoice u l []) (sym c.before_rest.ensures) k))
