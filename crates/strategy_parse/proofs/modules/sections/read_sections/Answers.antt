use Rattle.std.proofs.Common.{ap, sym, Err}
use Rattle.strategy_parse.specs.inside.Sections.{built_module}
use Rattle.strategy_parse.proofs.SectionLemmas.{empty_is, all_read, read_all, nothing_read, nothing_before}
use Rattle.strategy_parse.proofs.modules.sections.read_sections.Goals as goal

pub loop-token-init : goal.loop-token-init
loop-token-init c = record {
  forth = λ m. nothing_read m (built_module c.new-built.result) c.args.tokens.now c.new-built.ensures;
  back = λ m. nothing_before m (built_module c.new-built.result) c.args.tokens.now c.new-built.ensures;
}

pub returns-in_err-next-clause-none : goal.returns-in_err-next-clause-none
returns-in_err-next-clause-none c = λ e r l.
    let h = rw e at c.from_residual.ensures in
    c.in_err-next.ensures.none (ap Err (sym h.1)) r (c.loop-token.invariant.forth r l)

pub returns-clause-given : goal.returns-clause-given
returns-clause-given c =
    c.loop-token.invariant.back c.into_module.result
    (all_read c.loop-token.context (built_module c.loop-token.built) c.into_module.result c.loop-token.left.now
    (empty_is c.loop-token.left.now c.in_default.ensures.cases) c.into_module.ensures)

pub returns-clause-only : goal.returns-clause-only
returns-clause-only c = λ r l.
    read_all c.loop-token.context (built_module c.loop-token.built) c.into_module.result r c.loop-token.left.now
    (empty_is c.loop-token.left.now c.in_default.ensures.cases) c.into_module.ensures
    (c.loop-token.invariant.forth r l)
