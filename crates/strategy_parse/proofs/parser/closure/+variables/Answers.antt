use Rattle.std.proofs.Common.{◌++◌, ◌∙◌, ap, sym, take, append_assoc, arith}
use Rattle.strategy_syntax.specs.Variables.{variables, variables_of_all}
use Rattle.strategy_syntax.specs.Syntax.{patterns_of}
use Rattle.strategy_parse.proofs.VariableLemmas.{item-depth, variables-next}
use Rattle.strategy_parse.proofs.parser.closure.+variables.Goals as goal

pub add_all-add_variables-requires : goal.add_all-add_variables-requires
add_all-add_variables-requires t c =
    let h = item-depth c.args.patterns.now c.loop-pattern.pattern-index c.pattern-item.result c.loop-pattern-test.true
    c.pattern-item.is in
    (omega arith, tt)

pub add_all-loop-pattern-preserved : goal.add_all-loop-pattern-preserved
add_all-loop-pattern-preserved t c =
    c.in_ok-more.ensures ∙ ap (λ l. l ++ variables c.pattern-item.result) c.loop-pattern.invariant
    ∙ append_assoc c.args.names (variables_of_all (patterns_of (take c.loop-pattern.pattern-index c.args.patterns.now)))
    (variables c.pattern-item.result)
    ∙ ap (λ l. c.args.names ++ l) (sym (variables-next c.args.patterns.now c.loop-pattern.pattern-index
    c.pattern-item.result c.loop-pattern-test.true c.pattern-item.is))
