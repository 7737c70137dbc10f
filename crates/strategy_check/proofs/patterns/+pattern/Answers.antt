use Rattle.std.proofs.Common.{refl}
use Rattle.strategy_syntax.specs.Syntax.{patterns_of}
use Rattle.strategy_check.specs.Faults.{pattern_faults, faults_of_patterns}
use Rattle.strategy_check.specs.inside.PatternUses.{is_built}
use Rattle.strategy_check.specs.inside.FaultLists.{with_faults}
use Rattle.strategy_check.proofs.FaultLemmas.{item_added, all_added}
use Rattle.strategy_check.proofs.patterns.+pattern.Goals as goal

pub check_patterns-loop-pattern-preserved : goal.check_patterns-loop-pattern-preserved
check_patterns-loop-pattern-preserved t c =
    let T = c.args.table.now in
    let b = is_built c.args.used in
    item_added (λ ps. faults_of_patterns T b (patterns_of ps)) (pattern_faults T b) (λ p ps. refl)
    c.args.patterns.now c.loop-pattern.pattern-index c.loop-pattern.faults
    (with_faults c.args.faults.now (faults_of_patterns T b (patterns_of c.args.patterns.now)))
    c.pattern-item.result c.check_pattern.new.faults c.loop-pattern-test.true c.pattern-item.is c.loop-pattern.invariant
    c.in_ok-check_pattern.ensures

pub check_patterns-returns : goal.check_patterns-returns
check_patterns-returns t c =
    let T = c.args.table.now in
    let b = is_built c.args.used in
    all_added (λ ps. faults_of_patterns T b (patterns_of ps)) refl
    c.args.patterns.now c.loop-pattern.pattern-index c.loop-pattern.faults
    (with_faults c.args.faults.now (faults_of_patterns T b (patterns_of c.args.patterns.now)))
    c.loop-pattern-test.false c.loop-pattern.invariant
