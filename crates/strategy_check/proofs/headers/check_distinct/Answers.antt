use Rattle.std.proofs.Common.{◌+◌, drop, refl, ap, ◌∙◌}
use Rattle.indexmap.specs.IndexSet.{insert_key}
use Rattle.term_core.specs.Tree.{same_name}
use Rattle.strategy_syntax.specs.Lists.{is_among, with_new}
use Rattle.strategy_check.specs.declared.fault.FaultKind.TheVariants.{Parameter}
use Rattle.strategy_check.specs.Faults.{fault_if}
use Rattle.strategy_check.specs.inside.FaultLists.{with_faults, repeated_faults}
use Rattle.strategy_check.proofs.ListLemmas.{with_new-next, turn}
use Rattle.strategy_check.proofs.FaultLemmas.{next_added, all_added, repeated-next}
use Rattle.strategy_check.proofs.headers.check_distinct.Goals as goal

pub loop-index-preserved : goal.loop-index-preserved
loop-index-preserved c =
    let names = c.args.names.now in
    let i = c.loop-index.index in
    let x = c.index-names-index.result in
    let seen = c.loop-index.seen.keys in
    record {
      faults = next_added (λ seen x. fault_if (is_among same_name x seen) Parameter x 0 0) (insert_key same_name)
          repeated_faults repeated-next
          names i c.loop-index.faults (with_faults c.args.faults.now (repeated_faults c.args.seen.now.keys names)) seen
          c.check_new.new.seen.keys x c.check_new.new.faults
          c.loop-index-test.true c.index-names-index.is c.loop-index.invariant.faults c.in_ok-check_new.ensures.faults
          c.in_ok-check_new.ensures.seen;
      seen = ap (λ l. with_new same_name l (drop (i + 1) names)) c.in_ok-check_new.ensures.seen
          ∙ turn (with_new same_name) (insert_key same_name) (with_new-next same_name) names i seen x
          (with_new same_name c.args.seen.now.keys names) c.loop-index-test.true c.index-names-index.is
          c.loop-index.invariant.seen;
    }

pub returns-clause-faults : goal.returns-clause-faults
returns-clause-faults c =
    all_added (repeated_faults c.loop-index.seen.keys) refl c.args.names.now c.loop-index.index c.loop-index.faults
    (with_faults c.args.faults.now (repeated_faults c.args.seen.now.keys c.args.names.now)) c.loop-index-test.false
    c.loop-index.invariant.faults
