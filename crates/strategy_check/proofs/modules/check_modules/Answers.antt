use Rattle.std.proofs.Common.{◌+◌, drop, refl, ap, ◌∙◌}
use Rattle.std.specs.Prelude.{flat_map}
use Rattle.strategy_syntax.specs.Lists.{with_new}
use Rattle.strategy_syntax.specs.Modules.{Module}
use Rattle.strategy_check.specs.Tables.{definitions_of, keys_of, same_key}
use Rattle.strategy_check.specs.Faults.{definition_faults, faults_from, module_faults}
use Rattle.strategy_check.specs.inside.FaultLists.{with_faults}
use Rattle.strategy_check.proofs.ListLemmas.{turn}
use Rattle.strategy_check.proofs.FaultLemmas.{next_added, all_added, later_keys}
use Rattle.strategy_check.proofs.modules.check_modules.Goals as goal

pub loop-index-preserved : goal.loop-index-preserved
loop-index-preserved g c =
    let T = c.args.table.now in
    let P = c.args.primitives.now in
    let ms = c.args.modules.now in
    let i = c.loop-index.index in
    let m = c.index-modules-index.result in
    let earlier = c.loop-index.earlier.keys in
    let own = c.definitions-definitions.ensures ∙ ap (λ (m : Module). m.definitions) c.module.ensures in
    let step = c.in_ok-add_definitions.ensures ∙ ap (λ ds. with_new same_key earlier (keys_of ds)) own in
    record {
      faults = next_added (λ l m. module_faults T P l m.1) (λ l m. with_new same_key l (keys_of m.1.definitions))
          (faults_from T P) (λ l m ms. refl)
          ms i c.loop-index.faults (with_faults c.args.faults.now (faults_from T P c.args.earlier.now.keys ms)) earlier
          c.add_definitions.new.defined.keys m c.check_definitions.new.faults
          c.loop-index-test.true c.index-modules-index.is c.loop-index.invariant.faults
          (c.in_ok-check_definitions.ensures
          ∙ ap (λ ds. with_faults c.loop-index.faults (flat_map (definition_faults T P earlier) ds)) own) step;
      earlier = ap (λ l. with_new same_key l (keys_of (definitions_of (drop (i + 1) ms)))) step
          ∙ turn (λ l ms. with_new same_key l (keys_of (definitions_of ms)))
          (λ l m. with_new same_key l (keys_of m.1.definitions)) later_keys
          ms i earlier m (with_new same_key c.args.earlier.now.keys (keys_of (definitions_of ms)))
          c.loop-index-test.true c.index-modules-index.is c.loop-index.invariant.earlier;
    }

pub returns-clause-faults : goal.returns-clause-faults
returns-clause-faults g c =
    all_added (faults_from c.args.table.now c.args.primitives.now c.loop-index.earlier.keys) refl c.args.modules.now
    c.loop-index.index c.loop-index.faults
    (with_faults c.args.faults.now
    (faults_from c.args.table.now c.args.primitives.now c.args.earlier.now.keys c.args.modules.now))
    c.loop-index-test.false c.loop-index.invariant.faults
