use Rattle.std.proofs.Common.{◌≡◌, ◌++◌, ◌∙◌}
use Rattle.strategy_check.specs.Tables.{Modules}
use Rattle.strategy_check.specs.Faults.{faults, faults_from}
use Rattle.strategy_check.specs.inside.FaultLists.{with_faults}
use Rattle.strategy_check.proofs.FaultLemmas.{modules_added, items_taken}
use Rattle.strategy_check.proofs.listing.all_faults.Goals as goal

pub returns : goal.returns
returns g c =
    let T = c.in_ok-table.table in
    let P = c.args.primitives.now in
    let xs = c.args.before.now in
    let ys = c.args.new.now in
    let zs = c.args.after.now in
    let none = c.new-earlier.result.keys in
    let before = c.check_modules.new.earlier.keys in
    let empty = c.new-faults.result in
    let first = c.check_modules.new.faults in
    let second = c.check_modules-2.new.faults in
    let third = c.check_modules-3.new.faults in
    let whole : Modules = xs ++ (ys ++ zs) in
    let found : third ≡ with_faults empty (faults_from T P none whole) =
    modules_added T P none before empty first third xs (ys ++ zs) c.in_ok-check_modules.ensures.faults
    c.in_ok-check_modules.ensures.earlier
    (modules_added T P before c.check_modules-2.new.earlier.keys first second third ys zs
    c.in_ok-check_modules-2.ensures.faults c.in_ok-check_modules-2.ensures.earlier
    c.in_ok-check_modules-3.ensures.faults) in
    c.into_found.ensures ∙ items_taken third c.args.most (faults whole P)
    (found ∙ (λ i. with_faults (c.new-faults.ensures i)
    (faults_from (c.in_ok-table.ensures i) P (c.new-earlier.ensures.empty i) whole)))
