use Rattle.std.proofs.Common.{◌≡◌, ◌+◌, drop, ap, ◌∙◌}
use Rattle.indexmap.specs.IndexSet.{insert_key}
use Rattle.strategy_syntax.specs.Lists.{with_new}
use Rattle.strategy_check.specs.Tables.{same_constructor}
use Rattle.strategy_check.proofs.ListLemmas.{with_new-next, turn}
use Rattle.strategy_check.proofs.table.add_constructors.Goals as goal

pub loop-constructor-preserved : goal.loop-constructor-preserved
loop-constructor-preserved c =
    let d = c.constructor-item.result in
    let key : c.in_ok-constructor_of.field-0 ≡ d =
    c.in_ok-constructor_of.ensures ∙ (λ i. record { name = c.name.ensures i; arity = c.arity.ensures i })
    ∙ c.item-declaration.ensures in
    let keys : c.insert.new.self.keys ≡ insert_key same_constructor c.loop-constructor.declared.keys d =
    c.in_ok-insert.ensures.keys ∙ ap (insert_key same_constructor c.loop-constructor.declared.keys) key in
    ap
    (λ ks. with_new same_constructor ks (drop (c.loop-constructor.constructor-index + 1) c.args.constructors.now)) keys
    ∙ turn (with_new same_constructor) (insert_key same_constructor) (with_new-next same_constructor)
    c.args.constructors.now c.loop-constructor.constructor-index c.loop-constructor.declared.keys d
    (with_new same_constructor c.args.declared.now.keys c.args.constructors.now)
    c.loop-constructor-test.true c.constructor-item.is c.loop-constructor.invariant
