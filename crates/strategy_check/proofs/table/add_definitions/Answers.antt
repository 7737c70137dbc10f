use Rattle.std.proofs.Common.{◌≡◌, ◌+◌, drop, length, ap, ◌∙◌}
use Rattle.indexmap.specs.IndexSet.{insert_key}
use Rattle.strategy_syntax.specs.Lists.{with_new}
use Rattle.strategy_check.specs.Tables.{same_key, key_of, keys_of}
use Rattle.strategy_check.proofs.ListLemmas.{with_new-next, turn}
use Rattle.strategy_check.proofs.table.add_definitions.Goals as goal

pub loop-definition-preserved : goal.loop-definition-preserved
loop-definition-preserved c =
    let d = c.definition-item.result in
    let key : c.in_ok-new.field-0 ≡ key_of d = c.in_ok-new.ensures ∙ (λ i. record {
      name = c.name.ensures i;
      strategies = length (c.strategy_parameters-strategies.ensures i);
      terms = length (c.term_parameters-terms.ensures i);
    }) in
    let keys : c.insert.new.self.keys ≡ insert_key same_key c.loop-definition.defined.keys (key_of d) =
    c.in_ok-insert.ensures.keys ∙ ap (insert_key same_key c.loop-definition.defined.keys) key in
    ap
    (λ ks. with_new same_key ks (keys_of (drop (c.loop-definition.definition-index + 1) c.args.definitions.now))) keys
    ∙ turn (λ ks ds. with_new same_key ks (keys_of ds)) (λ ks d. insert_key same_key ks (key_of d))
    (λ ks d ds. with_new-next same_key ks (key_of d) (keys_of ds))
    c.args.definitions.now c.loop-definition.definition-index c.loop-definition.defined.keys d
    (with_new same_key c.args.defined.now.keys (keys_of c.args.definitions.now))
    c.loop-definition-test.true c.definition-item.is c.loop-definition.invariant
