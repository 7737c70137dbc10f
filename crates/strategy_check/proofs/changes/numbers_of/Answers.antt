use Rattle.std.proofs.Common.{◌+◌, ◌++◌, ◌∷◌, [], drop, map, sym, ap, ◌∙◌, append_assoc}
use Rattle.strategy_check.specs.inside.Changing.{number_in}
use Rattle.strategy_check.proofs.ListLemmas.{turn}
use Rattle.strategy_check.proofs.changes.numbers_of.Goals as goal

pub loop-key-preserved : goal.loop-key-preserved
loop-key-preserved c =
    let f = number_in c.args.after.now in
    let ks = c.args.keys.now in
    let i = c.loop-key.key-index in
    ap (λ ns. ns ++ map f (drop (i + 1) ks))
    (c.in_ok-push.ensures.items ∙ ap (λ n. c.loop-key.numbers.items ++ n ∷ []) c.number_of.ensures)
    ∙ turn (λ ns ks. ns ++ map f ks) (λ ns k. ns ++ f k ∷ []) (λ ns k ks. sym (append_assoc ns (f k ∷ []) (map f ks)))
    ks i c.loop-key.numbers.items c.key-item.result (map f ks) c.loop-key-test.true c.key-item.is c.loop-key.invariant
