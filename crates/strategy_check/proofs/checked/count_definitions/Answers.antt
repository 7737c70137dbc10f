use Rattle.std.proofs.Common.{◌≡◌, ◌+◌, drop, length, ap, ◌∙◌, arith}
use Rattle.std.specs.Result.{result_ok}
use Rattle.strategy_check.specs.Tables.{Table}
use Rattle.strategy_check.specs.inside.Changing.{own_table}
use Rattle.strategy_check.specs.inside.Staying.{own_count}
use Rattle.strategy_check.proofs.ListLemmas.{turn}
use Rattle.strategy_check.proofs.checked.count_definitions.Goals as goal

pub loop-named-preserved : goal.loop-named-preserved
loop-named-preserved c =
    let ms = c.args.modules.now in
    let i = c.loop-named.named-index in
    let n = c.loop-named.count in
    let m = c.named-item.result in
    let more : c.len-more.result ≡ length (own_table m).definitions = c.len-more.ensures.len
    ∙ ap (λ (T : Table). length T.definitions) (c.behind-named.view_is ∙ c.defines.ensures) in
    let sum : c.in_ok-count.count ≡ n + c.len-more.result =
    (rw (c.ok_or.ensures.ok_part ∙ ap result_ok c.in_ok-count.was) at c.checked_add.ensures).1 in
    ap (λ k. k + own_count (drop (i + 1) ms)) (sum ∙ ap (λ k. n + k) more)
    ∙ turn (λ k ms. k + own_count ms) (λ k m. k + length (own_table m).definitions) (λ k m ms. omega arith)
    ms i n m (own_count ms) c.loop-named-test.true c.named-item.is c.loop-named.invariant
