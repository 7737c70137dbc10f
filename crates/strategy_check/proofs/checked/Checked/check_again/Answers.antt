use Rattle.std.proofs.Common.{◌+◌, ◌++◌, inr, length, take, drop, ap, ◌∙◌}
use Rattle.strategy_check.specs.Checking.{Checked}
use Rattle.strategy_check.proofs.CheckedLemmas.{between}
use Rattle.strategy_check.proofs.checked.Checked.check_again.Goals as goal

pub returns-in_ok-put_back-in-Err-clause-err : goal.returns-in_ok-put_back-in-Err-clause-err
returns-in_ok-put_back-in-Err-clause-err g c =
    let ms = c.args.self.now.modules in
    let new = c.args.new.items in
    let n = c.len-before.result in
    let end = n + c.len.result in
    let parts = between ms new c.args.after.items n c.len.result
    (c.len-before.ensures ∙ c.self.inside.modules.ok.0 ∙ ap (λ (k : Checked). length k.modules) c.self.view_is)
    (c.len.ensures ∙ c.args.new.ok.0) in
    let all = ap (λ (k : Checked). k.modules) c.self-2.view_is ∙ c.in_ok-put_back.ensures.modules in
    let program = ap (λ (k : Checked). k.program) c.self-2.view_is ∙ c.put_back.ensures.program in
    let kept = c.truncate.ensures.items ∙ ap (take n) (c.in_ok-after-in-Err.ensures.kept ∙ ap (take end) all)
    ∙ parts.0 in
    let rest = c.in_ok-after-in-Err.ensures.rest ∙ ap (drop end) all ∙ parts.1 in
    inr (
      c.in_ok-put_back-in-Err.ensures.modules ∙ (λ i. kept i ++ (c.args.old.items ++ rest i)),
      c.put_back-in-Err.ensures.program ∙ program,
    )
