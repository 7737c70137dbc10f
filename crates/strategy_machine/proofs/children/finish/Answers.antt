use Rattle.std.proofs.Common.{◌∙◌, sym, ap, ◌==◌}
use Rattle.strategy_machine.proofs.PartsLemmas.{unfinished_is}
use Rattle.strategy_machine.proofs.children.finish.Goals as goal

pub returns-then-is_empty : goal.returns-then-is_empty
returns-then-is_empty c = unfinished_is c.args.node.now c.args.parts.now.items c.is_empty.result
    (c.is_empty.ensures ∙ ap (λ n. n == 0) c.args.parts.now.ok.0) c.if-is_empty.true

pub finish_changed-requires-clause-some : goal.finish_changed-requires-clause-some
finish_changed-requires-clause-some c = sym (c.is_empty.ensures ∙ ap (λ n. n == 0) c.args.parts.now.ok.0)
    ∙ c.if-is_empty.false
