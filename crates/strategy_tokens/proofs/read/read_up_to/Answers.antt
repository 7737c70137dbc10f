use Rattle.std.proofs.Common.{arith}
use Rattle.strategy_tokens.proofs.ScanLemmas.{tokens_step}
use Rattle.strategy_tokens.proofs.read.read_up_to.Goals as goal

pub loop-first-preserved : goal.loop-first-preserved
loop-first-preserved c = (
  tokens_step c.args.text.now c.loop-first.left.now c.in-Some.rest.now _ _ _ _ _ c.loop-first.invariant.0
      c.in-Some.ensures.cases.0
      c.first_piece-more.ensures.token c.first_piece-more.ensures.more c.first_piece-more.ensures.bound
      c.in_default-add_token.ensures,
  omega arith,
)
