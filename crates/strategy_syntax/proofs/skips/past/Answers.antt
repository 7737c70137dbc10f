use Rattle.std.proofs.Common.{◌∙◌, sym}
use Rattle.strategy_syntax.proofs.SkippingLemmas.{apart_more}
use Rattle.strategy_syntax.proofs.skips.past.Goals as goal

pub returns : goal.returns
returns c = apart_more c.args.pattern.now c.args.other.now c.skipped.result c.one_more.result c.args.root c.args.child
    (sym c.is_apart.ensures ∙ c.if-not-is_apart.false) c.skipped.ensures c.one_more.ensures
