use Rattle.std.proofs.Common.{◌∙◌, Some, ap, sym, arith}
use Rattle.std.proofs.lemmas.Option.{slice_get-get_or}
use Rattle.change_log.proofs.FlipLemmas.{one_counted}
use Rattle.change_log.proofs.log.count_texts.Goals as goal

pub loop-entry-preserved : goal.loop-entry-preserved
loop-entry-preserved c = (
  omega (arith, c.loop-entry.invariant.0, c.texts-count.ensures.one),
  λ paths.
      let got = slice_get-get_or c.args.replaced.now c.loop-entry.entry-index c.entry-item.result c.loop-entry-test.true
      ∙ ap Some (sym c.entry-item.is) in
      one_counted c.args.replaced.now paths c.loop-entry.entry-index c.loop-entry.count c.texts-count.result
      c.entry-item.result got (c.loop-entry.invariant.1 paths) c.texts-count.ensures.value,
)
