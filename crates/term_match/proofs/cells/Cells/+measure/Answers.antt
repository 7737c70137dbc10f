use Rattle.std.proofs.Common.{rules}
use Rattle.term_match.proofs.MatchLemmas.{depth_read}
use Rattle.term_match.proofs.cells.Cells.+measure.Goals as goal

pub measure_all-measure-requires : goal.measure_all-measure-requires
measure_all-measure-requires g t c =
    let d =
    depth_read c.args.parts.now c.loop-part.part-index c.part-item.result c.loop-part-test.true c.part-item.is in
    search rules
