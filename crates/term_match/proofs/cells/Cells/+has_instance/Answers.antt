use Rattle.std.proofs.Common.{rules}
use Rattle.term_match.proofs.MatchLemmas.{depth_read}
use Rattle.term_match.proofs.cells.Cells.+has_instance.Goals as goal

pub have_instances-has_instance-requires : goal.have_instances-has_instance-requires
have_instances-has_instance-requires g t c =
    let d =
    depth_read c.args.parts.now c.loop-part.part-index c.part-item.result c.loop-part-test.true c.part-item.is in
    search rules
