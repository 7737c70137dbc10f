use Rattle.std.proofs.Common.{length, rules}
use Rattle.term_core.specs.Tree.{children}
use Rattle.term_match.proofs.MatchLemmas.{depth_read}
use Rattle.term_match.proofs.BuildLemmas.{front_room}
use Rattle.term_match.proofs.cells.Cells.+instance.Goals as goal

pub instances-instance-requires : goal.instances-instance-requires
instances-instance-requires g t c =
    let d =
    depth_read c.args.parts.now c.loop-part.part-index c.part-item.result c.loop-part-test.true c.part-item.is in
    search rules

pub in_front-all_in_front-requires : goal.in_front-all_in_front-requires
in_front-all_in_front-requires g t c =
    front_room c.args.parts.now (g.P.VariableCells.cells c.args.variables.now) c.args.self.now.bindings
    c.in_ok-instances.field-0
    (length (children c.in-Some.after)) c.in_ok-instances.ensures (search rules)
