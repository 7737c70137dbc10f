use Rattle.session_history.proofs.ActLemmas.{dropped}
use Rattle.session_history.proofs.timeline.Timeline.drop_tree.Goals as goal

pub returns : goal.returns
returns c = dropped c.args.self.now c.args.name.now c.change.new.self c.in-Some.slot c.in-Some.field-0-1.now
    (rw c.store.ensures at c.in-Some.ensures.some) (rw c.tree.ensures at c.in_ok-change.ensures.ok)
