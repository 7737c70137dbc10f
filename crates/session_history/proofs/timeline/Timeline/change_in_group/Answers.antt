use Rattle.std.proofs.Common.{refl}
use Rattle.session_history.specs.inside.View.{logged}
use Rattle.session_history.proofs.PlaceLemmas.{adds_one, grown_placed, grown_changes, puts}
use Rattle.session_history.proofs.timeline.Timeline.change_in_group.Goals as goal

pub invariant_of-self-2 : goal.invariant_of-self-2
invariant_of-self-2 c =
    let t = logged c.self.inside in
    let adds = adds_one c.args.entry t.store c.push.new.store t.current c.push.new.self
    (rw (← c.self.view_is) at c.requires.place) c.in_ok-push.ensures.store c.in_ok-push.ensures.log in
    grown_placed t c.push.new.store c.push.new.self adds c.self.invariant _ refl

pub returns-clause-ok : goal.returns-clause-ok
returns-clause-ok c = rw (← c.self.view_is) (
    let t = logged c.self.inside in
    let adds = adds_one c.args.entry t.store c.push.new.store t.current c.push.new.self
    (rw (← c.self.view_is) at c.requires.place) c.in_ok-push.ensures.store c.in_ok-push.ensures.log in
    puts t _ c.args.entry c.in_ok-push.ensures.store (grown_changes t c.push.new.store c.push.new.self adds
    c.self.invariant _ refl (rw (← c.self.view_is) at c.requires.inside)))
