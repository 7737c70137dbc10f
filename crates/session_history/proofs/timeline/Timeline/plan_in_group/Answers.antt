use Rattle.std.proofs.Common.{refl}
use Rattle.session_history.specs.inside.View.{logged}
use Rattle.session_history.proofs.PlaceLemmas.{grown_placed, grown_changes}
use Rattle.session_history.proofs.PatchLemmas.{adds_many}
use Rattle.session_history.proofs.timeline.Timeline.plan_in_group.Goals as goal

pub invariant_of-self-2 : goal.invariant_of-self-2
invariant_of-self-2 c =
    let t = logged c.self.inside in
    let adds = adds_many c.args.plan t.store c.make.new.store t.current c.make.new.self
    (rw (← c.self.view_is) at c.requires.places) c.in_ok-make.ensures.store c.in_ok-make.ensures.log in
    grown_placed t c.make.new.store c.make.new.self adds c.self.invariant _ refl

pub returns-clause-ok : goal.returns-clause-ok
returns-clause-ok c =
    let t = logged c.self.inside in
    let adds = adds_many c.args.plan t.store c.make.new.store t.current c.make.new.self
    (rw (← c.self.view_is) at c.requires.places) c.in_ok-make.ensures.store c.in_ok-make.ensures.log in
    rw (← c.self.view_is) (grown_changes t c.make.new.store c.make.new.self adds c.self.invariant _ refl
    (rw (← c.self.view_is) at c.requires.inside))
