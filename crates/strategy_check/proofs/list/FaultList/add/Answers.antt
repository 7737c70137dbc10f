use Rattle.strategy_check.proofs.FaultLemmas.{with_full, with_one}
use Rattle.strategy_check.proofs.list.FaultList.add.Goals as goal

pub returns-then-self-eq0 : goal.returns-then-self-eq0
returns-then-self-eq0 c = rw (← c.self.view_is) (with_full _ _ c.if-self-eq0.true)

pub returns : goal.returns
returns c = rw (← c.self.view_is, ← c.in_ok-found.ensures) (with_one c.self.inside.found.items c.push.new.self.items
    c.self.inside.room c.in_ok-found.found c.if-self-eq0.false c.in_ok-push.ensures.items)
