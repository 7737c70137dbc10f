use Rattle.std.proofs.Common.{arith}
use Rattle.prim_extended.proofs.QuoteLemmas.{closed, not_closed}
use Rattle.prim_extended.proofs.constructors.front.Goals as goal

pub returns-then-last-eq34 : goal.returns-then-last-eq34
returns-then-last-eq34 c = closed c.args.text.now c.in_ok-last.front.now c.in_ok-last.last.now
    c.in_ok-last.ensures.cases.0 (omega (arith, c.if-last-eq34.true))

pub returns-else-last-eq34 : goal.returns-else-last-eq34
returns-else-last-eq34 c = not_closed c.args.text.now c.in_ok-last.front.now c.in_ok-last.last.now
    c.in_ok-last.ensures.cases.0 (λ e. omega (arith, c.if-last-eq34.false, e))
