use Rattle.strategy_check.proofs.NumberLemmas.{all_stay, one_more}
use Rattle.strategy_check.proofs.program.keep_numbers.Goals as goal

pub loop-i-preserved : goal.loop-i-preserved
loop-i-preserved c = one_more c.args.numbers.now c.loop-i.i c.loop-i.invariant c.if-numbers-i.false

pub returns : goal.returns
returns c e = all_stay c.args.numbers.now c.loop-i.i c.loop-i-test.false c.loop-i.invariant
