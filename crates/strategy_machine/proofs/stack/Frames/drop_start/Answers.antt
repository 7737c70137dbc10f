use Rattle.strategy_machine.proofs.stack.Frames.drop_start.Goals as goal

pub returns-clause-items : goal.returns-clause-items
returns-clause-items c = λ x h. (c.pop_start.result, c.pop_start.ensures.items x h)
