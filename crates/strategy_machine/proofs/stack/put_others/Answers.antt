use Rattle.std.proofs.Common.{◌-◌, arith}
use Rattle.strategy_machine.specs.declared.stack.Slot.TheVariants.{Each}
use Rattle.strategy_machine.proofs.SlotLemmas.{set_last}
use Rattle.strategy_machine.proofs.stack.put_others.Goals as goal

pub returns-in-List : goal.returns-in-List
returns-in-List c = λ front acts e stays.
    set_last front c.args.slots.now.items (Each acts c.args.scope) (Each c.args.others c.args.scope)
    (c.len-last.result - 1) e (omega (arith, c.args.slots.now.ok.0, c.requires))
