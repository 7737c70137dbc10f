use Rattle.std.proofs.Common.{ap, ◌∙◌, ◌-◌, arith}
use Rattle.strategy_syntax.specs.ResolvedView.{resolved_of}
use Rattle.strategy_machine.proofs.NamedLemmas.{id_done}
use Rattle.strategy_machine.specs.Turns.{state_of}
use Rattle.strategy_machine.proofs.machine.Machine.goes_on.Goals as goal

pub returns-then-self-gt0-clause-keeps : goal.returns-then-self-gt0-clause-keeps
returns-then-self-gt0-clause-keeps c = λ W sub whole h. c.gives.ensures.keeps W sub whole
    (id_done W sub whole (state_of c.args.self.now) c.args.strategy c.args.scope c.args.self.now.part
    (c.args.self.now.steps - 1) (omega (arith, c.if-self-gt0.true)) (c.form.ensures ∙ ap resolved_of c.in-Id.is) h)
