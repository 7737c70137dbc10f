use Rattle.std.proofs.Common.{sym, subst}
use Rattle.strategy_syntax.specs.Resolved.{ResolvedStrategy}
use Rattle.strategy_machine.specs.Turns.{state_of, world_of}
use Rattle.strategy_machine.specs.inside.Taking.{FormIn}
use Rattle.strategy_machine.proofs.ApartLemmas.{take_remaining}
use Rattle.strategy_machine.proofs.forms.take_choice.Goals as goal

pub returns-in-Some-clause-ok : goal.returns-in-Some-clause-ok
returns-in-Some-clause-ok g c =
    let W = world_of g.M.Meaning.meaning c.args.host.now.definitions.now c.args.host.now.primitives.now
    c.args.host.now.room in record {
      keeps = λ sub whole h. c.goes_on.ensures.keeps W sub whole (take_remaining W sub whole (state_of c.args.m.now)
          c.args.whole.now c.in-Some.rest.0 c.args.scope c.args.m.now.part c.in-Some.rest.1
          c.in-Some.ensures.same
          (subst (λ (s : ResolvedStrategy). FormIn W sub whole (state_of c.args.m.now) s c.args.scope c.args.m.now.part)
          (sym c.requires.whole) h));
    }
