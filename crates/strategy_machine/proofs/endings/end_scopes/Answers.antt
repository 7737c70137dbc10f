use Rattle.std.proofs.Common.{refl, sym, ◌∙◌, ◌∷◌, subst, reverse, arith, List}
use Rattle.strategy_machine.specs.Table.{scopes}
use Rattle.strategy_machine.specs.Turns.{state_of}
use Rattle.strategy_machine.specs.inside.Endings.{AnswersIn, with_those}
use Rattle.strategy_machine.specs.declared.frames.Frame.{Frame}
use Rattle.strategy_machine.specs.declared.frames.Frame.TheVariants.{Leave}
use Rattle.strategy_machine.proofs.OpenLemmas.{pushed}
use Rattle.strategy_machine.proofs.EndingLemmas.{still_there, still_same, leave_pushed, leave_kept}
use Rattle.strategy_machine.proofs.endings.end_scopes.Goals as goal

pub returns-in-Some : goal.returns-in-Some
returns-in-Some c =
    let m = c.args.m.now in
    record {
      there = still_there c.args.scope c.needed.result (scopes m.scopes) (scopes c.cut.new.self) c.requires
          c.needed.ensures.scope c.cut.ensures;
      same = still_same c.args.scope c.needed.result (scopes m.scopes) (scopes c.cut.new.self) c.needed.ensures.scope
          c.cut.ensures;
      room = λ W sub whole p a h es st.
          leave_kept W sub whole (state_of m) p a c.in-Some.left c.needed.result (scopes c.cut.new.self) es
          c.in-Some.ensures c.needed.ensures.left c.cut.ensures st h;
      part = refl;
      rest = (refl, refl, refl, refl, refl);
      frames = omega arith;
    }

pub returns-in_ok-wait-in-None : goal.returns-in_ok-wait-in-None
returns-in_ok-wait-in-None c =
    let m = c.args.m.now in
    record {
      there = c.requires;
      same = refl;
      room = λ W sub whole p a h es st.
          subst (λ (fs : List Frame). AnswersIn W sub whole (with_those (state_of m) m.cells es fs) p a)
          (sym (pushed _ _ _ c.in_ok-wait-in-None.ensures.items
          ∙ (λ i. Leave (c.count-scopes.ensures i) ∷ reverse m.frames)))
          (leave_pushed W sub whole (state_of m) p a es st h);
      part = refl;
      rest = (refl, refl, refl, refl, refl);
      frames = omega (arith, c.in_ok-wait-in-None.ensures.len);
    }
