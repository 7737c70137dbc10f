use Rattle.std.proofs.Common.{refl, sym, ◌∙◌, ◌∷◌, subst, reverse, arith, List}
use Rattle.strategy_machine.specs.Table.{scopes}
use Rattle.strategy_machine.specs.Turns.{state_of}
use Rattle.strategy_machine.specs.inside.Endings.{AnswersIn, with_those}
use Rattle.strategy_machine.specs.declared.frames.Frame.{Frame}
use Rattle.strategy_machine.specs.declared.frames.Frame.TheVariants.{Cut}
use Rattle.strategy_machine.proofs.OpenLemmas.{pushed}
use Rattle.strategy_machine.proofs.EndingLemmas.{still_there, still_same, cut_pushed, cut_kept}
use Rattle.strategy_machine.proofs.endings.end_cells.Goals as goal

pub returns-in-Some : goal.returns-in-Some
returns-in-Some c =
    let m = c.args.m.now in
    record {
      there = still_there c.args.scope c.needed.result (scopes m.scopes) (scopes c.cut.new.self) c.requires
          c.needed.ensures.scope c.cut.ensures;
      same = still_same c.args.scope c.needed.result (scopes m.scopes) (scopes c.cut.new.self) c.needed.ensures.scope
          c.cut.ensures;
      room = λ W sub whole p a h D es st b sy.
          cut_kept W sub whole (state_of m) p a c.in-Some.left c.needed.result (scopes c.cut.new.self) es D
          c.in-Some.ensures c.needed.ensures.left c.cut.ensures st b sy h;
      part = refl;
      rest = (refl, refl, refl, refl, refl);
      frames = omega arith;
    }

pub returns-in_ok-wait-in-None : goal.returns-in_ok-wait-in-None
returns-in_ok-wait-in-None c =
    let m = c.args.m.now in
    record {
      there = c.requires;
      same = refl;
      room = λ W sub whole p a h D es st b sy.
          subst (λ (fs : List Frame). AnswersIn W sub whole (with_those (state_of m) D es fs) p a)
          (sym (pushed _ _ _ c.in_ok-wait-in-None.ensures.items
          ∙ (λ i. Cut (c.count-cells.ensures i) (c.count-scopes.ensures i) ∷ reverse m.frames)))
          (cut_pushed W sub whole (state_of m) p a D es st b sy h);
      part = refl;
      rest = (refl, refl, refl, refl, refl);
      frames = omega (arith, c.in_ok-wait-in-None.ensures.len);
    }
