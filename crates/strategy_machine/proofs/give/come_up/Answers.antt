use Rattle.std.proofs.Common.{◌∙◌, ap, refl, sym, Bool, cond, not, ◌==◌, slice_set}
use Rattle.std.proofs.lemmas.Bool.{eq-eqb}
use Rattle.strategy_machine.specs.Leading.{parts_now, all_parts}
use Rattle.strategy_machine.specs.Frames.{walk_parts}
use Rattle.strategy_machine.proofs.give.come_up.Goals as goal

pub returns : goal.returns
returns c =
    let w = c.args.walk in
    record {
      node = c.replace-child.ensures.after;
      parts = (λ j. all_parts (sym c.replace-child.ensures.after j) c.settle.new.parts.items) ∙ c.in_ok-settle.ensures
          ∙ (λ j. cond (not (c.args.m.now.trail.count == w.edits)) (slice_set
          (parts_now (c.replace-child.ensures.after j) (all_parts (c.replace-child.ensures.after j) w.parts.items))
          w.index (c.replace-child.ensures.value j)) (all_parts (c.replace-child.ensures.after j) w.parts.items));
      level = refl;
      rest = (refl, refl, refl, refl, refl);
    }

pub returns-then-not-changed : goal.returns-then-not-changed
returns-then-not-changed c =
    let w = c.args.walk in
    record {
      node = c.put.ensures;
      parts = (λ j. all_parts w.node (c.put_parts.ensures j).items)
          ∙ ap (λ (b : Bool). cond (not b) (slice_set (parts_now w.node (walk_parts w)) w.index c.args.m.now.part)
          (walk_parts w)) (sym (eq-eqb c.args.m.now.trail.count w.edits c.if-not-changed.true));
      level = refl;
      rest = (refl, refl, refl, refl, refl);
    }
