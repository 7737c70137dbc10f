use Rattle.std.proofs.Common.{◌∙◌, refl, sym, ap, subst, Bool, cond, not, slice_set}
use Rattle.std.proofs.lemmas.Bool.{eq-eqb, ne_eqb}
use Rattle.term_changes.specs.Standing.{Standing, standing_children, with_standing, CanHold}
use Rattle.strategy_machine.proofs.give.rise.Goals as goal

pub with_part-requires : goal.with_part-requires
with_part-requires c =
    subst (λ (x : Standing × Standing). CanHold x.0 (slice_set (standing_children x.0) c.args.walk.index x.1))
    (λ j. (sym c.replace-child.ensures.after j, sym c.replace-child.ensures.value j))
    (c.requires (ne_eqb c.args.m.now.trail.count c.args.walk.edits c.if-m-edits.false))

pub returns-then-m-edits : goal.returns-then-m-edits
returns-then-m-edits c =
    let w = c.args.walk in
    record {
      part = c.put.ensures
          ∙ ap (λ (b : Bool).
          cond (not b) (with_standing w.node (slice_set (standing_children w.node) w.index c.args.m.now.part)) w.node)
          (sym (eq-eqb c.args.m.now.trail.count w.edits c.if-m-edits.true));
      level = refl;
      rest = (refl, refl, refl, refl, refl);
    }

pub returns : goal.returns
returns c =
    let w = c.args.walk in
    record {
      part = c.put-2.ensures ∙ c.in_ok-whole.ensures
          ∙ (λ j. with_standing (c.replace-child.ensures.after j)
          (slice_set (standing_children (c.replace-child.ensures.after j)) w.index (c.replace-child.ensures.value j)))
          ∙ ap (λ (b : Bool).
          cond (not b) (with_standing w.node (slice_set (standing_children w.node) w.index c.args.m.now.part)) w.node)
          (sym (ne_eqb c.args.m.now.trail.count w.edits c.if-m-edits.false));
      level = refl;
      rest = (refl, refl, refl, refl, refl);
    }
