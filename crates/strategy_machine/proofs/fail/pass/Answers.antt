use Rattle.std.proofs.Common.{refl, sym, ap, ◌∙◌, Some, slice_get}
use Rattle.term_changes.specs.Standing.{Standing}
use Rattle.strategy_machine.specs.Leading.{parts_now, all_parts}
use Rattle.strategy_machine.proofs.fail.pass.Goals as goal

pub returns-in_default-2 : goal.returns-in_default-2
returns-in_default-2 c =
    let w = c.args.walk.now in (
      refl,
      refl,
      (λ j. slice_get (parts_now w.node (all_parts w.node (sym c.deref.ensures.value j))) (sym c.in-Some.ensures.1 j))
          ∙ sym c.in_ok-child.ensures ∙ c.in_default-2.is,
    )

pub returns : goal.returns
returns c =
    let w = c.args.walk.now in (
      refl,
      (λ j. record { node = w.node; parts = w.parts; index = c.in-Some.ensures.1 j; level = w.level; edits = w.edits }),
      (λ j. slice_get (parts_now w.node (all_parts w.node (sym c.deref.ensures.value j))) (sym c.in-Some.ensures.1 j))
          ∙ sym c.in_ok-child.ensures ∙ c.in-Some-2.is
          ∙ ap (λ (p : Standing). Some p) (sym c.put.ensures),
    )
