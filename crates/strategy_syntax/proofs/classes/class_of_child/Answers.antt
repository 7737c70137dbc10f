use Rattle.std.proofs.Common.{ap, sym, ◌∙◌, List, Some, None, slice_get}
use Rattle.std.proofs.lemmas.Option.{slice_get_past}
use Rattle.strategy_syntax.specs.Resolved.{ResolvedPattern}
use Rattle.strategy_syntax.specs.Heads.{head_of}
use Rattle.strategy_syntax.specs.ResolvedPatternView.{resolved_pattern_of}
use Rattle.strategy_syntax.proofs.SkippingLemmas.{child_is, there}
use Rattle.strategy_syntax.proofs.classes.class_of_child.Goals as goal

pub returns-in-Some : goal.returns-in-Some
returns-in-Some c =
    c.class_of_pattern.ensures
    ∙ sym (child_is c.args.pattern.now (head_of c.in-Compound.field-0) c.in-Compound.parts.items c.args.i
    (Some c.in-Some.part.now) (c.form.ensures ∙ ap resolved_pattern_of c.in-Compound.is)
    (ap (λ (l : List ResolvedPattern). slice_get l c.args.i) (sym c.deref.ensures.value) ∙ there c.deref.result.now
    c.args.i c.in-Some.part.now c.in-Some.ensures.lookup.3.0 (c.in-Some.ensures.lookup.3.1 c.in-Some.part.now)))

pub returns-in-None : goal.returns-in-None
returns-in-None c =
    sym (child_is c.args.pattern.now (head_of c.in-Compound.field-0) c.in-Compound.parts.items c.args.i None
    (c.form.ensures ∙ ap resolved_pattern_of c.in-Compound.is)
    (ap (λ (l : List ResolvedPattern). slice_get l c.args.i) (sym c.deref.ensures.value)
    ∙ slice_get_past c.deref.result.now c.args.i c.in-None.ensures.lookup.3))
