use Rattle.std.proofs.Common.{sym, ◌∙◌, ap}
use Rattle.std.specs.Option.{option_copied}
use Rattle.term_paths.proofs.StepLemmas.{at-drop_child, at-drop_no_child, at-drop_all}
use Rattle.term_paths.proofs.subterm.at_parts.Goals as goal

pub returns-in_err-here : goal.returns-in_err-here
returns-in_err-here c = ap option_copied c.from_residual.ensures
    ∙ sym (at-drop_no_child _ c.args.parts.now c.loop-part.part-index c.loop-part-test.true c.in_err-here.ensures)
    ∙ c.loop-part.invariant

pub loop-part-preserved : goal.loop-part-preserved
loop-part-preserved c =
    sym (at-drop_child _ _ c.args.parts.now c.loop-part.part-index c.loop-part-test.true c.in_ok-here.ensures)
    ∙ c.loop-part.invariant

pub returns : goal.returns
returns c = sym (at-drop_all c.loop-part.here.now c.args.parts.now c.loop-part.part-index c.loop-part-test.false)
    ∙ c.loop-part.invariant
