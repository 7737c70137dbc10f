use Rattle.std.proofs.Common.{arith, ◌∙◌, sym, ap, option_map}
use Rattle.script_text.specs.Handed.{Handed, long}
use Rattle.script_text.proofs.HandedLemmas.{more_return, too_many, made_long}
use Rattle.script_text.proofs.pending.Pending.add_after.Goals as goal

pub returns-then-returns-gt-MAX_COMMAND : goal.returns-then-returns-gt-MAX_COMMAND
returns-then-returns-gt-MAX_COMMAND c =
    made_long c.self.inside.is_there _ ∙ ap (option_map (λ (_ : Handed). long)) c.self.view_is
    ∙ sym (too_many _ _ _ c.if-returns-gt-MAX_COMMAND.true)

pub loop-left-preserved : goal.loop-left-preserved
loop-left-preserved c =
    rw c.add.ensures (more_return _ _ _ _ (omega (arith, c.loop-left-test.true)) ∙ c.loop-left.invariant)
