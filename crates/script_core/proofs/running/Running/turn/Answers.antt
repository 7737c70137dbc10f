use Rattle.std.proofs.Common.{[], inl, refl, ◌∙◌, arith}
use Rattle.std.proofs.lemmas.List.{length-take}
use Rattle.std.proofs.KnownBytes.{Consumes-nil}
use Rattle.script_text.specs.Answer.{ReplyInRun}
use Rattle.script_core.proofs.RunningLemmas.{Breaks-flush, turned}
use Rattle.script_core.proofs.running.Running.turn.Goals as goal

pub returns-in_default-clause-right : goal.returns-in_default-clause-right
returns-in_default-clause-right g c = (
  c.in_default.ensures.count,
  refl,
  ([], Consumes-nil _, inl (Breaks-flush (ReplyInRun g.M.Meaning.meaning) _ _ _ _ c.flush.ensures.keeps)),
)

pub returns-in-Ok-answer_bytes-clause-right : goal.returns-in-Ok-answer_bytes-clause-right
returns-in-Ok-answer_bytes-clause-right g c =
    turned (ReplyInRun g.M.Meaning.meaning) c.in-Ok-answer_bytes.goes_on _ _ _ _ _ _ _ _ _
    (c.in-Ok-read.ensures.same, c.in-Ok-answer_bytes.ensures.same ∙ c.in-Ok.ensures.same) c.in-Ok-read.ensures.ok
    (omega
    (arith, length-take c.in-Ok-read.given c.read.new.piece, c.in-Ok-read.ensures.within, c.in-Ok-read.given-test))
    (omega (arith, length-take c.in-Ok-read.given c.read.new.piece, c.in-Ok-read.ensures.within, c.read.auto.piece))
    c.flush.ensures.keeps c.in-Ok-answer_bytes.ensures.answers
