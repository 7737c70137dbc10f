use Rattle.std.proofs.Common.{ap, ◌∙◌}
use Rattle.script_text.specs.Split.{Split}
use Rattle.script_text.proofs.SplitLemmas.{StandsAfter-end}
use Rattle.script_text.proofs.splitter.Splitter.finish.Goals as goal

pub returns-clause-all : goal.returns-clause-all
returns-clause-all c framing x out h = StandsAfter-end framing x out c.go_on_after.new.self
    (rw (c.go_on_after.ensures ∙ ap (λ (s : Split). s.left) c.self.view_is) h)
