use Rattle.std.proofs.Common.{◌≡◌, ◌+◌, ◌*◌}
use Rattle.strategy_syntax.specs.Resolved.{resolveds_of}
use Rattle.strategy_syntax.specs.ResolvedView.{resolved_of}
use Rattle.strategy_syntax.specs.inside.ResolvedDepth.{depth, depths}
use Rattle.strategy_syntax.proofs.RenumberingLemmas.{partly}
use Rattle.strategy_syntax.proofs.resolved.+renumbering.Given as goal

abbrev pub decreases-ResolvedStrategy::renumber : goal.decreases-ResolvedStrategy::renumber
decreases-ResolvedStrategy::renumber l = 3 * depth l.self.now + 1

abbrev pub decreases-renumber_form : goal.decreases-renumber_form
decreases-renumber_form l = 3 * depth (resolved_of l.form.now)

abbrev pub decreases-renumber_all : goal.decreases-renumber_all
decreases-renumber_all l = 3 * depths (resolveds_of l.parts.now.items) + 2

abbrev pub invariant-renumber_all-loop-i : goal.invariant-renumber_all-loop-i
invariant-renumber_all-loop-i l = l.parts.items ≡ partly l.numbers l.i l.initial.parts.items
