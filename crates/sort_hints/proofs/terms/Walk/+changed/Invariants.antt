use Rattle.sort_hints.proofs.terms.Walk.+changed.Given as goal

abbrev pub decreases-changed : goal.decreases-changed
decreases-changed l = l.deep
