use Rattle.sort_hints.proofs.sorts.Sorts.+write_within.Given as goal

abbrev pub decreases-write_within : goal.decreases-write_within
decreases-write_within l = l.deep
