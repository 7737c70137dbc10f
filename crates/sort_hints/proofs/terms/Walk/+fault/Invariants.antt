use Rattle.sort_hints.proofs.terms.Walk.+fault.Given as goal

abbrev pub decreases-fault : goal.decreases-fault
decreases-fault l = l.deep
