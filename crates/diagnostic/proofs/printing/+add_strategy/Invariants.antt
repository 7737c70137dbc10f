use Rattle.diagnostic.proofs.printing.+add_strategy.Given as goal

abbrev pub decreases-add_strategy : goal.decreases-add_strategy
decreases-add_strategy l = l.deep
