use Rattle.run_hints.proofs.stands.+add_variables.Given as goal

abbrev pub decreases-add_variables : goal.decreases-add_variables
decreases-add_variables l = l.deep
