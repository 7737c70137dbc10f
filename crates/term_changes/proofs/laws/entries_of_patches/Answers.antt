use Rattle.term_changes.proofs.FlipLemmas.{leads_both_ways, keeps_both_ways, fits_both_ways, patches_are_compact}
use Rattle.term_changes.proofs.laws.entries_of_patches.Goals as goal

pub returns-clause-leads : goal.returns-clause-leads
returns-clause-leads c = leads_both_ways

pub returns-clause-keeps : goal.returns-clause-keeps
returns-clause-keeps c = keeps_both_ways

pub returns-clause-fits : goal.returns-clause-fits
returns-clause-fits c = fits_both_ways

pub returns-clause-compact : goal.returns-clause-compact
returns-clause-compact c = patches_are_compact
