use Rattle.term_changes.proofs.ContentsLemmas.{fits_with_more, fits_forward_with_more, fits_with_more_modules, fits_forward_with_more_modules}
use Rattle.change_log.proofs.laws.slots_stay.Goals as goal

pub returns-clause-trees : goal.returns-clause-trees
returns-clause-trees c = fits_with_more

pub returns-clause-trees_forward : goal.returns-clause-trees_forward
returns-clause-trees_forward c = fits_forward_with_more

pub returns-clause-modules : goal.returns-clause-modules
returns-clause-modules c = fits_with_more_modules

pub returns-clause-modules_forward : goal.returns-clause-modules_forward
returns-clause-modules_forward c = fits_forward_with_more_modules
