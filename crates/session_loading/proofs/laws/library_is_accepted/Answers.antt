use Rattle.session_loading.proofs.LibraryLemmas.{is_accepted}
use Rattle.session_loading.proofs.laws.library_is_accepted.Goals as goal

pub returns : goal.returns
returns c = is_accepted c.one_module.ensures c.one_result.ensures
