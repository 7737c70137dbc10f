use Rattle.strategy_names.proofs.BinderLemmas.{names_found}
use Rattle.strategy_names.proofs.free.free_names.Goals as goal

pub returns : goal.returns
returns c = names_found c.in_ok-names.names.items _ c.in_ok-found.found c.in_ok-names.ensures c.in_ok-found.ensures
