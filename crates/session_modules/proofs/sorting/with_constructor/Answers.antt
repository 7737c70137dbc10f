use Rattle.session_modules.proofs.SortingLemmas.{clash_of_constructor}
use Rattle.session_modules.proofs.sorting.with_constructor.Goals as goal

pub returns-in-None-clause-fault : goal.returns-in-None-clause-fault
returns-in-None-clause-fault c =
    clash_of_constructor c.args.signature.declared c.in_ok-made.field-0 c.in-None.is c.declarations_agree.ensures
    c.clash.result
    c.args.declaration.now c.name.result.now c.arguments.result.now c.name.ensures c.arguments.ensures
    c.in_ok-made.ensures.none c.clash.ensures
