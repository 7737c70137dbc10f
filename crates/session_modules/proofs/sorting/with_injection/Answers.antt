use Rattle.std.proofs.Common.{ap, ◌∙◌}
use Rattle.term_sorts.specs.Sorts.{name_of, arguments_of}
use Rattle.session_modules.proofs.SortingLemmas.{clash_of_injection}
use Rattle.session_modules.proofs.sorting.with_injection.Goals as goal

pub returns-in-None-clause-fault : goal.returns-in-None-clause-fault
returns-in-None-clause-fault c =
    clash_of_injection c.args.signature.declared c.in_ok-made.field-0 c.in-None.is c.declarations_agree.ensures
    c.clash.result
    c.args.injection.now c.name.result.now c.arguments.result.now (c.name.ensures ∙ ap name_of c.to.ensures)
    (c.arguments.ensures ∙ ap arguments_of c.to-in-None.ensures)
    c.in_ok-made.ensures.none c.clash.ensures
