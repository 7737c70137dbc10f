use Rattle.session_modules.proofs.SortingLemmas.{passed_on, later_constructor}
use Rattle.session_modules.proofs.sorting.with_constructors.Goals as goal

pub returns-in_err-signature-clause-fault : goal.returns-in_err-signature-clause-fault
returns-in_err-signature-clause-fault c =
    let fault = c.in_err-signature.field-0.0 in
    passed_on c.from_residual.result fault _ c.from_residual.ensures.1
    (later_constructor c.args.signature.declared c.loop-declaration.signature.declared c.args.declarations.now
    c.loop-declaration.declaration-index c.declaration-item.result fault
    c.loop-declaration.invariant c.loop-declaration-test.true c.declaration-item.is c.in_err-signature.ensures.fault)
