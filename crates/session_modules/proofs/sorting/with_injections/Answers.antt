use Rattle.session_modules.proofs.SortingLemmas.{passed_on, later_injection}
use Rattle.session_modules.proofs.sorting.with_injections.Goals as goal

pub returns-in_err-signature-clause-fault : goal.returns-in_err-signature-clause-fault
returns-in_err-signature-clause-fault c =
    let fault = c.in_err-signature.field-0.0 in
    passed_on c.from_residual.result fault _ c.from_residual.ensures.1
    (later_injection c.args.signature.declared c.loop-injection.signature.declared c.args.injections.now
    c.loop-injection.injection-index c.injection-item.result fault
    c.loop-injection.invariant c.loop-injection-test.true c.injection-item.is c.in_err-signature.ensures.fault)
