use Rattle.std.proofs.Common.{◌≡◌, List, ap, subst, ◌∙◌}
use Rattle.std.specs.Prelude.{◌⊎◌}
use Rattle.term_sorts.specs.Sorts.{Declaration, Injection}
use Rattle.strategy_syntax.specs.Modules.{Module}
use Rattle.session_modules.specs.inside.Declaring.{ConstructorClash, InjectionClash}
use Rattle.session_modules.specs.declared.sorting.SortFault.TheVariants.{Memory}
use Rattle.session_modules.proofs.SortingLemmas.{passed_on, clash_in_constructors, clash_in_injections}
use Rattle.session_modules.proofs.sorting.signature_of.Goals as goal

pub returns-in_err-signature-2-clause-fault : goal.returns-in_err-signature-2-clause-fault
returns-in_err-signature-2-clause-fault c =
    let fault = c.in_err-signature-2.field-0.0 in
    let D = c.loop-named.signature.declared in
    passed_on c.from_residual-in_err-signature-2.result fault _ c.from_residual-in_err-signature-2.ensures.1
    (clash_in_constructors D c.args.modules.now c.loop-named.named-index c.named-item.result fault
    c.loop-named-test.true c.named-item.is c.loop-named.invariant
    (subst (λ (ds : List Declaration). (fault ≡ Memory) ⊎ ConstructorClash D ds fault)
    (c.declarations.ensures ∙ ap (λ (m : Module). m.declarations) c.module.ensures) c.in_err-signature-2.ensures.fault))

pub returns-in_err-signature-3-clause-fault : goal.returns-in_err-signature-3-clause-fault
returns-in_err-signature-3-clause-fault c =
    let fault = c.in_err-signature-3.field-0.0 in
    let D = c.loop-named-2.signature.declared in
    passed_on c.from_residual-in_err-signature-3.result fault _ c.from_residual-in_err-signature-3.ensures.1
    (clash_in_injections D c.args.modules.now c.loop-named-2.named-index c.named-item-in-loop-named-2.result fault
    c.loop-named-2-test.true c.named-item-in-loop-named-2.is c.loop-named-2.invariant
    (subst (λ (is : List Injection). (fault ≡ Memory) ⊎ InjectionClash D is fault) (c.injections.ensures
    ∙ ap (λ (m : Module). m.injections) c.module-in-loop-named-2.ensures) c.in_err-signature-3.ensures.fault))
