use Rattle.std.proofs.Common.{◌≡◌, ◌<◌, ◌+◌, length, suc, take, refl, subst, arith}
use Rattle.term_changes.specs.Slots.{contents}
use Rattle.session_modules.specs.Modules.{AreRead}
use Rattle.session_modules.proofs.CacheLemmas.{read_from-length, read_from-at, is_of, one_more}
use Rattle.session_modules.proofs.checked.same_front.Goals as goal

pub loop-at-init : goal.loop-at-init
loop-at-init c = tt

pub bounds-texts-at : goal.bounds-texts-at
bounds-texts-at c = omega
    (arith, c.loop-at-test.true, c.min-most.ensures, read_from-length c.args.texts.now c.args.modules.now c.requires)

pub returns-then-not-is_same-clause-read : goal.returns-then-not-is_same-clause-read
returns-then-not-is_same-clause-read c = c.loop-at.invariant

pub loop-at-preserved : goal.loop-at-preserved
loop-at-preserved c =
    let texts = (contents c.args.store.now).modules in
    let i = c.loop-at.at in
    let ns = c.args.names.now in
    let ms = c.args.modules.now in
    let in_names : i < length ns = omega (arith, c.loop-at-test.true, c.min-most.ensures) in
    let in_modules : i < length ms = omega (arith, c.loop-at-test.true, c.min-most.ensures) in
    let next : suc i ≡ i + 1 = omega arith in
    subst (λ n. AreRead texts (take n ns) (take n ms)) next
    (one_more texts ns ms i c.index-names-at.result c.index-modules-at.result in_names in_modules c.index-names-at.is
    c.index-modules-at.is
    (is_of texts c.index-names-at.result c.index-texts-at.result c.index-modules-at.result
    (c.if-not-is_same.ensures.named refl) (c.if-not-is_same.ensures.text refl)
    (read_from-at c.args.texts.now ms i c.index-texts-at.result c.index-modules-at.result c.requires in_modules
    c.index-texts-at.is c.index-modules-at.is))
    c.loop-at.invariant)

pub returns-clause-read : goal.returns-clause-read
returns-clause-read c =
    subst (λ n. AreRead (contents c.args.store.now).modules (take n c.args.names.now) (take n c.args.modules.now))
    (omega (arith, c.loop-at-test.false)) c.loop-at.invariant
