use Rattle.std.proofs.Common.{◌≡◌, ◌<◌, ◌+◌, ◌-◌, length, drop, refl, subst, subst₂, arith}
use Rattle.term_changes.specs.Slots.{contents}
use Rattle.session_modules.specs.Modules.{AreRead}
use Rattle.session_modules.proofs.CacheLemmas.{read_from-length, read_from-at, is_of, one_before, none_left}
use Rattle.session_modules.proofs.checked.same_back.Goals as goal

pub loop-back-init : goal.loop-back-init
loop-back-init c = none_left (contents c.args.store.now).modules c.args.names.now c.args.modules.now

pub bounds-texts-at : goal.bounds-texts-at
bounds-texts-at c = omega
    (arith, c.loop-back-test.true, c.min.ensures, read_from-length c.args.texts.now c.args.modules.now c.requires.read)

pub returns-then-not-is_same-clause-read : goal.returns-then-not-is_same-clause-read
returns-then-not-is_same-clause-read c = c.loop-back.invariant

pub loop-back-preserved : goal.loop-back-preserved
loop-back-preserved c =
    let texts = (contents c.args.store.now).modules in
    let ns = c.args.names.now in
    let ms = c.args.modules.now in
    let i = length ns - 1 - c.loop-back.back in
    let j = length ms - 1 - c.loop-back.back in
    let in_names : i < length ns = omega (arith, c.loop-back-test.true, c.min.ensures) in
    let in_modules : j < length ms = omega (arith, c.loop-back-test.true, c.min.ensures) in
    let before_i : length ns - c.loop-back.back ≡ i + 1 = omega (arith, c.loop-back-test.true, c.min.ensures) in
    let before_j : length ms - c.loop-back.back ≡ j + 1 = omega (arith, c.loop-back-test.true, c.min.ensures) in
    let after_i : i ≡ length ns - (c.loop-back.back + 1) = omega arith in
    let after_j : j ≡ length ms - (c.loop-back.back + 1) = omega arith in
    subst₂ (λ n m. AreRead texts (drop n ns) (drop m ms)) after_i after_j
    (one_before texts ns ms i j c.index-names-names.result c.index-modules-at.result in_names in_modules
    c.index-names-names.is c.index-modules-at.is
    (is_of texts c.index-names-names.result c.index-texts-at.result c.index-modules-at.result
    (c.if-not-is_same.ensures.named refl) (c.if-not-is_same.ensures.text refl)
    (read_from-at c.args.texts.now ms j c.index-texts-at.result c.index-modules-at.result c.requires.read in_modules
    c.index-texts-at.is c.index-modules-at.is))
    (subst₂ (λ n m. AreRead texts (drop n ns) (drop m ms)) before_i before_j c.loop-back.invariant))

pub returns-clause-read : goal.returns-clause-read
returns-clause-read c =
    subst (λ n. AreRead (contents c.args.store.now).modules (drop (length c.args.names.now - n) c.args.names.now)
    (drop (length c.args.modules.now - n) c.args.modules.now)) (omega (arith, c.loop-back-test.false))
    c.loop-back.invariant
