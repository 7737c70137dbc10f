use Rattle.std.proofs.Common.{◌+◌, ◌∷◌, [], take, take_all, IsSome, sym, subst, subst₂, arith}
use Rattle.std.specs.FinMap as finmap
use Rattle.term_changes.specs.Slots.{contents}
use Rattle.session_modules.specs.Modules.{AreRead}
use Rattle.session_modules.specs.Kept.{AreReadFrom}
use Rattle.session_modules.proofs.CacheLemmas.{all_at, is_of, one_read, read_from-append}
use Rattle.session_modules.proofs.checked.read_all.Goals as goal

pub read_once-requires : goal.read_once-requires
read_once-requires c = all_at (λ name. IsSome (finmap.get (contents c.args.store.now).modules name)) c.args.names.now
    c.loop-name.name-index c.name-item.result c.requires c.loop-name-test.true c.name-item.is

pub loop-name-preserved : goal.loop-name-preserved
loop-name-preserved c =
    let texts = (contents c.args.store.now).modules in
    let names = c.args.names.now in
    let i = c.loop-name.name-index in
    let r = c.in_ok-module.module in
    let reads = c.push.ensures.reads in
    record {
      read =
          subst (AreRead texts (take (i + 1) names)) (sym c.in_ok-push.ensures.modules)
          (one_read texts names c.loop-name.new.modules.items i c.name-item.result r.1 c.loop-name-test.true
          c.name-item.is
          (is_of texts c.name-item.result r.0 r.1 c.in_ok-module.ensures.named c.in_ok-module.ensures.text reads)
          c.loop-name.invariant.read);
      texts =
          subst₂ AreReadFrom (sym c.in_ok-push.ensures.texts) (sym c.in_ok-push.ensures.modules)
          (read_from-append c.loop-name.new.texts.items (r.0 ∷ []) c.loop-name.new.modules.items
          (r.1 ∷ []) c.loop-name.invariant.texts (reads, tt));
    }

pub returns-clause-ok : goal.returns-clause-ok
returns-clause-ok c =
    subst (λ names. AreRead (contents c.args.store.now).modules names c.loop-name.new.modules.items)
    (take_all c.loop-name.name-index c.args.names.now (omega (arith, c.loop-name-test.false)))
    c.loop-name.invariant.read
