use Rattle.std.proofs.Common.{slice_index_or, arith}
use Rattle.std.proofs.lemmas.Option.{slice_get-get_or}
use Rattle.term_changes.proofs.LogLemmas.{turn_forward, path_left_forward, all_flipped_forward}
use Rattle.change_log.proofs.log.flip_forward.Goals as goal

pub loop-i-preserved : goal.loop-i-preserved
loop-i-preserved c =
    turn_forward c.args.paths.now c.args.replaced.now c.loop-i.replaced c.args.store.now c.loop-i.store
    c.exchange.new.self
    (slice_index_or c.loop-i.replaced c.loop-i.i c.index-replaced-i.result) c.exchange.new.kept _ c.loop-i.i
    c.loop-i.rest.now _
    c.loop-i.invariant (slice_get-get_or c.loop-i.replaced c.loop-i.i c.index-replaced-i.result
    (omega (arith, c.loop-i-test.true, c.loop-i.invariant.0)))
    c.split_at.ensures.front c.split_at.ensures.back c.exchange.ensures.kept c.exchange.ensures.store

pub returns-clause-log : goal.returns-clause-log
returns-clause-log c =
    (all_flipped_forward c.loop-i.i c.args.replaced.now c.loop-i.replaced c.args.paths.now c.args.store.now
    c.loop-i.store (omega (arith, c.loop-i-test.false)) c.loop-i.invariant.3).0

pub returns-clause-store : goal.returns-clause-store
returns-clause-store c =
    (all_flipped_forward c.loop-i.i c.args.replaced.now c.loop-i.replaced c.args.paths.now c.args.store.now
    c.loop-i.store (omega (arith, c.loop-i-test.false)) c.loop-i.invariant.3).1

pub split_at-requires : goal.split_at-requires
split_at-requires c =
    path_left_forward c.loop-i.i c.loop-i.replaced _ c.args.paths.now c.loop-i.rest.now
    (slice_get-get_or c.loop-i.replaced c.loop-i.i c.index-replaced-i.result
    (omega (arith, c.loop-i-test.true, c.loop-i.invariant.0)))
    c.loop-i.invariant.2 c.loop-i.invariant.1
