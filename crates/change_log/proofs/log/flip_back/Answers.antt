use Rattle.std.proofs.Common.{sym, ◌-◌, length, slice_index_or, arith}
use Rattle.std.proofs.lemmas.List.{take_all}
use Rattle.std.proofs.lemmas.Option.{slice_get-get_or}
use Rattle.term_changes.proofs.LogLemmas.{none_flipped_back, path_begin, path_begin_all, turn_back, path_left_back}
use Rattle.change_log.proofs.log.flip_back.Goals as goal

pub loop-left-init : goal.loop-left-init
loop-left-init c =
    let all = path_begin_all c.args.replaced.now in (
      omega arith,
      sym (take_all (path_begin (length c.args.replaced.now) c.args.replaced.now) c.args.paths.now
          (omega (arith, all, c.requires.paths))),
      omega (arith, all, c.requires.paths),
      none_flipped_back c.args.replaced.now c.args.paths.now c.args.store.now,
    )

pub loop-left-preserved : goal.loop-left-preserved
loop-left-preserved c =
    turn_back c.args.paths.now c.args.replaced.now c.loop-left.replaced c.args.store.now c.loop-left.store
    c.exchange.new.self
    (slice_index_or c.loop-left.replaced (c.loop-left.left - 1) c.index-replaced-left.result) c.exchange.new.kept _
    (c.loop-left.left - 1) c.loop-left.left c.loop-left.rest.now _
    (omega (arith, c.loop-left-test.true)) c.loop-left.invariant (slice_get-get_or c.loop-left.replaced
    (c.loop-left.left - 1) c.index-replaced-left.result (omega (arith, c.loop-left-test.true, c.loop-left.invariant.0)))
    c.split_at.ensures.front c.split_at.ensures.back c.exchange.ensures.kept c.exchange.ensures.store

pub overflow_sub-rest : goal.overflow_sub-rest
overflow_sub-rest c =
    path_left_back (c.loop-left.left - 1) c.loop-left.left c.loop-left.replaced _ c.args.paths.now c.loop-left.rest.now
    (omega (arith, c.loop-left-test.true))
    (slice_get-get_or c.loop-left.replaced (c.loop-left.left - 1) c.index-replaced-left.result
    (omega (arith, c.loop-left-test.true, c.loop-left.invariant.0)))
    c.loop-left.invariant.1 c.loop-left.invariant.2
