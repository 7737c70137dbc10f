use Rattle.std.proofs.Common.{option_copied, arith}
use Rattle.session_changes.proofs.AddedLemmas.{adds_equal, adds_then}
use Rattle.session_changes.proofs.NamedTold.{next_told, none_left}
use Rattle.session_changes.proofs.last_step.add_named.Goals as goal

pub loop-it-preserved : goal.loop-it-preserved
loop-it-preserved c = λ m rest.
    c.loop-it.invariant m
    (adds_then _ _ _ c.loop-it.lines c.add_asked.new.lines m
    (next_told (option_copied c.args.name) c.args.store.now c.args.entries.now c.loop-it.it-index c.it-item.result
    (omega arith) c.it-item.is) c.in_ok-add_asked.ensures rest)

pub returns : goal.returns
returns c =
    c.loop-it.invariant c.loop-it.lines
    (adds_equal _ c.loop-it.lines
    (none_left (option_copied c.args.name) c.args.store.now c.args.entries.now c.loop-it.it-index (omega arith)))
