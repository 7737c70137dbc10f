use Rattle.std.proofs.Common.{option_copied}
use Rattle.session_changes.proofs.BaseLemmas.{adds_changes, outside_group}
use Rattle.session_changes.proofs.last_step.add_changes.Goals as goal

pub returns-in_ok-add_log-in-Some-clause-ok : goal.returns-in_ok-add_log-in-Some-clause-ok
returns-in_ok-add_log-in-Some-clause-ok c =
    adds_changes (option_copied c.args.name) c.args.timeline.now c.in-Some.log.now c.store.result.now c.args.lines.now
    c.add_log.new.lines c.store.ensures c.in-Some.ensures.base c.in_ok-add_log-in-Some.ensures

pub add_step-requires : goal.add_step-requires
add_step-requires c = outside_group c.args.timeline.now.group c.args.timeline.now.current c.in-None.ensures.is
