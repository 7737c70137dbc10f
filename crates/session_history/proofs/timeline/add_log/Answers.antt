use Rattle.session_history.proofs.timeline.add_log.Goals as goal

pub returns-clause-logs : goal.returns-clause-logs
returns-clause-logs c = record {
  left = c.of.result;
  all = c.add.ensures.logs;
  back = c.of.ensures.before;
  fits = c.of.ensures.fits;
  compact = c.of.ensures.compact;
}
