use Rattle.session_history.proofs.ActLemmas.{wants_in, kept_same, kept_closed}
use Rattle.session_history.proofs.CheckLemmas.{commit_refused}
use Rattle.session_history.proofs.timeline.Timeline.commit.Goals as goal

pub returns-in_err-close_group-in-Ok-clause-performs : goal.returns-in_err-close_group-in-Ok-clause-performs
returns-in_err-close_group-in-Ok-clause-performs g c =
    wants_in _ _ _ _ _ c.from_residual.ensures.1 c.in_err-close_group-in-Ok.ensures.err

pub returns-in_err-close_group-in-Ok-clause-kept : goal.returns-in_err-close_group-in-Ok-clause-kept
returns-in_err-close_group-in-Ok-clause-kept g c =
    kept_same _ _ _ _ c.in_err-close_group-in-Ok.ensures.err (rw c.store.ensures at c.check.ensures.kept)

pub returns-in_ok-close_group-in-Ok-clause-kept : goal.returns-in_ok-close_group-in-Ok-clause-kept
returns-in_ok-close_group-in-Ok-clause-kept g c =
    kept_closed _ _ _ _ c.in_ok-close_group-in-Ok.ensures.ok (rw c.store.ensures at c.check.ensures.kept)

pub returns-in-Err-clause-performs : goal.returns-in-Err-clause-performs
returns-in-Err-clause-performs g c =
    commit_refused _ _ c.in-Err.refusal (c.in_group.ensures.inside c.if-not-in_group.false) c.requires.readable
    (rw c.store.ensures at c.in-Err.ensures.refused)
