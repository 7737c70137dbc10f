use Rattle.std.proofs.Common.{sym, subst}
use Rattle.term_changes.specs.Slots.{contents}
use Rattle.session_history.specs.History.{HasSoundContents}
use Rattle.session_history.proofs.SoundLemmas.{sound_no_contents}
use Rattle.session_core.proofs.session.Session.with_limits.Goals as goal

pub invariant_of-result : goal.invariant_of-result
invariant_of-result g c = record {
  sound = subst HasSoundContents (sym (c.new.ensures c.args.primitives))
      (tt, sound_no_contents c.args.primitives c.args.limits.max_tokens, tt);
  kept = c.new-2.ensures c.args.primitives (contents c.new.result.store).modules;
}

pub returns : goal.returns
returns g c = c.new.ensures c.args.primitives
