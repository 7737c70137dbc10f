-- The fields of a timeline as the steps that it keeps.
use Rattle.session_history.specs.Unfolded.{Logged}
use Rattle.session_history.specs.declared.timeline.Timeline.TheInside.{Inside}

abbrev pub logged : Inside → Logged
logged a =
    record {
      store = a.store;
      logs = a.logs.items;
      position = a.position;
      group = a.group;
      current = a.current;
      limits = a.limits;
    }
