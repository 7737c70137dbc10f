use Rattle.std.proofs.Common.{◌≡◌, ◌+◌, ◌-◌, Some, ap, sym, ◌∙◌, arith}
use Rattle.std.proofs.lemmas.Option.{slice_get-get_or}
use Rattle.session_history.specs.inside.View.{logged}
use Rattle.session_history.proofs.GroupLemmas.{last_leads}
use Rattle.session_history.proofs.timeline.Timeline.newest.Goals as goal

pub returns-clause-base : goal.returns-clause-base
returns-clause-base c =
    let t = logged c.self.inside in
    let some : t.position - 1 + 1 ≡ t.position = omega arith in
    rw (← c.self.view_is) (λ outside. last_leads t c.self.invariant outside c.index.result.now (t.position - 1) some
    (slice_get-get_or t.logs (t.position - 1) c.index.result.now (omega (arith, some, c.self.invariant.within))
    ∙ ap Some (sym c.index.ensures)))
