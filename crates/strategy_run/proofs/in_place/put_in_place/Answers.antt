use Rattle.std.proofs.Common.{sym, subst, ◌∙◌}
use Rattle.term_changes.specs.Entries.{before, after, Fits}
use Rattle.term_changes.proofs.PlacesLogged.{all_lead_back, all_fit}
use Rattle.strategy_run.proofs.in_place.put_in_place.Goals as goal

pub returns-clause-leads_back : goal.returns-clause-leads_back
returns-clause-leads_back c =
    (λ i. before (c.in_ok-make.ensures.log i) (c.in_ok-make.ensures.store i))
    ∙ all_lead_back c.args.log.now c.args.plan c.args.store.now

pub returns-clause-fits : goal.returns-clause-fits
returns-clause-fits c = λ f g.
    subst (Fits c.make.new.self) (sym c.in_ok-make.ensures.store)
    (subst (λ l. Fits l (after c.args.plan c.args.store.now)) (sym c.in_ok-make.ensures.log)
    (all_fit c.args.log.now c.args.plan c.args.store.now f g))
