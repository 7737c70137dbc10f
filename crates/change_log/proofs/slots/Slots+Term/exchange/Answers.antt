use Rattle.std.proofs.Common.{◌∙◌, Some, refl, sym, ap}
use Rattle.term_changes.specs.Exchange.{changed_in}
use Rattle.term_changes.proofs.SlotLemmas.{tree_stays, empty_put, tree_put}
use Rattle.change_log.proofs.slots.Slots+Term.exchange.Goals as goal

pub returns-in_default-clause-slots : goal.returns-in_default-clause-slots
returns-in_default-clause-slots c = tree_stays (λ t. changed_in c.args.patch.now t c.args.path.now)
    c.self.inside.slots.entries c.args.self.now c.args.i _ c.self.view_is c.in_default.ensures.value refl

pub returns-in_default-content-clause-slots : goal.returns-in_default-content-clause-slots
returns-in_default-content-clause-slots c =
    empty_put (λ t. changed_in c.args.patch.now t c.args.path.now) c.self.inside.slots.entries c.args.self.now c.args.i
    c.in-Some.content.now c.self.view_is c.in-Some.ensures.value c.in_default-content.is

pub returns-clause-slots : goal.returns-clause-slots
returns-clause-slots c =
    tree_put (λ t. changed_in c.args.patch.now t c.args.path.now) c.self.inside.slots.entries c.args.self.now c.args.i
    c.in-Some-content.tree c.exchange_at.new.tree c.self.view_is
    (ap Some (sym c.in-Some-content.is) ∙ c.in-Some.ensures.value)
    c.exchange_at.ensures.tree
