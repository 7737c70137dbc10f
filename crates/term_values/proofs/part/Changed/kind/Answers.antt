use Rattle.std.proofs.Common.{ap, sym}
use Rattle.term_values.proofs.KindLemmas.{kind-after}
use Rattle.term_values.proofs.part.Changed.kind.Goals as goal

pub returns : goal.returns
returns c =
    kind-after c.kind.result c.self.inside.of.now c.args.self.now (ap (λ x. x.before) (sym c.self.view_is))
    c.kind.ensures
