use Rattle.std.proofs.Common.{length, drop}
use Rattle.std.proofs.lemmas.Bool.Decides.{Decides-eqb}
use Rattle.std.proofs.lemmas.Slice.Eq.{starts_is}
use Rattle.term_paths.proofs.path.parts_lie_within.Goals as goal

pub returns : goal.returns
returns c =
    let front =
    starts_is Decides-eqb c.args.inner.now c.args.outer.now c.starts_with.result c.starts_with.ensures.value in
    (λ yes. (drop (length c.args.outer.now) c.args.inner.now, front.0 yes), λ within. front.1 within.0 within.1)
