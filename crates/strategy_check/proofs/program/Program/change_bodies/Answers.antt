use Rattle.std.proofs.Common.{◌≡◌, ap, ◌∙◌}
use Rattle.strategy_check.specs.Programs.{Program}
use Rattle.strategy_check.specs.inside.Changing.{numbers_in}
use Rattle.strategy_check.proofs.program.Program.change_bodies.Goals as goal

pub returns : goal.returns
returns g c =
    let numbers : c.as_slice.result.now ≡ numbers_in c.args.self.now.table c.args.table.now =
    c.as_slice.ensures.value
    ∙ c.in_ok-numbers.ensures ∙ ap (λ (p : Program). numbers_in p.table c.args.table.now) c.self.view_is in
    let bodies : c.self.inside.bodies.items ≡ c.args.self.now.bodies = ap (λ (p : Program). p.bodies) c.self.view_is in
    rw (numbers, bodies, c.in_ok-joined.ensures) at c.put_bodies.ensures
