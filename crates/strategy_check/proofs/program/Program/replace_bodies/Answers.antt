use Rattle.std.proofs.Common.{◌≡◌, List, Ok, Err, OnOk, Result, ap, ◌∙◌}
use Rattle.strategy_check.specs.Tables.{Table}
use Rattle.strategy_check.specs.Programs.{Program}
use Rattle.strategy_syntax.specs.declared.resolved.Resolved.{Resolved}
use Rattle.strategy_check.proofs.program.Program.replace_bodies.Goals as goal

abbrev with_bodies_in : Table → List Resolved → Program
with_bodies_in table bodies = record { table = table; bodies = bodies }

with_table : {T E : Type 0} (r : Result T E) (table : Table) (inside bodies all : List Resolved)
    → inside ≡ bodies → OnOk r (bodies ≡ all) →
    OnOk r (with_bodies_in table inside ≡ with_bodies_in table all)
with_table (Ok x) table inside bodies all e h = ap (with_bodies_in table) (e ∙ h)
with_table (Err x) table inside bodies all e h = tt

pub returns : goal.returns
returns g c = with_table _ _ _ _ _ (ap (λ (p : Program). p.bodies) c.self.view_is) c.change_bodies-changed.ensures
