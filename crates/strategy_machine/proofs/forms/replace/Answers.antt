use Rattle.std.proofs.Common.{◌∙◌, refl}
use Rattle.strategy_machine.proofs.forms.replace.Goals as goal

pub returns-in-Ok : goal.returns-in-Ok
returns-in-Ok c =
    record { part = c.put.ensures ∙ c.new.ensures; shows = c.in-Ok.ensures; rest = (refl, refl, refl, refl, refl) }
