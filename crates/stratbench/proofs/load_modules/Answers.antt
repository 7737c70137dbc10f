use Rattle.std.proofs.lemmas.Result.{on_ok_weaker}
use Rattle.stratbench.proofs.load_modules.Goals as goal

pub returns-in-Ok : goal.returns-in-Ok
returns-in-Ok g c =
    on_ok_weaker c.commit_modules.result
    (λ committed. (c.begin.new.self, c.set_modules.new.session, c.in_default.ensures.ok, c.in-Ok.ensures, committed))
    c.commit_modules.ensures
