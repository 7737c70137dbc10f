use Rattle.std.proofs.Common.{Ok, sym, ap, subst₂, ◌∙◌}
use Rattle.strategy_syntax.specs.Modules.{Module}
use Rattle.std.specs.Prelude.{List, ℕ}
use Rattle.session_modules.specs.Modules.{ReadsAsModule}
use Rattle.session_modules.proofs.reading.with_name.Goals as goal

pub invariant_of-result : goal.invariant_of-result
invariant_of-result c =
    subst₂ (λ (text : List ℕ) (m : Module). ReadsAsModule text (Ok m))
    (sym (c.new-text.ensures ∙ c.in_ok-from_slice.ensures.items))
    (ap (λ (named : List ℕ × Module). named.1) (sym c.in_ok-named.ensures)) c.requires
