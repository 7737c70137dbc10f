use Rattle.std.proofs.Common.{sym, ◌∙◌}
use Rattle.strategy_check.proofs.checked.stays_faultless.Goals as goal

pub returns-in-Ok : goal.returns-in-Ok
returns-in-Ok g c = λ _. record {
  again = sym c.defines_again.ensures ∙ c.if-defines_again.false;
  clash = sym c.in_ok-has_clash.ensures ∙ c.if-branch.false;
  by_first = sym c.is_noticed.ensures ∙ c.if-is_noticed.false;
  by_last = sym c.is_noticed-2.ensures ∙ c.if-is_noticed-2.false;
  alone = c.in-Ok.ensures.none;
}
