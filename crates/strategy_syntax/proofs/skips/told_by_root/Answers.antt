use Rattle.std.proofs.Common.{ℕ, None, refl, sym, subst}
use Rattle.strategy_syntax.specs.Resolved.{scope, seq, matches, guard}
use Rattle.strategy_syntax.specs.Apart.{AreApart}
use Rattle.strategy_syntax.proofs.SkippingLemmas.{none_yet, set_entry, skips_by_root}
use Rattle.strategy_syntax.proofs.skips.told_by_root.Goals as goal

pub loop-i-init : goal.loop-i-init
loop-i-init c = λ e n then second.
    subst
    (λ (k : ℕ). AreApart k (guard (scope n (seq (matches c.args.pattern.now) then)) second c.args.other.now) e None)
    (sym (none_yet 64 e)) tt

pub loop-i-preserved : goal.loop-i-preserved
loop-i-preserved c = λ e n then second.
    set_entry c.loop-i.counts c.loop-i.i c.past.result e
    (λ d k. AreApart k (guard (scope n (seq (matches c.args.pattern.now) then)) second c.args.other.now) d None)
    (λ d. tt) (c.past.ensures n then second) (λ d. c.loop-i.invariant d n then second)

pub returns : goal.returns
returns c = λ n then second. skips_by_root _ _ refl (λ e. c.loop-i.invariant e n then second)
