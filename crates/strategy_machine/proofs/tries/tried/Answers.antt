use Rattle.std.proofs.Common.{sym, ap, ◌∙◌, subst}
use Rattle.strategy_syntax.specs.Resolved.{guard}
use Rattle.strategy_syntax.specs.ResolvedView.{resolved_of}
use Rattle.strategy_machine.specs.inside.Tries.{IsItself}
use Rattle.strategy_machine.proofs.CallLemmas.{slice_there}
use Rattle.strategy_machine.proofs.HeadLemmas.{no_patterns}
use Rattle.strategy_machine.proofs.TryLemmas.{alone, only_one}
use Rattle.strategy_machine.proofs.tries.tried.Goals as goal

pub returns-then-is_itself : goal.returns-then-is_itself
returns-then-is_itself c =
    let is = c.form.ensures ∙ ap resolved_of c.in-Guard.is
    ∙ (λ i. guard ((sym (ap (λ x. x.0) c.deref.ensures) ∙ c.if-is_name.ensures) i)
    ((sym (ap (λ x. x.1) c.deref-then-is_name.ensures) ∙ c.if-is_id.ensures) i)
    ((sym (ap (λ x. x.2) c.deref-then-is_id.ensures) ∙ c.if-is_id-2.ensures) i)) in
    let one = c.index-strategies-0 in
    let again = c.index-strategies-0-then-is_itself in
    record {
      body = c.in_ok-body.body.now;
      defined = slice_there c.args.definitions.now c.args.definition c.in_ok-body.body.now
          c.in_ok-body.ensures.lookup.3.0 (c.in_ok-body.ensures.lookup.3.1 c.in_ok-body.body.now);
      variables = c.if-body-ne0.false;
      is = is;
      strategies = alone c.args.strategies.now again.result c.if-strategies-ne1.false again.is;
      patterns = no_patterns c.args.patterns.now c.if-patterns-ne0.false;
      itself = subst IsItself
          (only_one c.args.strategies.now one.result again.result c.if-strategies-ne1.false one.is again.is)
          c.if-is_itself.ensures;
      second = ap (λ x. x.1) c.deref-then-is_itself.ensures ∙ sym (ap (λ x. x.1) c.deref-then-is_name.ensures)
          ∙ c.if-is_id.ensures;
      other = ap (λ x. x.2) c.deref-then-is_itself-2.ensures ∙ sym (ap (λ x. x.2) c.deref-then-is_id.ensures)
          ∙ c.if-is_id-2.ensures;
    }
