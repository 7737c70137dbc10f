use Rattle.std.proofs.Common.{rules, ◌≡◌, ◌∷◌, sym, ◌∙◌, ap}
use Rattle.std.specs.Prelude.{reverse}
use denote.Enum.Bare.{same_true}
use Rattle.strategy_parse.specs.contracts.parser.state.Infix.{the_type}
use Rattle.strategy_parse.specs.declared.parser.state.ParserFrame.TheVariants.{Operand}
use Rattle.strategy_parse.specs.inside.Forms.{forms}
use Rattle.strategy_parse.proofs.StackLemmas.{top-is}
use Rattle.strategy_parse.proofs.parser.stack.ParserStack.has_operand.Goals as goal

pub returns-in-Some-Operand-clause-yes : goal.returns-in-Some-Operand-clause-yes
unfolding forms
returns-in-Some-Operand-clause-yes c = λ same.
    let h = rw c.in-Some-Operand.is at c.last.ensures.item in
    let operator : c.in-Some-Operand.found ≡ c.args.operator =
    same_true the_type (search rules) c.in-Some-Operand.found c.args.operator (sym c.eq.ensures ∙ same) in
    let top = top-is c.deref.result.now c.in-Some-Operand.field-0.now h.3.0 h.1 in (
      c.in-Some-Operand.field-0-1,
      top.0,
      ap reverse (sym c.deref.ensures.value) ∙ top.1 ∙ ap (λ f. f ∷ top.0)
          (c.in-Some-Operand.field-0-is ∙ ap (λ o. Operand o c.in-Some-Operand.field-0-1) operator),
    )
