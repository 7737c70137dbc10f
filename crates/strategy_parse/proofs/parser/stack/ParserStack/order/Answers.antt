use Rattle.std.proofs.Common.{sym, ◌∙◌, ap}
use Rattle.std.specs.Prelude.{reverse}
use Rattle.strategy_parse.specs.inside.Forms.{forms}
use Rattle.strategy_parse.specs.inside.Parser.{order_of}
use Rattle.strategy_parse.proofs.StackLemmas.{order-first}
use Rattle.strategy_parse.proofs.parser.stack.ParserStack.order.Goals as goal

pub returns-in-Some : goal.returns-in-Some
unfolding forms
returns-in-Some c =
    let h = rw c.in-Some.is at c.first.ensures.item in
    c.order.ensures ∙ sym (ap (λ l. order_of (reverse l)) (sym c.deref.ensures.value)
    ∙ order-first c.deref.result.now c.in-Some.outermost.now h.3.0 h.1)
